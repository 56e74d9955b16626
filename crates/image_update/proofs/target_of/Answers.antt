-- `image_update::target_of` meets its contract.
use borrow.Author.Rules.{rules}
use Rattle.bytes_bundle.specs.Held.{same}
use Rattle.image_update.specs.Held.{assignment_has, assignment_whole}
use Rattle.image_parts.specs.Layout.{assignment_target}
use Rattle.image_update.proofs.target_of.Goals as goal

pub part-requires : goal.part-requires
part-requires c = let r = assignment_whole c.requires in search rules

pub returns : goal.returns
returns c = λ v h. same assignment_target c.part.ensures (assignment_has _ v h).target
