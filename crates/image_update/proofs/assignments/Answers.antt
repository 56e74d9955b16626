-- `image_update::assignments` meets its contract.
use borrow.Author.Rules.{rules}
use Rattle.bytes_bundle.specs.Held.{same}
use Rattle.image_update.specs.Held.{update_has, update_whole}
use Rattle.bytes_format.proofs.Formats.{list_of}
use Rattle.image_parts.specs.Layout.{assignment}
use Rattle.image_update.proofs.assignments.Goals as goal

pub part-requires : goal.part-requires
part-requires c = let r = update_whole c.requires in search rules

pub returns : goal.returns
returns c = λ v h. same (list_of 2 assignment) c.part.ensures (update_has _ v h).assignments
