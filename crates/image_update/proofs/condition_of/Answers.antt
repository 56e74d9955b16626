-- `image_update::condition_of` meets its contract.
use borrow.Author.Rules.{rules}
use Rattle.bytes_bundle.specs.Held.{same}
use Rattle.image_update.specs.Held.{update_has, update_whole}
use Rattle.image_parts.specs.Layout.{condition}
use Rattle.image_update.proofs.condition_of.Goals as goal

pub part-requires : goal.part-requires
part-requires c = let r = update_whole c.requires in search rules

pub returns : goal.returns
returns c = λ v h. same condition c.part.ensures (update_has _ v h).condition
