-- `image_update::table_of` meets its contract.
use borrow.Author.Rules.{rules}
use Rattle.bytes_bundle.specs.Held.{same}
use Rattle.image_update.specs.Held.{update_has, update_whole}
use Rattle.image_parts.specs.Layout.{table_with_joins}
use Rattle.image_update.proofs.table_of.Goals as goal

pub part-requires : goal.part-requires
part-requires c = let r = update_whole c.requires in search rules

pub returns : goal.returns
returns c = λ v h. same table_with_joins c.part.ensures (update_has _ v h).table
