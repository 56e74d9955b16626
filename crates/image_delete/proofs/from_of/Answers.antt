-- `image_delete::from_of` meets its contract.
use borrow.Author.Rules.{rules}
use Rattle.bytes_bundle.specs.Held.{same}
use Rattle.image_delete.specs.Held.{delete_has, delete_whole}
use Rattle.image_parts.specs.Layout.{delete_from}
use Rattle.image_delete.proofs.from_of.Goals as goal

pub part-requires : goal.part-requires
part-requires c = let r = delete_whole c.requires in search rules

pub returns : goal.returns
returns c = λ v h. same delete_from c.part.ensures (delete_has _ v h).from
