-- `image_select::from_of` meets its contract.
use borrow.Author.Rules.{rules}
use Rattle.bytes_bundle.specs.Held.{same}
use Rattle.image_select.specs.Held.{select_has, select_whole}
use Rattle.image_parts.specs.Layout.{select_from}
use Rattle.image_select.proofs.from_of.Goals as goal

pub part-requires : goal.part-requires
part-requires c = let r = select_whole c.requires in search rules

pub returns : goal.returns
returns c = λ v h. same select_from c.part.ensures (select_has _ v h).from
