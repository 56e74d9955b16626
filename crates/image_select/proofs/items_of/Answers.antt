-- `image_select::items_of` meets its contract.
use borrow.Author.Rules.{rules}
use Rattle.bytes_bundle.specs.Held.{same}
use Rattle.image_select.specs.Held.{select_has, select_whole}
use Rattle.bytes_format.proofs.Formats.{list_of}
use Rattle.image_parts.specs.Layout.{item}
use Rattle.image_select.proofs.items_of.Goals as goal

pub part-requires : goal.part-requires
part-requires c = let r = select_whole c.requires in search rules

pub returns : goal.returns
returns c = λ v h. same (list_of 2 item) c.part.ensures (select_has _ v h).items
