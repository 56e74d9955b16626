-- `image_select::condition_of` meets its contract.
use borrow.Author.Rules.{rules}
use Rattle.bytes_bundle.specs.Held.{same}
use Rattle.image_select.specs.Held.{select_has, select_whole}
use Rattle.image_parts.specs.Layout.{condition}
use Rattle.image_select.proofs.condition_of.Goals as goal

pub part-requires : goal.part-requires
part-requires c = let r = select_whole c.requires in search rules

pub returns : goal.returns
returns c = λ v h. same condition c.part.ensures (select_has _ v h).condition
