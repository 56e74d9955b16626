-- `image_catalogue::table_name` meets its contract.
use borrow.Author.Rules.{rules}
use mathlib.Core.Path.{sym, ◌∙◌}
use Rattle.image_catalogue.specs.Values.{table_shape, table_held}
use Rattle.image_catalogue.proofs.table_name.Goals as goal

pub part-requires : goal.part-requires
part-requires c = let r = (table_shape c.requires).shape in search rules

pub returns : goal.returns
returns c = λ v h. c.part.ensures ∙ sym (table_held h).name
