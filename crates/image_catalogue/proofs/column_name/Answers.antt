-- `image_catalogue::column_name` meets its contract.
use borrow.Author.Rules.{rules}
use mathlib.Core.Path.{sym, ◌∙◌}
use Rattle.image_catalogue.specs.Values.{column_shape, column_held}
use Rattle.image_catalogue.proofs.column_name.Goals as goal

pub part-requires : goal.part-requires
part-requires c = let r = (column_shape c.requires).shape in search rules

pub returns : goal.returns
returns c = λ v h. c.part.ensures ∙ sym (column_held h).name
