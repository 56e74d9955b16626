-- `image_catalogue::columns` meets its contract.
use borrow.Author.Rules.{rules}
use mathlib.Core.Path.{ap, ◌∙◌}
use Rattle.bytes_format.proofs.Formats.{list_of}
use Rattle.image_value.specs.Parts.{column_schema}
use Rattle.image_catalogue.specs.Values.{table_shape, table_held}
use Rattle.image_catalogue.proofs.columns.Goals as goal

pub part-requires : goal.part-requires
part-requires c = let r = (table_shape c.requires).shape in search rules

pub returns : goal.returns
returns c = λ v h. ap (list_of 2 (column_schema 2)).read c.part.ensures ∙ (table_held h).columns
