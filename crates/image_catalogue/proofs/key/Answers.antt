-- `image_catalogue::key` meets its contract.
use borrow.Author.Rules.{rules}
use mathlib.Core.Path.{ap, ◌∙◌}
use Rattle.bytes_format.proofs.Formats.{alone, list_of}
use Rattle.image_value.specs.Parts.{column_id}
use Rattle.image_catalogue.specs.Values.{table_shape, table_held}
use Rattle.image_catalogue.proofs.key.Goals as goal

pub part-requires : goal.part-requires
part-requires c = let r = (table_shape c.requires).shape in search rules

pub returns : goal.returns
returns c = λ v h. ap (list_of 2 (alone column_id)).read c.part.ensures ∙ (table_held h).key
