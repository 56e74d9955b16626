-- `catalogue_sound::is_key_column` meets its contract.
use borrow.Author.Rules.{rules}
use Rattle.bytes_bundle.specs.Chains.{list_callable, list_looked}
use Rattle.image_catalogue.specs.Entries.{any_looks}
use Rattle.image_value.specs.Parts.{column_schema}
use Rattle.catalogue_sound.specs.Sound.{key_column}
use Rattle.catalogue_sound.proofs.is_key_column.Goals as goal

pub any-requires-clause-callable : goal.any-requires-clause-callable
any-requires-clause-callable c = list_callable (column_schema 2) 2 _ _ c.iter.ensures c.requires (λ x b q k. search rules) (λ x i. search rules)

pub returns : goal.returns
returns c = list_looked (column_schema 2) (any_looks (key_column c.args.id)) 2 _ _ c.iter.ensures _ _ c.any.ensures.ran (λ x b q k. search rules)
