-- `catalogue_limits::are_columns_within` meets its contract.
use borrow.Author.Rules.{rules}
use Rattle.bytes_bundle.specs.Chains.{list_callable, list_looked}
use Rattle.image_catalogue.specs.Entries.{all_looks}
use Rattle.image_value.specs.Parts.{column_schema}
use Rattle.catalogue_limits.specs.Within.{column_within}
use Rattle.catalogue_limits.proofs.are_columns_within.Goals as goal

pub all-requires-clause-callable : goal.all-requires-clause-callable
all-requires-clause-callable c = list_callable (column_schema 2) 2 _ _ c.iter.ensures c.requires (λ x b q k. search rules) (λ x i. search rules)

pub returns : goal.returns
returns c = list_looked (column_schema 2) (all_looks column_within) 2 _ _ c.iter.ensures _ _ c.all.ensures.ran (λ x b q k. search rules)
