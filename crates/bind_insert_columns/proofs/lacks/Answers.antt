-- `bind_insert_columns::lacks` meets its contract.
use borrow.Author.Rules.{rules}
use Rattle.bytes_bundle.specs.Held.{list_bundle}
use Rattle.bytes_bundle.specs.Chains.{list_callable, list_looked}
use Rattle.image_catalogue.specs.Entries.{any_looks}
use Rattle.image_value.specs.Parts.{column_schema}
use Rattle.bind_insert_columns.specs.Columns.{listed, lacking}
use Rattle.bind_insert_columns.proofs.lacks.Goals as goal

pub iter-requires : goal.iter-requires
iter-requires c = (search rules, list_bundle (column_schema 2) (listed c.requires.0 c.columns-list.ensures))

pub any-requires-clause-callable : goal.any-requires-clause-callable
any-requires-clause-callable c =
    list_callable (column_schema 2) 2 _ _ c.iter.ensures (listed c.requires.0 c.columns-list.ensures) (λ x b q k. search rules) (λ x i. search rules)

pub returns : goal.returns
returns c = λ v ns ht hs.
    list_looked (column_schema 2) (any_looks (lacking c.args.need v ns)) 2 _ _ c.iter.ensures _ _ c.any.ensures.ran (λ x b q k. search rules) v.columns (c.columns-list.ensures v ht)
