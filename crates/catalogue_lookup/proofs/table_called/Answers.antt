-- `catalogue_lookup::table_called` meets its contract.
use borrow.Author.Rules.{rules}
use Rattle.catalogue_lookup.specs.Found.{find_callable, list_found}
use Rattle.image_catalogue.specs.Layout.{table}
use Rattle.rules.specs.Tables.{table_by_name, table_named}
use Rattle.catalogue_lookup.proofs.table_called.Goals as goal

pub find-requires-clause-callable : goal.find-requires-clause-callable
find-requires-clause-callable c = find_callable table 2 _ _ c.iter.ensures c.requires (λ x b q k. search rules) (λ x i. search rules)

pub returns : goal.returns
unfolding table_by_name
returns c = list_found table (table_named c.args.name.now) (λ x b q k. search rules) 2 _ _ c.iter.ensures _ _ c.find.ensures.ran
