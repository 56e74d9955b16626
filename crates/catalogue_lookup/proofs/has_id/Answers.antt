-- `catalogue_lookup::has_id` meets its contract.
use borrow.Author.Rules.{rules}
use Rattle.bytes_format.proofs.Formats.{alone}
use Rattle.bytes_bundle.specs.Chains.{list_callable, list_looked}
use Rattle.image_catalogue.specs.Entries.{any_looks}
use Rattle.image_value.specs.Parts.{column_id}
use Rattle.rules.specs.Tables.{same_id}
use Rattle.catalogue_lookup.proofs.has_id.Goals as goal

pub any-requires-clause-callable : goal.any-requires-clause-callable
any-requires-clause-callable c = list_callable (alone column_id) 2 _ _ c.iter.ensures c.requires (λ x b q k. search rules) (λ x i. search rules)

pub returns : goal.returns
returns c = list_looked (alone column_id) (any_looks (same_id c.args.id)) 2 _ _ c.iter.ensures _ _ c.any.ensures.ran (λ x b q k. search rules)
