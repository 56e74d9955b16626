-- `catalogue_sound::are_key_ids` meets its contract.
use borrow.Author.Rules.{rules}
use Rattle.bytes_format.proofs.Formats.{alone}
use Rattle.bytes_bundle.specs.Chains.{list_callable, list_looked}
use Rattle.image_catalogue.specs.Entries.{all_looks}
use Rattle.image_value.specs.Parts.{column_id}
use Rattle.rules.specs.Tables.{is_key_column}
use Rattle.catalogue_sound.proofs.are_key_ids.Goals as goal

pub all-requires-clause-callable : goal.all-requires-clause-callable
all-requires-clause-callable c = list_callable (alone column_id) 2 _ _ c.iter.ensures c.requires.0 (λ x b q k. search rules) (λ x i. search rules)

pub returns : goal.returns
returns c = λ vs e cs g.
    list_looked (alone column_id) (all_looks (is_key_column cs)) 2 _ _ c.iter.ensures _ _ c.all.ensures.ran (λ x b q k. search rules) vs e
