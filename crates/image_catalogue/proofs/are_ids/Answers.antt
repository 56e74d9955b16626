-- `image_catalogue::are_ids` meets its contract.
use borrow.Author.Rules.{rules}
use Rattle.bytes_format.proofs.Formats.{alone}
use Rattle.bytes_bundle.specs.Chains.{list_tested}
use Rattle.image_value.specs.Parts.{column_id}
use Rattle.image_catalogue.specs.Shapes.{id_is}
use Rattle.std.proofs.Common.{sym, ◌∙◌}
use Rattle.image_catalogue.proofs.are_ids.Goals as goal

pub returns-then-is_bundle : goal.returns-then-is_bundle
returns-then-is_bundle c =
    list_tested (alone column_id) 2 _ (sym c.is_bundle.ensures ∙ c.if-is_bundle.true) _ c.iter.ensures _ _ c.all.ensures.ran
    (λ x b q k. let e = id_is x.now in search rules)
