-- `image_row::is_row` meets its contract.
use borrow.Author.Rules.{rules}
use Rattle.bytes_bundle.specs.Chains.{list_tested}
use Rattle.image_value.specs.Parts.{value}
use Rattle.image_row.specs.Layout.{row}
use Rattle.std.proofs.Common.{sym, ◌∙◌}
use Rattle.image_row.proofs.is_row.Goals as goal

pub returns-then-is_bundle : goal.returns-then-is_bundle
unfolding row
returns-then-is_bundle c =
    list_tested value 4 _ (sym c.is_bundle.ensures ∙ c.if-is_bundle.true) _ c.iter.ensures _ _ c.all.ensures.ran (λ x b q k. search rules)
