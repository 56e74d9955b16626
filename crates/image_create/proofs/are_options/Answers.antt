-- `image_create::are_options` meets its contract.
use borrow.Author.Rules.{rules}
use Rattle.bytes_bundle.specs.Chains.{list_tested}
use Rattle.image_parts.specs.Layout.{option}
use Rattle.std.proofs.Common.{sym, ◌∙◌}
use Rattle.image_create.proofs.are_options.Goals as goal

pub returns-then-is_bundle : goal.returns-then-is_bundle
returns-then-is_bundle c =
    list_tested option 2 _ (sym c.is_bundle.ensures ∙ c.if-is_bundle.true) _ c.iter.ensures _ _ c.all.ensures.ran (λ x b q k. search rules)
