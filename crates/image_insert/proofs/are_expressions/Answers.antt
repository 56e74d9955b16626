-- `image_insert::are_expressions` meets its contract.
use borrow.Author.Rules.{rules}
use Rattle.bytes_bundle.specs.Chains.{list_tested}
use Rattle.image_expression.specs.Expression.{expression}
use Rattle.std.proofs.Common.{sym, ◌∙◌}
use Rattle.image_insert.proofs.are_expressions.Goals as goal

pub returns-then-is_bundle : goal.returns-then-is_bundle
returns-then-is_bundle c =
    list_tested expression 2 _ (sym c.is_bundle.ensures ∙ c.if-is_bundle.true) _ c.iter.ensures _ _ c.all.ensures.ran (λ x b q k. search rules)
