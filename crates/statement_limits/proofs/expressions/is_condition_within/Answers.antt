-- `statement_limits::expressions::is_condition_within` meets its contract.
use Rattle.bytes_bundle.specs.Decides.{failed, passed}
use Rattle.bytes_bundle.specs.Looks.{Inside, inside_is, inside_says}
use Rattle.image_expression.specs.Expression.{expression}
use Rattle.statement_limits.specs.Cases.{no_condition, condition_inside}
use Rattle.statement_limits.specs.Within.{expression_within, condition_within}
use Rattle.rules.specs.Limits.{if_there}
use Rattle.rules.specs.Lists.{all}
use Rattle.image_parts.specs.Layout.{condition}
use mathlib.Core.Bool.{and-true}
use mathlib.Core.List.{[], ◌∷◌}
use mathlib.Core.Path.{sym, ap, ◌∙◌}
use Rattle.statement_limits.proofs.expressions.is_condition_within.Goals.{Else-not-has_condition}
use Rattle.std.proofs.Common.{not}
use Rattle.statement_limits.proofs.expressions.is_condition_within.Goals as goal

inner : (c : Else-not-has_condition) → Inside condition expression if_there (λ e. e ∷ []) c.args.c.now c.args.c.now
inner c = condition_inside (λ v h. passed (c.has_condition.ensures v h) (ap not c.if-not-has_condition.false))

pub returns-then-not-has_condition : goal.returns-then-not-has_condition
unfolding condition_within
returns-then-not-has_condition c = λ v h. sym (ap (all expression_within) (no_condition v (failed (c.has_condition.ensures v h) (ap not c.if-not-has_condition.true))))

pub is_expression_within-requires : goal.is_expression_within-requires
is_expression_within-requires c = inside_is (inner (goal.at.is_expression_within-requires c).Else-not-has_condition) c.requires

pub returns : goal.returns
unfolding condition_within
returns c = inside_says (inner (goal.at.returns c).Else-not-has_condition) (all expression_within) (λ e h. c.is_expression_within.ensures e h ∙ sym (and-true (expression_within e)))
