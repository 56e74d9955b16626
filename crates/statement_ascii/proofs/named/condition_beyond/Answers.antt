-- `statement_ascii::named::condition_beyond` meets its contract.
use Rattle.statement_ascii.specs.Beyond.{Beyond}
use Rattle.bytes_bundle.specs.Decides.{failed, passed}
use Rattle.bytes_bundle.specs.Looks.{Inside, inside_is, inside_says}
use Rattle.image_expression.specs.Expression.{expression}
use Rattle.statement_limits.specs.Cases.{no_condition, condition_inside}
use Rattle.rules.specs.Limits.{gather, if_there, expression_names}
use Rattle.rules.specs.Statements.{Expr}
use Rattle.image_parts.specs.Layout.{condition}
use mathlib.Core.Bool.{Bool}
use mathlib.Core.List.{List, [], ◌∷◌, append-nil}
use mathlib.Core.Path.{sym, ap, ◌∙◌}
use Rattle.statement_ascii.proofs.named.condition_beyond.Goals.{Else-not-has_condition}
use Rattle.std.proofs.Common.{not}
use Rattle.statement_ascii.proofs.named.condition_beyond.Goals as goal

-- the names of the expressions that are there
abbrev beyond : List Expr → Bool
beyond l = Beyond (gather expression_names l)

inner : (c : Else-not-has_condition) → Inside condition expression if_there (λ e. e ∷ []) c.args.c.now c.args.c.now
inner c = condition_inside (λ v h. passed (c.has_condition.ensures v h) (ap not c.if-not-has_condition.false))

pub returns-then-not-has_condition : goal.returns-then-not-has_condition
returns-then-not-has_condition c = λ v h. sym (ap beyond (no_condition v (failed (c.has_condition.ensures v h) (ap not c.if-not-has_condition.true))))

pub returns : goal.returns
returns c = inside_says (inner (goal.at.returns c).Else-not-has_condition) beyond (λ e h. c.value_beyond.ensures e h ∙ sym (ap Beyond (append-nil (expression_names e))))
