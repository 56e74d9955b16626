-- A condition: what it is bound to is what its expression is bound to.
-- Assumes nothing.
use Rattle.std.specs.Prelude.{◌≡◌}
use Rattle.std.proofs.Common.{ap, ◌∙◌}
use Rattle.bind_table.specs.Steps.{classed, step_on, step_off}
use Rattle.rules.specs.declared.Class.{Class}
use Rattle.rules.specs.declared.Refusal.{Refusal}
use Rattle.rules.specs.Answers.{given, refused, fine, flaw, judged}
use Rattle.rules.specs.Bound.{BoundExpr, mark_of}
use Rattle.rules.specs.Fits.{is_condition, bind_boolean_filter}
use Rattle.rules.specs.Marking.{bind_expression}
use Rattle.rules.specs.Statements.{Expr}
use Rattle.rules.specs.Tables.{TableSchema}
use Rattle.rules.proofs.Theorems.Answered.{bind_given}

module _ (v : TableSchema) (x : Expr) where
  pub filter_off : {r : Refusal} → bind_expression v x ≡ refused r → bind_boolean_filter v x ≡ refused r
  unfolding bind_boolean_filter
  filter_off e = step_off _ e

  module _ {b : BoundExpr} (e : bind_expression v x ≡ given b) where
    pub filter_flaw : {k : Class} → is_condition (mark_of b) ≡ flaw k → bind_boolean_filter v x ≡ refused (classed k)
    unfolding bind_boolean_filter
    filter_flaw h = step_on _ e ∙ step_off _ (ap judged h)

    pub filter_on : is_condition (mark_of b) ≡ fine tt → bind_boolean_filter v x ≡ given b
    unfolding bind_boolean_filter
    filter_on h = step_on _ e ∙ step_on _ (ap judged h)

  -- a condition that is bound is the expression that is bound
  pub filter_given : {b : BoundExpr} → bind_boolean_filter v x ≡ given b → bind_expression v x ≡ given b
  unfolding bind_boolean_filter
  filter_given {b} h =
      let y = bind_given (bind_expression v x) _ b h in
      let j = bind_given (judged (is_condition (mark_of y.0))) _ b y.2 in
      y.1 ∙ j.2
