-- The cycle {evaluate, evaluate_binary, evaluate_unary} meets its contracts, and ends: `evaluate` at i calls the others at i, and they call
-- `evaluate` below i, so that the measure is 2i for them and 2i + 1 for `evaluate`. What each node comes to is in `Steps`.
use mathlib.Core.Path.{◌∙◌, sym}
use native.Mathlib.Omega.{arith}
use Rattle.run_expression.proofs.Places.{last, first, kinds}
use Rattle.run_expression.proofs.Steps.{literal_says, parens_says, unary_none, unary_says, left_none, right_none, binary_says}
use Rattle.run_expression.proofs.+evaluate_evaluate_binary_evaluate_unary.Goals as goal

pub evaluate-overflow_sub-i : goal.evaluate-overflow_sub-i
evaluate-overflow_sub-i t c =
    (last c.requires c.type_inv.e _ c.kind-k.ensures c.if-k-lt9.false).0

pub evaluate-evaluate-requires : goal.evaluate-evaluate-requires
evaluate-evaluate-requires t c =
    let o = last c.requires c.type_inv.e _ c.kind-k.ensures c.if-k-lt9.false in (omega (arith, o.0), o.1)

pub evaluate-returns-then-k-eq9-clause-works : goal.evaluate-returns-then-k-eq9-clause-works
evaluate-returns-then-k-eq9-clause-works t c =
    parens_says c.args.t.now c.args.e.now c.args.r.now c.args.i _ c.kind-k.ensures _ c.if-k-eq9.true c.evaluate.ensures.works

pub evaluate_binary-overflow_sub-right : goal.evaluate_binary-overflow_sub-right
evaluate_binary-overflow_sub-right t c =
    (last c.requires.workable c.type_inv.e _ c.requires.k_value.0 (omega arith)).0

pub evaluate_binary-overflow_sub-left : goal.evaluate_binary-overflow_sub-left
evaluate_binary-overflow_sub-left t c =
    let l = first c.requires.workable c.type_inv.e _ c.requires.k_value.0 c.requires.k_value.1 _ c.span.ensures in omega (arith, l.0)

pub evaluate_binary-evaluate-requires : goal.evaluate_binary-evaluate-requires
evaluate_binary-evaluate-requires t c =
    let l = first c.requires.workable c.type_inv.e _ c.requires.k_value.0 c.requires.k_value.1 _ c.span.ensures in (omega (arith, l.0), l.1)

pub evaluate_binary-returns-in_err-a-clause-works : goal.evaluate_binary-returns-in_err-a-clause-works
evaluate_binary-returns-in_err-a-clause-works t c =
    left_none c.args.t.now c.args.e.now c.args.r.now c.args.i _ c.requires.k_value.0 _ c.requires.k_value.1 _ c.span.ensures _ c.evaluate.ensures.works c.in_err-a.was c.from_residual.ensures

pub evaluate_binary-evaluate-requires-2 : goal.evaluate_binary-evaluate-requires-2
evaluate_binary-evaluate-requires-2 t c =
    let o = last c.requires.workable c.type_inv.e _ c.requires.k_value.0 (omega arith) in (omega (arith, o.0), o.1)

pub evaluate_binary-returns-in_err-b-clause-works : goal.evaluate_binary-returns-in_err-b-clause-works
evaluate_binary-returns-in_err-b-clause-works t c =
    right_none c.args.t.now c.args.e.now c.args.r.now c.args.i _ c.requires.k_value.0 _ c.requires.k_value.1 _ c.span.ensures _ c.evaluate.ensures.works c.in_ok-a.was _ c.evaluate-2.ensures.works c.in_err-b.was c.from_residual-in_err-b.ensures

pub evaluate_binary-two_operands-requires : goal.evaluate_binary-two_operands-requires
evaluate_binary-two_operands-requires t c =
    (c.requires.k_value.1, kinds c.requires.workable c.type_inv.e _ c.requires.k_value.0)

pub evaluate_binary-returns-clause-works : goal.evaluate_binary-returns-clause-works
evaluate_binary-returns-clause-works t c =
    binary_says c.args.t.now c.args.e.now c.args.r.now c.args.i _ c.requires.k_value.0 _ c.requires.k_value.1 _ c.span.ensures _ c.evaluate.ensures.works c.in_ok-a.was _ c.evaluate-2.ensures.works c.in_ok-b.was c.two_operands.ensures.value

pub evaluate_unary-overflow_sub-below : goal.evaluate_unary-overflow_sub-below
evaluate_unary-overflow_sub-below t c =
    (last c.requires.workable c.type_inv.e _ c.requires.k_value.0 (omega arith)).0

pub evaluate_unary-returns-then-signs_number-clause-works : goal.evaluate_unary-returns-then-signs_number-clause-works
evaluate_unary-returns-then-signs_number-clause-works t c =
    literal_says c.args.t.now c.args.e.now c.args.r.now c.args.i _ c.requires.k_value.0 _ c.requires.k_value.1.0 c.requires.k_value.1.1 (sym c.signs_number.ensures ∙ c.if-signs_number.true) _ c.text.ensures c.number.ensures.value

pub evaluate_unary-evaluate-requires : goal.evaluate_unary-evaluate-requires
evaluate_unary-evaluate-requires t c =
    let o = last c.requires.workable c.type_inv.e _ c.requires.k_value.0 (omega arith) in (omega (arith, o.0), o.1)

pub evaluate_unary-returns-in_err-evaluate-clause-works : goal.evaluate_unary-returns-in_err-evaluate-clause-works
evaluate_unary-returns-in_err-evaluate-clause-works t c =
    unary_none c.args.t.now c.args.e.now c.args.r.now c.args.i _ c.requires.k_value.0 _ c.requires.k_value.1.0 c.requires.k_value.1.1 (sym c.signs_number.ensures ∙ c.if-signs_number.false) _ c.evaluate.ensures.works c.in_err-evaluate.was c.from_residual.ensures

pub evaluate_unary-returns-clause-works : goal.evaluate_unary-returns-clause-works
evaluate_unary-returns-clause-works t c =
    unary_says c.args.t.now c.args.e.now c.args.r.now c.args.i _ c.requires.k_value.0 _ c.requires.k_value.1.0 c.requires.k_value.1.1 (sym c.signs_number.ensures ∙ c.if-signs_number.false) _ c.evaluate.ensures.works c.in_ok-evaluate.was c.one_operand.ensures.value
