-- The cycle {mark, mark_binary, mark_null_test, mark_unary} meets its contracts, and ends: `mark` at i calls the others at i, and they call
-- `mark` below i, so that the measure is 2i for them and 2i + 1 for `mark`. What each node's answer is made of is in `Steps`.
use mathlib.Core.Path.{◌∙◌, refl, sym}
use native.Mathlib.Omega.{arith}
use Rattle.std.proofs.lemmas.Result.{err_from_is_err_and}
use Rattle.bind_expression.specs.Small.{small}
use Rattle.bind_expression.proofs.Places.{known, last, first, kinds}
use Rattle.bind_expression.proofs.Steps.{literal_says, parens_says, null_says, operator_says, left_says, bin_says}
use Rattle.bind_expression.proofs.+mark_mark_binary_mark_null_test_mark_unary.Goals as goal

pub mark-kind-k-requires : goal.mark-kind-k-requires
mark-kind-k-requires t c =
    c.requires.node

pub mark-leaf-requires : goal.mark-leaf-requires
mark-leaf-requires t c =
    record { markable = c.requires; k_value = (c.kind-k.ensures, c.if-k-lt9.true) }

pub mark-returns-then-k-lt9 : goal.mark-returns-then-k-lt9
mark-returns-then-k-lt9 t c = c.leaf.ensures

pub mark-mark_binary-requires : goal.mark-mark_binary-requires
mark-mark_binary-requires t c =
    (omega arith, (c.requires, (c.kind-k.ensures, c.if-k-ge16.true)))

pub mark-returns-then-k-ge16 : goal.mark-returns-then-k-ge16
mark-returns-then-k-ge16 t c = c.mark_binary.ensures

pub mark-overflow_sub-i : goal.mark-overflow_sub-i
mark-overflow_sub-i t c =
    (last c.type_inv.e c.requires _ c.kind-k.ensures c.if-k-lt9.false).0

pub mark-mark-requires : goal.mark-mark-requires
mark-mark-requires t c =
    let o = last c.type_inv.e c.requires _ c.kind-k.ensures c.if-k-lt9.false in (omega (arith, o.0), o.1)

pub mark-returns-then-k-eq9 : goal.mark-returns-then-k-eq9
mark-returns-then-k-eq9 t c =
    parens_says c.args.t.now c.args.e.now c.args.i _ c.kind-k.ensures _ c.if-k-eq9.true c.mark.ensures

pub mark-mark_null_test-requires : goal.mark-mark_null_test-requires
mark-mark_null_test-requires t c =
    (omega arith, (c.requires, (c.kind-k.ensures, (omega arith, c.if-k-lt12.true))))

pub mark-returns-then-k-lt12 : goal.mark-returns-then-k-lt12
mark-returns-then-k-lt12 t c = c.mark_null_test.ensures

pub mark-mark_unary-requires : goal.mark-mark_unary-requires
mark-mark_unary-requires t c =
    (omega arith, (c.requires, (c.kind-k.ensures, (c.if-k-lt12.false, c.if-k-ge16.false))))

pub mark-returns : goal.mark-returns
mark-returns t c = c.mark_unary.ensures

pub mark_binary-overflow_sub-right : goal.mark_binary-overflow_sub-right
mark_binary-overflow_sub-right t c =
    (last c.type_inv.e c.requires.markable _ c.requires.k_value.0 (omega arith)).0

pub mark_binary-span-requires : goal.mark_binary-span-requires
mark_binary-span-requires t c =
    (last c.type_inv.e c.requires.markable _ c.requires.k_value.0 (omega arith)).1.node

pub mark_binary-overflow_sub-left : goal.mark_binary-overflow_sub-left
mark_binary-overflow_sub-left t c =
    let l = first c.type_inv.e c.requires.markable _ c.requires.k_value.0 c.requires.k_value.1 _ c.span.ensures in omega (arith, l.0)

pub mark_binary-mark-requires : goal.mark_binary-mark-requires
mark_binary-mark-requires t c =
    let l = first c.type_inv.e c.requires.markable _ c.requires.k_value.0 c.requires.k_value.1 _ c.span.ensures in (omega (arith, l.0), l.1)

pub mark_binary-mark-requires-2 : goal.mark_binary-mark-requires-2
mark_binary-mark-requires-2 t c =
    let o = last c.type_inv.e c.requires.markable _ c.requires.k_value.0 (omega arith) in (omega (arith, o.0), o.1)

pub mark_binary-two_operands-requires : goal.mark_binary-two_operands-requires
mark_binary-two_operands-requires t c =
    let b = c.type_inv.e in
    let l = first b c.requires.markable _ c.requires.k_value.0 c.requires.k_value.1 _ c.span.ensures in
    let o = last b c.requires.markable _ c.requires.k_value.0 (omega arith) in (
      (c.requires.k_value.1, kinds b c.requires.markable _ c.requires.k_value.0),
      (small (known b) l.1 c.mark.ensures c.in_ok-a.was, small (known b) o.1 c.mark-2.ensures c.in_ok-b.was),
    )

pub mark_binary-returns : goal.mark_binary-returns
mark_binary-returns t c =
    bin_says c.args.t.now c.args.e.now c.args.i _ c.requires.k_value.0 _ c.requires.k_value.1 _ c.span.ensures _ c.mark.ensures _ c.in_ok-a.was _ c.mark-2.ensures (rw c.in_ok-b.was c.two_operands.ensures)

pub mark_binary-returns-in_err-b : goal.mark_binary-returns-in_err-b
mark_binary-returns-in_err-b t c =
    let p = err_from_is_err_and c.from_residual-in_err-b.result c.from_residual-in_err-b.ensures.1 in
    rw (p.1, p.2) (bin_says c.args.t.now c.args.e.now c.args.i _ c.requires.k_value.0 _ c.requires.k_value.1 _ c.span.ensures _ c.mark.ensures _ c.in_ok-a.was _ c.mark-2.ensures (rw c.in_err-b.was))

pub mark_binary-returns-in_err-a : goal.mark_binary-returns-in_err-a
mark_binary-returns-in_err-a t c =
    let p = err_from_is_err_and c.from_residual.result c.from_residual.ensures.1 in
    rw (p.1, p.2) (left_says c.args.t.now c.args.e.now c.args.i _ c.requires.k_value.0 _ c.requires.k_value.1 _ c.span.ensures _ c.mark.ensures _ c.in_err-a.was refl)

pub mark_null_test-overflow_sub-i : goal.mark_null_test-overflow_sub-i
mark_null_test-overflow_sub-i t c =
    (last c.type_inv.e c.requires.markable _ c.requires.k_value.0 (omega arith)).0

pub mark_null_test-mark-requires : goal.mark_null_test-mark-requires
mark_null_test-mark-requires t c =
    let o = last c.type_inv.e c.requires.markable _ c.requires.k_value.0 (omega arith) in (omega (arith, o.0), o.1)

pub mark_null_test-null_test-requires : goal.mark_null_test-null_test-requires
mark_null_test-null_test-requires t c =
    let b = c.type_inv.e in
    small (known b) (last b c.requires.markable _ c.requires.k_value.0 (omega arith)).1 c.mark.ensures c.in_ok-m.was

pub mark_null_test-returns : goal.mark_null_test-returns
mark_null_test-returns t c =
    null_says c.args.t.now c.args.e.now c.args.i _ c.requires.k_value.0 _ c.requires.k_value.1.0 c.requires.k_value.1.1 _ c.mark.ensures (rw c.in_ok-m.was c.null_test.ensures)

pub mark_null_test-returns-in_err-m : goal.mark_null_test-returns-in_err-m
mark_null_test-returns-in_err-m t c =
    let p = err_from_is_err_and c.from_residual.result c.from_residual.ensures.1 in
    rw (p.1, p.2) (null_says c.args.t.now c.args.e.now c.args.i _ c.requires.k_value.0 _ c.requires.k_value.1.0 c.requires.k_value.1.1 _ c.mark.ensures (rw c.in_err-m.was))

pub mark_unary-overflow_sub-below : goal.mark_unary-overflow_sub-below
mark_unary-overflow_sub-below t c =
    (last c.type_inv.e c.requires.markable _ c.requires.k_value.0 (omega arith)).0

pub mark_unary-signs_number-requires : goal.mark_unary-signs_number-requires
mark_unary-signs_number-requires t c =
    (last c.type_inv.e c.requires.markable _ c.requires.k_value.0 (omega arith)).1.node

pub mark_unary-text-requires : goal.mark_unary-text-requires
mark_unary-text-requires t c =
    (last c.type_inv.e c.requires.markable _ c.requires.k_value.0 (omega arith)).1.node

pub mark_unary-returns-then-signs_number : goal.mark_unary-returns-then-signs_number
mark_unary-returns-then-signs_number t c =
    literal_says c.args.t.now c.args.e.now c.args.i _ c.requires.k_value.0 _ c.requires.k_value.1.0 (sym c.signs_number.ensures ∙ c.if-signs_number.true) _ c.text.ensures c.number.ensures

pub mark_unary-mark-requires : goal.mark_unary-mark-requires
mark_unary-mark-requires t c =
    let o = last c.type_inv.e c.requires.markable _ c.requires.k_value.0 (omega arith) in (omega (arith, o.0), o.1)

pub mark_unary-one_operand-requires : goal.mark_unary-one_operand-requires
mark_unary-one_operand-requires t c =
    let b = c.type_inv.e in
    (c.requires.k_value.1, small (known b) (last b c.requires.markable _ c.requires.k_value.0 (omega arith)).1 c.mark.ensures c.in_ok-m.was)

pub mark_unary-returns : goal.mark_unary-returns
mark_unary-returns t c =
    operator_says c.args.t.now c.args.e.now c.args.i _ c.requires.k_value.0 _ c.requires.k_value.1.0 c.requires.k_value.1.1 (sym c.signs_number.ensures ∙ c.if-signs_number.false) _ c.mark.ensures (rw c.in_ok-m.was c.one_operand.ensures)

pub mark_unary-returns-in_err-m : goal.mark_unary-returns-in_err-m
mark_unary-returns-in_err-m t c =
    let p = err_from_is_err_and c.from_residual.result c.from_residual.ensures.1 in
    rw (p.1, p.2) (operator_says c.args.t.now c.args.e.now c.args.i _ c.requires.k_value.0 _ c.requires.k_value.1.0 c.requires.k_value.1.1 (sym c.signs_number.ensures ∙ c.if-signs_number.false) _ c.mark.ensures (rw c.in_err-m.was))
