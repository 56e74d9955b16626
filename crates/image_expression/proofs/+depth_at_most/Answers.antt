-- `depth_at_most` meets its contract, and ends: the budget falls with each call and with each turn of the loop. The invariant: the answer for the
-- node reached, within what is left of the budget, is the answer asked for (`Asks`).
use native.Mathlib.Omega.{arith}
use Rattle.image_expression.specs.Laws.{last_operand, first_operand}
use Rattle.image_expression.proofs.Known.{known}
use Rattle.image_expression.proofs.Deep.{begun, spent, leaf_ends, one_left, deep_ends, two_left}
use Rattle.std.proofs.Common.{ap, not}
use Rattle.image_expression.proofs.+depth_at_most.Goals as goal

pub loop-left-init : goal.loop-left-init
loop-left-init t c = begun c.requires

pub kind-k-requires : goal.kind-k-requires
kind-k-requires t c = c.loop-left.invariant.node

pub returns-then-k-lt9 : goal.returns-then-k-lt9
returns-then-k-lt9 t c = leaf_ends c.loop-left.invariant c.loop-left-test.true c.kind-k.ensures c.if-k-lt9.true

pub overflow_sub-node : goal.overflow_sub-node
overflow_sub-node t c = (last_operand (known c.type_inv.s) c.loop-left.invariant.node _ c.kind-k.ensures c.if-k-lt9.false).0

pub depth_at_most-requires : goal.depth_at_most-requires
depth_at_most-requires t c = (omega (arith, c.loop-left.invariant.fewer), (last_operand (known c.type_inv.s) c.loop-left.invariant.node _ c.kind-k.ensures c.if-k-lt9.false).1)

pub returns-then-not-depth_at_most : goal.returns-then-not-depth_at_most
returns-then-not-depth_at_most t c = deep_ends c.loop-left.invariant c.loop-left-test.true c.kind-k.ensures c.if-k-ge16.true c.depth_at_most.ensures (ap not c.if-not-depth_at_most.true)

pub span-node-requires : goal.span-node-requires
span-node-requires t c = (last_operand (known c.type_inv.s) c.loop-left.invariant.node _ c.kind-k.ensures c.if-k-lt9.false).1

pub overflow_sub-node-then-k-ge16 : goal.overflow_sub-node-then-k-ge16
overflow_sub-node-then-k-ge16 t c =
    let f = first_operand (known c.type_inv.s) c.loop-left.invariant.node _ c.kind-k.ensures _ c.span-node.ensures c.if-k-ge16.true in
    omega (arith, f.0)

pub loop-left-preserved-then-k-ge16 : goal.loop-left-preserved-then-k-ge16
loop-left-preserved-then-k-ge16 t c = two_left c.loop-left.invariant c.loop-left-test.true c.kind-k.ensures c.if-k-ge16.true c.depth_at_most.ensures (known c.type_inv.s) (ap not c.if-not-depth_at_most.false) c.span-node.ensures

pub loop-left-preserved : goal.loop-left-preserved
loop-left-preserved t c = one_left c.loop-left.invariant c.loop-left-test.true c.kind-k.ensures (known c.type_inv.s) c.if-k-lt9.false c.if-k-ge16.false

pub returns : goal.returns
returns t c = spent c.loop-left.invariant c.loop-left-test.false
