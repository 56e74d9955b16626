-- `leaves::leaf` meets its contract: in each arm the kind is known.
use mathlib.Core.Path.{◌≡◌, refl, sym, ap}
use mathlib.Core.Bool.{true, false}
use Prim.Native.Nat.{◌≤◌}
use lib.ListN.{length}
use Rattle.std.specs.Prelude.{Err}
use Rattle.rules.specs.Bound.{Value}
use Rattle.rules.specs.Marking.{leaf_rule}
use Rattle.image_expression.specs.Place.{node_at, leaf_of}
use Rattle.bind_expression.proofs.Arms.{past, least, only}
use Rattle.bind_expression.proofs.Steps.{leaf_says}
use Rattle.bind_expression.proofs.leaves.leaf.Goals as goal

pub returns-in-0 : goal.returns-in-0
unfolding leaf_of leaf_rule
returns-in-0 c =
    let a = c.args in
    let p = c.requires in
    leaf_says a.t.now a.e.now a.i a.k p.k_value.0 _ p.k_value.1 (λ v h. rw (c.in-0.is, ← c.text.ensures) (c.column.ensures v h))

pub returns-in-1 : goal.returns-in-1
unfolding leaf_of leaf_rule
returns-in-1 c =
    let a = c.args in
    let p = c.requires in
    leaf_says a.t.now a.e.now a.i a.k p.k_value.0 _ p.k_value.1 (λ v h. rw (c.in-1.is, ← c.text-in-1.ensures) (c.column-in-1.ensures v h))

pub returns-in-2 : goal.returns-in-2
unfolding leaf_of leaf_rule
returns-in-2 c =
    let a = c.args in
    let p = c.requires in
    leaf_says a.t.now a.e.now a.i a.k p.k_value.0 _ p.k_value.1 (λ v h. rw (c.in-2.is, ← c.text-in-2.ensures) c.number.ensures)

pub returns-in-3 : goal.returns-in-3
unfolding leaf_of leaf_rule
returns-in-3 c =
    let a = c.args in
    let p = c.requires in
    leaf_says a.t.now a.e.now a.i a.k p.k_value.0 _ p.k_value.1 (λ v h.
    rw c.in-3.is (c.literal.ensures (Value.text (node_at a.e.now a.i).text) refl (sym (ap length c.text-in-3.ensures))))

pub returns-in-4 : goal.returns-in-4
unfolding leaf_of leaf_rule
returns-in-4 c =
    let a = c.args in
    let p = c.requires in
    leaf_says a.t.now a.e.now a.i a.k p.k_value.0 _ p.k_value.1 (λ v h. rw c.in-4.is (c.literal-in-4.ensures (Value.bool true) refl refl))

pub returns-in-5 : goal.returns-in-5
unfolding leaf_of leaf_rule
returns-in-5 c =
    let a = c.args in
    let p = c.requires in
    leaf_says a.t.now a.e.now a.i a.k p.k_value.0 _ p.k_value.1 (λ v h. rw c.in-5.is (c.literal-in-5.ensures (Value.bool false) refl refl))

pub returns-in-6 : goal.returns-in-6
unfolding leaf_of leaf_rule
returns-in-6 c =
    let a = c.args in
    let p = c.requires in
    leaf_says a.t.now a.e.now a.i a.k p.k_value.0 _ p.k_value.1 (λ v h. rw c.in-6.is (c.literal-in-6.ensures Value.null refl refl))

pub returns-in-7 : goal.returns-in-7
unfolding leaf_of leaf_rule
returns-in-7 c =
    let a = c.args in
    let p = c.requires in
    leaf_says a.t.now a.e.now a.i a.k p.k_value.0 _ p.k_value.1 (λ v h. rw c.in-7.is (ap Err c.into.ensures))

pub returns-in_default : goal.returns-in_default
unfolding leaf_of leaf_rule
returns-in_default c =
    let a = c.args in
    let p = c.requires in
    let n = c.in_default.in_default-own.rest in
    let lo : 8 ≤ a.k = past (past (past (past (past (past (past (past (least a.k) n.0.0.0.0.0.0.0.1) n.0.0.0.0.0.0.1) n.0.0.0.0.0.1) n.0.0.0.0.1) n.0.0.0.1) n.0.0.1) n.0.1) n.1 in
    let z : a.k ≡ 8 = only lo p.k_value.1 in
    leaf_says a.t.now a.e.now a.i a.k p.k_value.0 _ p.k_value.1 (λ v h. rw z (ap Err c.into-in_default.ensures))
