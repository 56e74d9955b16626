-- `leaves::leaf` meets its contract: in each arm the kind is known.
use mathlib.Core.Path.{◌≡◌, refl, ap}
use mathlib.Core.Option.{Option, none}
use mathlib.Core.Bool.{true, false}
use native.Mathlib.Omega.{arith}
use Prim.Native.Nat.{◌≤◌}
use lib.ListN.{length}
use Rattle.std.specs.Prelude.{Some, None}
use Rattle.bind_expression.specs.Small.{short_text}
use Rattle.image_expression.specs.Place.{leaf_of, node_at}
use Rattle.rules.specs.Bound.{Value}
use Rattle.rules.specs.Evaluate.{leaf_value}
use Rattle.run_values.specs.declared.Worth.TheVariants as worth
use Rattle.run_values.specs.Worths.{told}
use Rattle.run_expression.proofs.Arms.{only, among}
use Rattle.run_expression.proofs.Places.{known}
use Rattle.run_expression.proofs.Steps.{leaf_says}
use Rattle.run_expression.proofs.leaves.leaf.Goals as goal

pub returns-in-0-clause-works : goal.returns-in-0-clause-works
unfolding leaf_of leaf_value
returns-in-0-clause-works c = let a = c.args in let p = c.requires in leaf_says a.t.now a.e.now a.r.now a.i a.k p.k_value.0 _ p.k_value.1 (λ v h x g. rw (c.in-0.is, ← c.text.ensures) (c.column.ensures.value v h x g))

pub returns-in-1-clause-works : goal.returns-in-1-clause-works
unfolding leaf_of leaf_value
returns-in-1-clause-works c = let a = c.args in let p = c.requires in leaf_says a.t.now a.e.now a.r.now a.i a.k p.k_value.0 _ p.k_value.1 (λ v h x g. rw (c.in-1.is, ← c.text-in-1.ensures) (c.column-in-1.ensures.value v h x g))

pub returns-in-2-clause-works : goal.returns-in-2-clause-works
unfolding leaf_of leaf_value
returns-in-2-clause-works c = let a = c.args in let p = c.requires in leaf_says a.t.now a.e.now a.r.now a.i a.k p.k_value.0 _ p.k_value.1 (λ v h x g. rw (c.in-2.is, ← c.text-in-2.ensures) c.number.ensures.value)

pub returns-in-3-clause-works : goal.returns-in-3-clause-works
unfolding leaf_of leaf_value
returns-in-3-clause-works c = let a = c.args in let p = c.requires in leaf_says a.t.now a.e.now a.r.now a.i a.k p.k_value.0 (Some (worth.Text c.text-in-3.result)) p.k_value.1 (λ v h x g. rw (c.in-3.is, c.text-in-3.ensures))

pub returns-in-3-clause-short : goal.returns-in-3-clause-short
returns-in-3-clause-short c = omega (arith, short_text (known c.type_inv.e) c.requires.workable.node, ap length c.text-in-3.ensures)

pub returns-in-4-clause-works : goal.returns-in-4-clause-works
unfolding leaf_of leaf_value
returns-in-4-clause-works c = let a = c.args in let p = c.requires in leaf_says a.t.now a.e.now a.r.now a.i a.k p.k_value.0 (Some (worth.Bool true)) p.k_value.1 (λ v h x g. rw c.in-4.is)

pub returns-in-5-clause-works : goal.returns-in-5-clause-works
unfolding leaf_of leaf_value
returns-in-5-clause-works c = let a = c.args in let p = c.requires in leaf_says a.t.now a.e.now a.r.now a.i a.k p.k_value.0 (Some (worth.Bool false)) p.k_value.1 (λ v h x g. rw c.in-5.is)

pub returns-in-6-clause-works : goal.returns-in-6-clause-works
unfolding leaf_of leaf_value
returns-in-6-clause-works c = let a = c.args in let p = c.requires in leaf_says a.t.now a.e.now a.r.now a.i a.k p.k_value.0 (Some worth.Null) p.k_value.1 (λ v h x g. rw c.in-6.is)

pub returns-in_default-clause-works : goal.returns-in_default-clause-works
unfolding leaf_of leaf_value
returns-in_default-clause-works c =
    let a = c.args in
    let p = c.requires in
    let lo : 7 ≤ a.k = omega arith in
    leaf_says a.t.now a.e.now a.r.now a.i a.k p.k_value.0 None p.k_value.1 (λ v h x g.
    among (λ j. ◌≡◌ {A = Option Value} none (told (leaf_value v x (leaf_of j (node_at a.e.now a.i).text)))) lo refl (λ l. rw (only l p.k_value.1)))
