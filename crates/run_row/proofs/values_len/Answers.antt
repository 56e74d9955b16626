-- `run_row::values_len` meets its contract. The invariant: how long the values before position p are.
use native.Mathlib.Omega.{arith}
use borrow.Author.Rules.{rules}
use Rattle.run_plan.specs.Runs.{runs_row}
use Rattle.image_row.specs.Obeyed.{row_bundle}
use Rattle.run_row.specs.Turns.{count_few, turn_draws, measuring_none, measuring_on, measuring_end}
use Rattle.run_row.proofs.values_len.Goals as goal

pub parts-n-requires : goal.parts-n-requires
parts-n-requires c = (search rules, row_bundle (runs_row c.requires.0.0))

pub loop-p-init : goal.loop-p-init
loop-p-init c = (omega (arith, c.count_len-sum.ensures.0), measuring_none c.count_len-sum.ensures.0)

pub offset_bounds-from-p : goal.offset_bounds-from-p
offset_bounds-from-p c = let q = c.requires in omega (arith, count_few q.0.0 q.1.drawn, c.parts-n.ensures, c.loop-p-test.true)

pub bounds-from-p : goal.bounds-from-p
bounds-from-p c = let q = c.requires in omega (arith, count_few q.0.0 q.1.drawn, c.parts-n.ensures, c.loop-p-test.true)

pub value_len-requires : goal.value_len-requires
value_len-requires c = let q = c.requires in (q.0, turn_draws q.1 (omega (arith, c.parts-n.ensures, c.loop-p-test.true)))

pub overflow_add-sum : goal.overflow_add-sum
overflow_add-sum c = omega (arith, c.count_len.ensures.0, c.value_len.ensures.0)

pub overflow_add-sum-in-loop-p : goal.overflow_add-sum-in-loop-p
overflow_add-sum-in-loop-p c =
    let q = c.requires in
    omega (arith, c.count_len.ensures.0, c.value_len.ensures.0, c.loop-p.invariant.0, c.loop-p-test.true, c.parts-n.ensures, count_few q.0.0 q.1.drawn)

pub loop-p-preserved : goal.loop-p-preserved
loop-p-preserved c =
    let l = c.loop-p in
    let e = c.count_len.ensures.0 in (
      omega (arith, e, c.value_len.ensures.0, l.invariant.0),
      rw e (measuring_on l.invariant.1 (omega (arith, c.parts-n.ensures, c.loop-p-test.true)) c.value_len.ensures.1),
    )

pub returns : goal.returns
returns c = measuring_end c.loop-p.invariant.1 (omega (arith, c.parts-n.ensures, c.loop-p-test.false)) (omega (arith, c.parts-n.ensures, c.loop-p.auto.p-end))
