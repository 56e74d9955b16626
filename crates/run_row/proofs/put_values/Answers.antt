-- `run_row::put_values` meets its contract. The invariant: the values before position p are written, and so are their lengths.
use native.Mathlib.Omega.{arith}
use borrow.Author.Rules.{rules}
use Rattle.image_bound.specs.Beside.{wrote_long}
use Rattle.run_plan.specs.Runs.{runs_row}
use Rattle.image_row.specs.Obeyed.{row_bundle}
use Rattle.run_row.specs.Turns.{count_few, list_room, writing_none, turn_room, length_room, writing_on, writing_end, writing_long}
use Rattle.run_row.proofs.put_values.Goals as goal

pub parts-n-requires : goal.parts-n-requires
parts-n-requires c = (search rules, row_bundle (runs_row c.requires.0.0))

pub put_count-lengths-requires : goal.put_count-lengths-requires
put_count-lengths-requires c =
    let q = c.requires in
    let e = c.parts-n.ensures in
    (omega (arith, count_few q.0.0 q.1.drawn, e), omega (arith, list_room q.1 e))

pub overflow_mul-body : goal.overflow_mul-body
overflow_mul-body c = let q = c.requires in omega (arith, count_few q.0.0 q.1.drawn, c.parts-n.ensures)

pub overflow_add-body : goal.overflow_add-body
overflow_add-body c = let q = c.requires in omega (arith, count_few q.0.0 q.1.drawn, c.parts-n.ensures, c.put_count-lengths.ensures.end)

pub loop-p-init : goal.loop-p-init
loop-p-init c = writing_none c.parts-n.ensures

pub offset_bounds-from-p : goal.offset_bounds-from-p
offset_bounds-from-p c = let q = c.requires in omega (arith, count_few q.0.0 q.1.drawn, c.parts-n.ensures, c.loop-p-test.true)

pub bounds-from-p : goal.bounds-from-p
bounds-from-p c = let q = c.requires in omega (arith, count_few q.0.0 q.1.drawn, c.parts-n.ensures, c.loop-p-test.true)

pub put_value-after-requires : goal.put_value-after-requires
put_value-after-requires c = (
  c.requires.0,
  turn_room c.loop-p.invariant (omega (arith, c.parts-n.ensures, c.loop-p-test.true)) c.requires.1 c.put_count-lengths.ensures.end (wrote_long c.put_count-lengths.ensures),
)

pub overflow_sub-after : goal.overflow_sub-after
overflow_sub-after c =
    let m = turn_room c.loop-p.invariant (omega (arith, c.parts-n.ensures, c.loop-p-test.true)) c.requires.1 c.put_count-lengths.ensures.end (wrote_long c.put_count-lengths.ensures) in
    omega (arith, (c.put_value-after.ensures m.worth m.drawing).end)

pub put-to-requires : goal.put-to-requires
put-to-requires c =
    let m = turn_room c.loop-p.invariant (omega (arith, c.parts-n.ensures, c.loop-p-test.true)) c.requires.1 c.put_count-lengths.ensures.end (wrote_long c.put_count-lengths.ensures) in
    omega (arith, wrote_long (c.put_value-after.ensures m.worth m.drawing), length_room c.loop-p.invariant (omega (arith, c.parts-n.ensures, c.loop-p-test.true)) c.requires.1 c.put_count-lengths.ensures.end (wrote_long c.put_count-lengths.ensures))

pub loop-p-preserved : goal.loop-p-preserved
loop-p-preserved c = writing_on c.loop-p.invariant (omega (arith, c.parts-n.ensures, c.loop-p-test.true)) c.put_value-after.ensures c.put-to.ensures

pub shape_of-out : goal.shape_of-out
shape_of-out c =
    let q = c.requires in
    omega (arith, writing_long c.loop-p.invariant q.1.new q.1.drawn, wrote_long c.put_count-lengths.ensures)

pub returns : goal.returns
returns c = writing_end c.loop-p.invariant c.parts-n.ensures c.loop-p-test.false c.put_count-lengths.ensures
