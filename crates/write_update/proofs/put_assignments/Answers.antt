-- `write_update::put_assignments` meets its contract. The invariant: what the assignments so far are bound to is written, and so are their lengths.
use native.Mathlib.Omega.{arith}
use Rattle.image_bound.specs.Beside.{wrote_long}
use Rattle.std.proofs.Common.{length-append}
use Rattle.bytes_bundle.specs.Held.{list_bundle}
use Rattle.bytes_bundle.specs.Numbered.{reached, reached_part, reached_on, reached_end}
use Rattle.image_parts.specs.Layout.{assignment}
use Rattle.write_update.specs.Turns.{list_room, list_few, writing_none, turn_room, length_room, writing_on, writing_end, writing_long}
use borrow.Author.Rules.{rules}
use Rattle.write_update.proofs.put_assignments.Goals as goal

pub parts-n-requires : goal.parts-n-requires
parts-n-requires c = (search rules, list_bundle assignment c.requires.names.is)

pub put_count-lengths-requires : goal.put_count-lengths-requires
put_count-lengths-requires c = (omega (arith, list_few c.requires c.parts-n.ensures), omega (arith, list_room c.requires c.parts-n.ensures))

pub overflow_mul-body : goal.overflow_mul-body
overflow_mul-body c = omega (arith, list_few c.requires c.parts-n.ensures)

pub overflow_add-body : goal.overflow_add-body
overflow_add-body c = omega (arith, list_room c.requires c.parts-n.ensures, c.put_count-lengths.ensures.end)

pub iter-a-items-requires : goal.iter-a-items-requires
iter-a-items-requires c = (search rules, list_bundle assignment c.requires.names.is)

pub loop-a-init : goal.loop-a-init
loop-a-init c = (reached (cc), writing_none c.parts-n.ensures)

pub put_assignment-after-requires : goal.put_assignment-after-requires
put_assignment-after-requires c =
    let l = c.loop-a.invariant in
    turn_room l.1 (reached_part l.0 c.in-Some.ensures.steps) c.requires c.put_count-lengths.ensures.end (wrote_long c.put_count-lengths.ensures)

pub overflow_sub-after : goal.overflow_sub-after
overflow_sub-after c =
    let l = c.loop-a.invariant in
    let r = turn_room l.1 (reached_part l.0 c.in-Some.ensures.steps) c.requires c.put_count-lengths.ensures.end (wrote_long c.put_count-lengths.ensures) in
    omega (arith, (c.put_assignment-after.ensures r.schema r.tree r.value r.holds r.reads r.gives).end)

pub put-to-requires : goal.put-to-requires
put-to-requires c =
    let l = c.loop-a.invariant in
    let d = reached_part l.0 c.in-Some.ensures.steps in
    let r = turn_room l.1 d c.requires c.put_count-lengths.ensures.end (wrote_long c.put_count-lengths.ensures) in
    let w = c.put_assignment-after.ensures r.schema r.tree r.value r.holds r.reads r.gives in
    omega (arith, wrote_long w, length_room l.1 d c.requires c.put_count-lengths.ensures.end (wrote_long c.put_count-lengths.ensures))

pub loop-a-preserved : goal.loop-a-preserved
loop-a-preserved c =
    let l = c.loop-a.invariant in
    let s = c.in-Some.ensures.steps in
    rw (length-append c.loop-a.yielded _) (reached_on l.0 s, writing_on l.1 (reached_part l.0 s) c.put_assignment-after.ensures c.put-to.ensures)

pub shape_of-out : goal.shape_of-out
shape_of-out c = omega (arith, writing_long c.requires c.loop-a.invariant.1, wrote_long c.put_count-lengths.ensures)

pub returns : goal.returns
returns c =
    let l = c.loop-a.invariant in
    writing_end l.1 c.parts-n.ensures (reached_end l.0 c.in-None.ensures.steps.0) c.put_count-lengths.ensures
