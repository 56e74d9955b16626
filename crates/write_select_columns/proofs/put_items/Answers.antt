-- `write_select_columns::put_items` meets its contract. The invariant: the columns of the items before number i are written.
use native.Mathlib.Omega.{arith}
use Prim.Native.Nat.{◌≤◌}
use lib.ListN.{length}
use Rattle.std.proofs.Common.{length-append}
use Rattle.bytes_bundle.specs.Held.{list_bundle, list_count}
use Rattle.bytes_bundle.specs.Numbered.{reached, reached_part, reached_on, reached_end, valued}
use Rattle.image_parts.specs.Layout.{item}
use Rattle.bind_select.specs.Within.{items_within_part}
use Rattle.write_select_columns.specs.Laid.{laid_as, laid_long}
use Rattle.write_select_columns.specs.Items.{items_same, put_none, put_turn, put_room, put_more, put_all}
use Rattle.write_select_columns.proofs.put_items.Goals as goal

pub iter-item-items-requires : goal.iter-item-items-requires
iter-item-items-requires c = (omega arith, list_bundle item {s = c.args.s.now} c.requires.within.is)

pub loop-item-init : goal.loop-item-init
loop-item-init c = (reached (cc), λ w. put_none w.made.schema w.made.value w.made.gives (omega (arith, w.room.entries)))

pub put_item-next-requires : goal.put_item-next-requires
put_item-next-requires c =
    let w = c.requires in
    let m = w.made in
    let l = c.loop-item.invariant in
    let d = reached_part l.0 c.in-Some.ensures.steps in
    let t = valued item d m.reads in
    let k = put_turn m.schema m.value (l.1 w) t.value t.rest in
    record {
      within = items_within_part w.within d;
      made = record { schema = m.schema; holds = m.holds; value = t.value; reads = t.holds; columns = k.first; gives = k.gives };
      room = put_room m.schema m.value (l.1 w) t.value t.rest w.room;
    }

pub loop-item-preserved : goal.loop-item-preserved
loop-item-preserved c =
    let l = c.loop-item.invariant in
    let s = c.in-Some.ensures.steps in
    rw (length-append c.loop-item.yielded _) (
      reached_on l.0 s,
      λ w.
          let m = w.made in
          let t = valued item (reached_part l.0 s) m.reads in
          let k = put_turn m.schema m.value (l.1 w) t.value t.rest in
          put_more m.schema m.value (l.1 w) t.value t.rest w.room (c.put_item-next.ensures m.schema t.value k.first m.holds t.holds k.gives),
    )

pub shape_of-out : goal.shape_of-out
shape_of-out c = laid_long (c.loop-item.invariant.1 c.requires).partly.laid

pub returns : goal.returns
returns c = λ v xs cs hv hx h.
    let w = c.requires in
    let l = c.loop-item in
    let z : length w.made.value ≤ length l.yielded = omega (arith, list_count item c.args.s.now w.made.reads, reached_end l.invariant.0 c.in-None.ensures.steps.0) in
    laid_as (items_same w.made v xs hv hx h) (put_all w.made.schema w.made.value (l.invariant.1 w) z)
