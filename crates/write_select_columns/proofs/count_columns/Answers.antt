-- `write_select_columns::count_columns` meets its contract. The invariant: what was counted and what is left make the whole.
use native.Mathlib.Omega.{arith}
use Rattle.bytes_format.proofs.Formats.{list_of}
use Rattle.std.proofs.Common.{length-append}
use Rattle.bytes_bundle.specs.Held.{is_held, list_bundle, list_count}
use Rattle.bytes_bundle.specs.Numbered.{reached, reached_part, reached_on, reached_end, valued}
use Rattle.image_parts.specs.Layout.{item}
use Rattle.write_select_columns.specs.Items.{ItemsGive, counted_none, counted_turn, counted_fits, counted_more, counted_all}
use Rattle.write_select_columns.proofs.count_columns.Goals as goal

pub iter-item-items-requires : goal.iter-item-items-requires
iter-item-items-requires c = (omega arith, list_bundle item (is_held {f = list_of 2 item} {s = c.args.s.now} c.requires.made.reads))

pub loop-item-init : goal.loop-item-init
loop-item-init c = (reached (cc), λ w. counted_none w.schema w.value w.gives)

pub item_columns-sum-requires : goal.item_columns-sum-requires
item_columns-sum-requires c =
    let w = c.requires.made in
    let l = c.loop-item.invariant in
    let t = valued item (reached_part l.0 c.in-Some.ensures.steps) w.reads in
    let k = counted_turn w.schema w.value (l.1 w) t.value t.rest in
    record { schema = w.schema; holds = w.holds; value = t.value; reads = t.holds; columns = k.first; gives = k.gives }

pub overflow_add-sum : goal.overflow_add-sum
overflow_add-sum c =
    let w = c.requires.made in
    let l = c.loop-item.invariant in
    let t = valued item (reached_part l.0 c.in-Some.ensures.steps) w.reads in
    let k = counted_turn w.schema w.value (l.1 w) t.value t.rest in
    let e = c.item_columns-sum.ensures w.schema t.value k.first w.holds t.holds k.gives in
    omega (arith, counted_fits w.schema w.value (l.1 w) t.value t.rest, c.requires.few, e)

pub loop-item-preserved : goal.loop-item-preserved
loop-item-preserved c =
    let l = c.loop-item.invariant in
    let s = c.in-Some.ensures.steps in
    rw (length-append c.loop-item.yielded _) (
      reached_on l.0 s,
      λ w.
          let t = valued item (reached_part l.0 s) w.reads in
          let k = counted_turn w.schema w.value (l.1 w) t.value t.rest in
          counted_more w.schema w.value (l.1 w) t.value t.rest (c.item_columns-sum.ensures w.schema t.value k.first w.holds t.holds k.gives),
    )

pub returns : goal.returns
returns c = λ v xs cs hv hx h.
    let l = c.loop-item.invariant in
    let w : ItemsGive c.args.t.now c.args.s.now = record { schema = v; holds = hv; value = xs; reads = hx; columns = cs; gives = h } in
    counted_all v xs (l.1 w) (omega (arith, list_count item c.args.s.now hx, reached_end l.0 c.in-None.ensures.steps.0))
