-- `write_select_columns::put_columns` meets its contract. The invariant: the columns before number i are written.
use mathlib.Core.Path.{◌≡◌, sym, ap, ◌∙◌}
use mathlib.Core.Logic.{inl}
use Prim.Native.Nat.{◌≤◌}
use native.Mathlib.Omega.{arith}
use lib.ListN.{length}
use Rattle.std.specs.Iterator.Adapters.{enumerate_count, enumerate_source}
use Rattle.bytes_format.proofs.Formats.{list_of}
use Rattle.bytes_bundle.specs.declared.parts_iter.Parts.{Parts}
use Rattle.bytes_bundle.specs.Held.{is_held, held_once, list_bundle, list_count}
use Rattle.bytes_bundle.specs.Left.{parts_left}
use Rattle.bytes_bundle.specs.Numbered.{reached, reached_part, reached_on, reached_end, valued}
use Rattle.image_bound.specs.Beside.{wrote_long}
use Rattle.image_value.specs.Parts.{column_schema}
use Rattle.write_select_columns.specs.Laid.{laid_as, laid_one, laid_long}
use Rattle.write_select_columns.specs.Columns.{column_long, columns_count, columns_same, star_none, star_room, star_more, star_all}
use Rattle.write_select_columns.proofs.put_columns.Goals as goal

pub iter-requires : goal.iter-requires
iter-requires c = (omega arith, list_bundle (column_schema 2) (is_held {f = list_of 2 (column_schema 2)} {s = c.args.s.now} c.requires.holds))

pub loop-i-init : goal.loop-i-init
loop-i-init c =
    let n : enumerate_count c.into_iter-i-iterator.result ≡ 0 = cc in
    rw n (reached (cc), λ w. star_none w.schema w.room)

-- each column takes 4 bytes of room
pub loop-i-init-derived : goal.loop-i-init-derived
loop-i-init-derived c =
    let w = c.requires in
    let n : enumerate_count c.into_iter-i-iterator.result ≡ 0 = cc in
    let e : enumerate_source c.into_iter-i-iterator.result ≡ c.iter.result = cc in
    let k = ap (λ (p : Parts). length (parts_left p)) e ∙ ap length c.iter.ensures in
    ((tt, tt, inl (omega (arith, n, k, w.room.entries, columns_count w.schema, list_count (column_schema 2) c.args.s.now w.holds))), tt)

pub put_column-next-requires : goal.put_column-next-requires
put_column-next-requires c =
    let w = c.requires in
    let l = c.loop-i in
    let t = valued (column_schema 2) (reached_part l.invariant.0 c.in-Some.ensures.steps.0) w.holds in
    let r = star_room w.schema w.room (l.invariant.1 w) t.value t.rest in
    record { value = t.value; holds = t.holds; room = omega (arith, r.1, column_long w.schema (enumerate_count l.i-iterator) t.value) }

pub overflow_sub-next : goal.overflow_sub-next
overflow_sub-next c =
    let w = c.requires in
    let t = valued (column_schema 2) (reached_part c.loop-i.invariant.0 c.in-Some.ensures.steps.0) w.holds in
    omega (arith, (c.put_column-next.ensures w.schema t.value w.own t.holds).end)

pub put-entry-requires : goal.put-entry-requires
put-entry-requires c =
    let w = c.requires in
    let t = valued (column_schema 2) (reached_part c.loop-i.invariant.0 c.in-Some.ensures.steps.0) w.holds in
    let r = star_room w.schema w.room (c.loop-i.invariant.1 w) t.value t.rest in
    omega (arith, r.0, r.1, wrote_long (c.put_column-next.ensures w.schema t.value w.own t.holds))

pub loop-i-preserved : goal.loop-i-preserved
loop-i-preserved c =
    let h = c.in-Some.ensures.steps in
    let l = c.loop-i.invariant in
    rw (h.2) (
      reached_on l.0 h.0,
      λ w.
          let t = valued (column_schema 2) (reached_part l.0 h.0) w.holds in
          let p = l.1 w in
          let r = star_room w.schema w.room p t.value t.rest in
          star_more w.schema w.room p t.value t.rest (laid_one r.0 (rw (h.1) at (c.put_column-next.ensures w.schema t.value w.own t.holds)) c.put-entry.ensures),
    )

pub shape_of-out : goal.shape_of-out
shape_of-out c = laid_long (c.loop-i.invariant.1 c.requires).partly.laid

pub returns : goal.returns
returns c = λ v own h.
    let w = c.requires in
    let l = c.loop-i in
    let s = c.args.s.now in
    let z : length w.schema.columns ≤ enumerate_count l.i-iterator =
    omega (arith, list_count (column_schema 2) s w.holds, reached_end l.invariant.0 c.in-None.ensures.steps.0.0) in
    laid_as (columns_same w.schema v (sym w.own ∙ own) (held_once (list_of 2 (column_schema 2)) {s = s} w.holds h))
    (star_all w.schema (l.invariant.1 w) z)
