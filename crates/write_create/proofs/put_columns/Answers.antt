-- `write_create::put_columns` meets its contract. The invariant: the columns before the one at hand are written, each with its length.
use borrow.Author.Rules.{rules}
use mathlib.Core.Path.{◌≡◌, ap, ◌∙◌}
use mathlib.Core.Logic.{inl}
use mathlib.Core.List.{List}
use Prim.Native.Nat.{◌<◌}
use lib.ListN.{length, take}
use Rattle.std.specs.Iterator.Adapters.{enumerate_count, enumerate_source}
use native.Mathlib.Omega.{arith}
use Rattle.rules.specs.declared.ColumnId.{ColumnId}
use Rattle.image_bound.specs.Beside.{listed_none, listed_more, listed_all, beside_long, wrote_long}
use Rattle.bytes_bundle.specs.declared.parts_iter.Parts.{Parts}
use Rattle.bytes_bundle.specs.Held.{held, list_bundle, list_count}
use Rattle.bytes_bundle.specs.Left.{parts_left}
use Rattle.bytes_bundle.specs.Numbered.{reached, reached_part, reached_on, reached_end, valued}
use Rattle.bind_repeats.specs.Short.{short_entry}
use Rattle.image_parts.specs.Layout.{column_definition}
use Rattle.write_create.proofs.Columns.{made_next, made_length, room_least, column_room, column_went}
use Rattle.write_create.proofs.put_columns.Goals.{Start}
use Rattle.write_create.proofs.put_columns.Goals as goal

abbrev key : (c : Start) → List ColumnId
key c = take c.args.key_len c.args.ids

pub key_marks-marks-requires : goal.key_marks-marks-requires
key_marks-marks-requires c = c.requires.2

pub parts-n-requires : goal.parts-n-requires
parts-n-requires c = let r = list_bundle column_definition c.requires.0.short.is in search rules

pub put_count-lengths-requires : goal.put_count-lengths-requires
put_count-lengths-requires c = (
  omega (arith, c.requires.0.few, c.parts-n.ensures),
  held c.requires.0.short.is (λ cs h. omega (arith, c.requires.1.fits cs h, room_least cs)),
)

pub overflow_mul-body : goal.overflow_mul-body
overflow_mul-body c = omega (arith, c.requires.0.few, c.parts-n.ensures)

pub overflow_add-body : goal.overflow_add-body
overflow_add-body c = held c.requires.0.short.is (λ cs h. omega (arith, c.requires.0.few, c.parts-n.ensures, c.requires.1.fits cs h, room_least cs, c.put_count-lengths.ensures.end, c.well_formed.0.0))

pub iter-requires : goal.iter-requires
iter-requires c = let r = list_bundle column_definition c.requires.0.short.is in search rules

pub loop-i-init : goal.loop-i-init
loop-i-init c =
    let n : enumerate_count c.into_iter-i-iterator.result ≡ 0 = cc in
    rw n (
      reached (cc),
      λ ids m. record {
        short = c.requires.0.short;
        room = record { fits = λ cs h. omega (arith, c.requires.1.fits cs h, wrote_long c.put_count-lengths.ensures) };
        begun = c.put_count-lengths.ensures.end;
        listed = λ cs h. listed_none (omega (arith, c.parts-n.ensures, made_length ids cs, list_count column_definition c.args.s.now h));
      },
    )

pub loop-i-init-derived : goal.loop-i-init-derived
loop-i-init-derived c =
    let n : enumerate_count c.into_iter-i-iterator.result ≡ 0 = cc in
    let e : enumerate_source c.into_iter-i-iterator.result ≡ c.iter.result = cc in
    let k = ap (λ (p : Parts). length (parts_left p)) e ∙ ap length c.iter.ensures in
    ((tt, tt, inl (omega (arith, n, k, c.requires.0.few))), tt)

pub bounds-marks-i : goal.bounds-marks-i
bounds-marks-i c =
    let h = c.in-Some.ensures.steps in
    omega (arith, h.1, (reached_part c.loop-i.invariant.0 h.0).few, c.requires.0.few)

pub put_column-after-requires : goal.put_column-after-requires
put_column-after-requires c =
    let h = c.in-Some.ensures.steps in
    let l = c.loop-i.invariant in
    let d = reached_part l.0 h.0 in
    let p = c.requires in (
      short_entry p.0.short d,
      omega (arith, h.1, d.few, p.0.few),
      (column_room (l.1 (key (goal.at.put_column-after-requires c).Start) c.key_marks-marks.ensures) d).column,
    )

pub overflow_sub-after : goal.overflow_sub-after
overflow_sub-after c =
    let h = c.in-Some.ensures.steps in
    let l = c.loop-i.invariant in
    let d = reached_part l.0 h.0 in
    let m = c.key_marks-marks.ensures in
    let few : c.in-Some.i < 64 = omega (arith, h.1, d.few, c.requires.0.few) in
    (column_went (l.1 (key (goal.at.overflow_sub-after c).Start) m) d (λ v j. rw (h.1) at (c.put_column-after.ensures v (key (goal.at.overflow_sub-after c).Start) j (m c.in-Some.i few)))).0

pub put_count-to-requires : goal.put_count-to-requires
put_count-to-requires c =
    let h = c.in-Some.ensures.steps in
    let l = c.loop-i.invariant in
    let d = reached_part l.0 h.0 in
    let m = c.key_marks-marks.ensures in
    let few : c.in-Some.i < 64 = omega (arith, h.1, d.few, c.requires.0.few) in
    let w = (column_went (l.1 (key (goal.at.put_count-to-requires c).Start) m) d (λ v j. rw (h.1) at (c.put_column-after.ensures v (key (goal.at.put_count-to-requires c).Start) j (m c.in-Some.i few)))) in
    (omega (arith, w.1), w.2)

pub loop-i-preserved : goal.loop-i-preserved
loop-i-preserved c =
    let h = c.in-Some.ensures.steps in
    let l = c.loop-i in
    let d = reached_part l.invariant.0 h.0 in
    let few : c.in-Some.i < 64 = omega (arith, h.1, d.few, c.requires.0.few) in
    rw (h.2) (
      reached_on l.invariant.0 h.0,
      λ ids m.
          let o = l.invariant.1 ids m in
          record {
            short = o.short;
            room = o.room;
            begun = o.begun;
            listed = λ cs j.
                let t = valued column_definition d j in
                listed_more (o.listed cs j) (made_next ids cs (enumerate_count l.i-iterator) t.rest)
                (rw (h.1) at (c.put_column-after.ensures t.value ids t.holds (m c.in-Some.i few))) c.put_count-to.ensures;
          },
    )

pub shape_of-out : goal.shape_of-out
shape_of-out c =
    let o = c.loop-i.invariant.1 (key (goal.at.shape_of-out c).Start) c.key_marks-marks.ensures in
    held c.requires.0.short.is (λ cs h. beside_long (o.listed cs h).beside ∙ wrote_long c.put_count-lengths.ensures)

pub returns : goal.returns
returns c = λ cs h.
    let l = c.loop-i in
    let o = l.invariant.1 (key (goal.at.returns c).Start) c.key_marks-marks.ensures in
    let n = made_length (key (goal.at.returns c).Start) cs in
    let k = list_count column_definition c.args.s.now h in
    listed_all (o.listed cs h) (omega (arith, n, k, reached_end l.invariant.0 c.in-None.ensures.steps.0.0)) c.put_count-lengths.ensures (omega (arith, n, k, c.parts-n.ensures))
