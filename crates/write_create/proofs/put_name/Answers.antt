-- `write_create::put_name` meets its contract.
use mathlib.Core.Path.{sym, ap, ◌∙◌}
use Prim.Native.Nat.{ℕ}
use native.Mathlib.Omega.{arith}
use lib.ListN.{length, take}
use lib.Seq.{length-take-le}
use Rattle.image_bound.specs.Written.{spelt}
use Rattle.bytes_bundle.specs.Held.{is_held}
use Rattle.bind_repeats.specs.Short.{short_length}
use Rattle.image_parts.specs.Layout.{object_name}
use Rattle.write_create.proofs.Columns.{plain_short}
use Rattle.write_create.proofs.put_name.Goals as goal

pub only_name-n-requires : goal.only_name-n-requires
only_name-n-requires c = is_held {f = object_name} c.requires.whole

pub folded-room-requires : goal.folded-room-requires
folded-room-requires c = plain_short c.requires c.only_name-n.ensures

pub name_text-len-requires : goal.name_text-len-requires
name_text-len-requires c = (plain_short c.requires c.only_name-n.ensures).is

pub slice_bounds-room-end : goal.slice_bounds-room-end
slice_bounds-room-end c = omega (arith, short_length (plain_short c.requires c.only_name-n.ensures) c.name_text-len.ensures)

pub slice_bounds-put_all-end : goal.slice_bounds-put_all-end
slice_bounds-put_all-end c = sym (length-take-le _ c.folded-room.result (omega (arith, short_length (plain_short c.requires c.only_name-n.ensures) c.name_text-len.ensures)))

pub put_all-requires : goal.put_all-requires
put_all-requires c =
    let w = c.requires in
    let n = ap length (c.name_text-len.ensures w.name (c.only_name-n.ensures w.name w.whole)) in
    let r = length-take-le (length c.name_text-len.result.now) c.folded-room.result (omega (arith, short_length (plain_short c.requires c.only_name-n.ensures) c.name_text-len.ensures)) in
    omega (arith, w.fits, n, r)

pub returns : goal.returns
returns c = λ w h.
    let k = c.only_name-n.ensures w h in
    spelt (ap (λ (n : ℕ). take n c.folded-room.result) (ap length (c.name_text-len.ensures w k)) ∙ c.folded-room.ensures w k) c.put_all.ensures
