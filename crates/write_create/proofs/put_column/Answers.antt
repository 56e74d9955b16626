-- `write_create::put_column` meets its contract.
use mathlib.Core.Path.{sym, ap, ◌∙◌}
use Prim.Native.Nat.{ℕ}
use native.Mathlib.Omega.{arith}
use lib.ListN.{length, take}
use lib.Seq.{length-take-le}
use Rattle.image_value.specs.Parts.{column_schema}
use Rattle.image_bound.specs.Written.{spelt}
use Rattle.bytes_bundle.specs.Held.{held}
use Rattle.bind_repeats.specs.Short.{short_length, short_inside, in_column}
use Rattle.write_create.proofs.Columns.{column_is}
use Rattle.write_create.proofs.put_column.Goals as goal

pub column_name-n-requires : goal.column_name-n-requires
column_name-n-requires c = c.requires.0.is

pub folded-room-requires : goal.folded-room-requires
folded-room-requires c = short_inside c.requires.0 (in_column c.column_name-n.ensures)

pub name_text-len-requires : goal.name_text-len-requires
name_text-len-requires c = (short_inside c.requires.0 (in_column c.column_name-n.ensures)).is

pub data_type-requires : goal.data_type-requires
data_type-requires c = c.requires.0.is

pub is_nullable-requires : goal.is_nullable-requires
is_nullable-requires c = c.requires.0.is

pub slice_bounds-room-end : goal.slice_bounds-room-end
slice_bounds-room-end c = omega (arith, short_length (short_inside c.requires.0 (in_column c.column_name-n.ensures)) c.name_text-len.ensures)

pub slice_bounds-put_column_schema-end : goal.slice_bounds-put_column_schema-end
slice_bounds-put_column_schema-end c = sym (length-take-le _ c.folded-room.result (omega (arith, short_length (short_inside c.requires.0 (in_column c.column_name-n.ensures)) c.name_text-len.ensures)))

pub put_column_schema-requires : goal.put_column_schema-requires
put_column_schema-requires c =
    let w = c.requires in
    let r = length-take-le (length c.name_text-len.result.now) c.folded-room.result (omega (arith, short_length (short_inside c.requires.0 (in_column c.column_name-n.ensures)) c.name_text-len.ensures)) in
    held w.0.is (λ v h. omega (arith, w.2.fits v h, ap length (c.name_text-len.ensures v.name (c.column_name-n.ensures v h)), r))

pub returns : goal.returns
returns c = λ v ids h m.
    let a = c.args in
    let k = c.column_name-n.ensures v h in
    spelt (ap (column_schema 4).write (column_is ids a.i v (c.data_type.ensures v h) (c.is_nullable.ensures v h) m
    (ap (λ (n : ℕ). take n c.folded-room.result) (ap length (c.name_text-len.ensures v.name k)) ∙ c.folded-room.ensures v.name k)))
    c.put_column_schema.ensures
