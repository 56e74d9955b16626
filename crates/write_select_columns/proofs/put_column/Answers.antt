-- `write_select_columns::put_column` meets its contract.
use mathlib.Core.Path.{ap}
use native.Mathlib.Omega.{arith}
use lib.ListN.{length}
use Rattle.bytes_bundle.specs.Held.{is_held}
use Rattle.image_bound.specs.Columns.{bound_column_ref}
use Rattle.image_bound.specs.Written.{spelt}
use Rattle.image_value.specs.Parts.{column_schema}
use Rattle.write_select_columns.specs.Columns.{column_read}
use Rattle.write_select_columns.proofs.put_column.Goals as goal

pub column_id-requires : goal.column_id-requires
column_id-requires c = is_held {f = column_schema 2} c.requires.holds

pub column_type-requires : goal.column_type-requires
column_type-requires c = is_held {f = column_schema 2} c.requires.holds

pub column_nullable-requires : goal.column_nullable-requires
column_nullable-requires c = is_held {f = column_schema 2} c.requires.holds

pub column_name-requires : goal.column_name-requires
column_name-requires c = is_held {f = column_schema 2} c.requires.holds

pub put_column_ref-requires : goal.put_column_ref-requires
put_column_ref-requires c =
    let w = c.requires in
    omega (arith, w.room, ap length (c.column_name.ensures w.value w.holds))

pub returns : goal.returns
returns c = λ v x own h.
    spelt (ap bound_column_ref.write
    (column_read v x c.args.i own (c.column_id.ensures x h) (c.column_type.ensures x h) (c.column_nullable.ensures x h) (c.column_name.ensures x h)))
    c.put_column_ref.ensures
