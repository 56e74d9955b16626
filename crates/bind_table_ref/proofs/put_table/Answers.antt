-- `bind_table_ref::put_table` meets its contract.
use mathlib.Core.Path.{ap}
use native.Mathlib.Omega.{arith}
use lib.ListN.{length}
use Rattle.bytes_bundle.specs.Held.{is_held}
use Rattle.image_bound.specs.Columns.{bound_table_ref}
use Rattle.image_bound.specs.Written.{spelt}
use Rattle.image_catalogue.specs.Layout.{table}
use Rattle.bind_table_ref.specs.Room.{bound_table_length, bound_table_read}
use Rattle.bind_table_ref.proofs.put_table.Goals as goal

pub table_id-requires : goal.table_id-requires
table_id-requires c = is_held {f = table} c.requires.holds

pub version-requires : goal.version-requires
version-requires c = is_held {f = table} c.requires.holds

pub table_name-requires : goal.table_name-requires
table_name-requires c = is_held {f = table} c.requires.holds

pub put_table_ref-requires : goal.put_table_ref-requires
put_table_ref-requires c =
    let p = c.requires in
    omega (arith, p.room, bound_table_length p.value, ap length (c.table_name.ensures p.value p.holds))

pub returns : goal.returns
returns c = λ v h.
    spelt (ap bound_table_ref.write (bound_table_read v (c.table_id.ensures v h) (c.version.ensures v h) (c.table_name.ensures v h)))
    c.put_table_ref.ensures
