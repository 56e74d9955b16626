-- `bind_select::columns_size` meets its contract. The invariant: what was added up and what is left make the whole.
use Prim.Native.Nat.{◌+◌, ◌*◌, ◌≤◌}
use lib.ListN.{length}
use Rattle.bytes_wire.specs.Le.{Bytes}
use Rattle.bytes_format.specs.Format.{Every}
use Rattle.bytes_bundle.specs.Bundle.{parts_of}
use Rattle.bytes_bundle.specs.Ahead.{Ahead}
use Rattle.bytes_bundle.specs.Left.{parts_left}
use Rattle.image_value.specs.Parts.{column_schema}
use Rattle.bind_select.specs.Entries.{column_entries}
use Rattle.bind_select.proofs.columns_size.Given as goal

abbrev pub invariant-loop-column : goal.invariant-loop-column
invariant-loop-column l =
    (l.sum + 65565 * length (parts_left l.column-iterator) ≤ 65565 * length (parts_of 2 l.s))
    × Ahead (column_schema 2) l.s column_entries (parts_left l.column-iterator) (λ cs. l.sum + column_entries cs)
    × Every Bytes (parts_left l.column-iterator)
