-- `bind_create::columns_len` meets its contract. The invariant: what was added up and what is left make the whole.
use Prim.Native.Nat.{◌+◌, ◌*◌, ◌≤◌}
use lib.ListN.{length}
use Rattle.bytes_bundle.specs.Bundle.{parts_of}
use Rattle.bytes_bundle.specs.Ahead.{Ahead}
use Rattle.bytes_bundle.specs.Left.{parts_left}
use Rattle.image_parts.specs.Layout.{column_definition}
use Rattle.bind_create.specs.Defined.{room_for}
use Rattle.bind_create.specs.Within.{ColumnsLeft}
use Rattle.bind_create.proofs.columns_len.Given as goal

abbrev pub invariant-loop-column : goal.invariant-loop-column
invariant-loop-column l =
    (l.sum + 154 * length (parts_left l.column-iterator) ≤ 4 + 154 * length (parts_of 2 l.s)) × ColumnsLeft (parts_left l.column-iterator)
    × Ahead column_definition l.s (λ cs. room_for cs + 4) (parts_left l.column-iterator) (λ cs. l.sum + room_for cs)
