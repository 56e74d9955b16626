-- `bind_select::projection_size` meets its contract. The invariant: what was added up and what is left make the whole.
use Prim.Native.Nat.{◌+◌, ◌*◌, ◌≤◌}
use lib.ListN.{length}
use Rattle.bytes_format.proofs.Formats.{list_of}
use Rattle.bytes_bundle.specs.Bundle.{parts_of}
use Rattle.bytes_bundle.specs.Held.{Holds}
use Rattle.bytes_bundle.specs.Ahead.{Ahead}
use Rattle.bytes_bundle.specs.Left.{parts_left}
use Rattle.image_bound.specs.Columns.{bound_column_ref}
use Rattle.image_catalogue.specs.Layout.{table}
use Rattle.bind_table.specs.Told.{sized}
use Rattle.rules.specs.Analyze.{projection}
use Rattle.rules.specs.Tables.{TableSchema}
use Rattle.image_parts.specs.Layout.{item}
use Rattle.bind_select.specs.Selects.{behind}
use Rattle.bind_select.specs.Within.{ItemsLeft}
use Rattle.bind_select.proofs.projection_size.Given as goal

abbrev pub invariant-loop-item : goal.invariant-loop-item
invariant-loop-item l =
    (l.sum + 4296802275 * length (parts_left l.item-iterator) ≤ 4 + 4296802275 * length (parts_of 2 l.s)) × ItemsLeft (parts_left l.item-iterator)
    × ((v : TableSchema) → Holds table l.t v → Ahead item l.s (λ xs. sized (list_of 4 bound_column_ref) (projection v xs)) (parts_left l.item-iterator) (λ xs. behind l.sum (projection v xs)))
