-- `bind_insert_columns::bind_columns` meets its contract. The invariant: the columns so far are bound and their bytes stand in the array.
use Prim.Native.Nat.{◌+◌, ◌*◌, ◌≤◌}
use mathlib.Core.Path.{◌≡◌}
use lib.ListN.{length}
use Rattle.std.specs.Iterator.Adapters.{enumerate_count, enumerate_source}
use Rattle.bytes_bundle.specs.Bundle.{parts_of}
use Rattle.bytes_bundle.specs.Left.{parts_left}
use Rattle.bytes_bundle.specs.Numbered.{Reached}
use Rattle.bind_insert_columns.specs.Columns.{Binding}
use Rattle.bind_insert_columns.proofs.bind_columns.Given as goal

abbrev pub invariant-loop-i : goal.invariant-loop-i
invariant-loop-i l =
    Reached 2 l.names (enumerate_count l.i-iterator) (parts_left (enumerate_source l.i-iterator)) × (enumerate_count l.i-iterator ≤ length (parts_of 2 l.names))
    × (l.total ≤ 4 + enumerate_count l.i-iterator * 158) × Binding l.t l.names l.codes (enumerate_count l.i-iterator) l.total × (length l.codes ≡ 64)
