-- `bind_insert_rows::rows_len` meets its contract. The invariant: how long the rows so far are, and how much room there is for those that are left.
use Prim.Native.Nat.{◌+◌, ◌*◌, ◌≤◌}
use lib.ListN.{length}
use Rattle.bytes_bundle.specs.Bundle.{parts_of}
use Rattle.bytes_bundle.specs.Left.{parts_left}
use Rattle.bind_insert_rows.specs.Values.{Rowed}
use Rattle.bind_insert_rows.proofs.rows_len.Given as goal

abbrev pub invariant-loop-row : goal.invariant-loop-row
invariant-loop-row l =
    (l.total + length (parts_left l.row-iterator) * 4194632 ≤ 4 + length (parts_of 2 l.rows) * 4194632) × Rowed l.rows l.codes l.n (parts_left l.row-iterator) l.total
