-- `bind_insert_rows::row_len` meets its contract. The invariant: how long the values so far are, and what is left of the row.
use Prim.Native.Nat.{◌+◌, ◌*◌, ◌≤◌}
use Rattle.std.specs.Iterator.Adapters.{enumerate_count, enumerate_source}
use Rattle.bytes_bundle.specs.Left.{parts_left}
use Rattle.bytes_bundle.specs.Numbered.{Reached}
use Rattle.bind_insert_rows.specs.Values.{Valued}
use Rattle.bind_insert_rows.proofs.row_len.Given as goal

abbrev pub invariant-loop-j : goal.invariant-loop-j
invariant-loop-j l =
    Reached 2 l.row (enumerate_count l.j-iterator) (parts_left (enumerate_source l.j-iterator)) × (enumerate_count l.j-iterator ≤ l.n)
    × (l.total ≤ 4 + enumerate_count l.j-iterator * 65541) × Valued l.row l.codes l.n (enumerate_count l.j-iterator) l.total
