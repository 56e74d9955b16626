-- `bind_update::assignments_size` meets its contract. The invariant: the sum is the length of the list of what the assignments so far are bound to.
use Prim.Native.Nat.{◌+◌, ◌*◌, ◌≤◌}
use lib.ListN.{length}
use Rattle.std.specs.Iterator.Adapters.{enumerate_count, enumerate_source}
use Rattle.bytes_bundle.specs.Bundle.{parts_of}
use Rattle.bytes_bundle.specs.Left.{parts_left}
use Rattle.bytes_bundle.specs.Numbered.{Reached}
use Rattle.bind_update.proofs.Turns.{Measuring}
use Rattle.bind_update.proofs.assignments_size.Given as goal

abbrev pub invariant-loop-i : goal.invariant-loop-i
invariant-loop-i l =
    Reached 2 l.s (enumerate_count l.i-iterator) (parts_left (enumerate_source l.i-iterator)) × (enumerate_count l.i-iterator ≤ length (parts_of 2 l.s))
    × (l.sum ≤ 4 + 4294967504 * enumerate_count l.i-iterator) × Measuring l.t l.s (enumerate_count l.i-iterator) l.sum
