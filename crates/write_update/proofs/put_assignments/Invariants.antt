-- `write_update::put_assignments` meets its contract. The invariant: what the assignments so far are bound to is written, and so are their lengths.
use Rattle.std.specs.Prelude.{length}
use Rattle.bytes_bundle.specs.Left.{parts_left}
use Rattle.bytes_bundle.specs.Numbered.{Reached}
use Rattle.write_update.specs.Turns.{Writing}
use Rattle.write_update.proofs.put_assignments.Given as goal

abbrev pub invariant-loop-a : goal.invariant-loop-a
invariant-loop-a l =
    Reached 2 l.s (length l.yielded) (parts_left l.a-iterator)
    × Writing l.t l.s l.initial.out l.lengths (length l.yielded) l.to l.body l.out
