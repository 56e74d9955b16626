-- `write_insert_columns::put_targets` meets its contract. The invariant: the columns so far are written, and their lengths in front of all.
use Rattle.std.specs.Prelude.{length}
use Rattle.bytes_bundle.specs.Left.{parts_left}
use Rattle.bytes_bundle.specs.Numbered.{Reached}
use Rattle.write_insert_columns.specs.Refs.{Targeting}
use Rattle.write_insert_columns.proofs.put_targets.Given as goal

abbrev pub invariant-loop-name : goal.invariant-loop-name
invariant-loop-name l =
    Reached 2 l.names (length l.yielded) (parts_left l.name-iterator)
    × Targeting l.t l.names l.initial.out (length l.yielded) l.start l.lengths l.to l.out
