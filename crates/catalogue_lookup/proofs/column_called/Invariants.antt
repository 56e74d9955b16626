-- `catalogue_lookup::column_called` meets its contract. The invariant: the first of the name is the first of those that are left.
use Rattle.std.specs.Prelude.{◌+◌, ◌≤◌, length}
use Rattle.bytes_bundle.specs.Left.{parts_left}
use Rattle.bytes_bundle.specs.Numbered.{Reached}
use Rattle.catalogue_lookup.specs.Finds.{BoundLeft}
use Rattle.catalogue_lookup.proofs.column_called.Given as goal

abbrev pub invariant-loop-i : goal.invariant-loop-i
invariant-loop-i l =
    let k = l.i-iterator in
    Reached 2 l.s k.count (parts_left k.iter) × (k.count + length (parts_left k.iter) ≤ 65535) × BoundLeft l.s l.name k.count
