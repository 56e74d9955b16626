-- `catalogue_repeats::first_repeat` meets its contract. The invariant: the first repeat is the first among the entries that are left.
use Rattle.std.specs.Prelude.{◌≡◌}
use Rattle.bytes_bundle.specs.Bundle.{parts_of}
use Rattle.bytes_bundle.specs.Left.{parts_left}
use Rattle.bytes_bundle.specs.Numbered.{Reached}
use Rattle.catalogue_repeats.specs.Repeats.{EachTold, alike_by, first_repeated}
use Rattle.catalogue_repeats.proofs.first_repeat.Given as goal

abbrev pub invariant-loop-entry : goal.invariant-loop-entry
invariant-loop-entry l =
    let ps = parts_left l.entries in
    Reached 2 l.s l.i ps × EachTold l.by ps × (first_repeated (alike_by l.by) 0 (parts_of 2 l.s) ≡ first_repeated (alike_by l.by) l.i ps)
