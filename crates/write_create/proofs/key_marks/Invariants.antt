-- `write_create::key_marks` meets its contract. The invariant: the columns of the ids so far are marked.
use mathlib.Core.Path.{◌≡◌}
use lib.ListN.{length, take}
use Rattle.write_create.specs.Parts.{KeyMarks}
use Rattle.write_create.proofs.key_marks.Given as goal

abbrev pub invariant-loop-id : goal.invariant-loop-id
invariant-loop-id l = (length l.marks ≡ 64) × KeyMarks l.marks (take l.id-index l.id-items)
