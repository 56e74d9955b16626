-- `write_create::put_columns` meets its contract. The invariant: the columns before the one at hand are written, each with its length.
use mathlib.Core.List.{List}
use Rattle.std.specs.Iterator.Adapters.{enumerate_count, enumerate_source}
use Rattle.rules.specs.declared.ColumnId.{ColumnId}
use Rattle.bytes_bundle.specs.Left.{parts_left}
use Rattle.bytes_bundle.specs.Numbered.{Reached}
use Rattle.write_create.specs.Parts.{KeyMarks}
use Rattle.write_create.proofs.Columns.{ColumnsSoFar}
use Rattle.write_create.proofs.put_columns.Given as goal

abbrev pub invariant-loop-i : goal.invariant-loop-i
invariant-loop-i l =
    Reached 2 l.s (enumerate_count l.i-iterator) (parts_left (enumerate_source l.i-iterator))
    × ((ids : List ColumnId) → KeyMarks l.marks ids → ColumnsSoFar l.s ids l.at l.initial.out (enumerate_count l.i-iterator) l.lengths l.to l.body l.out)
