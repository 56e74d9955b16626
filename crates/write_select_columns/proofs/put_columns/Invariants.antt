-- `write_select_columns::put_columns` meets its contract. The invariant: the columns before number i are written.
use Rattle.std.specs.Iterator.Adapters.{enumerate_count, enumerate_source}
use Rattle.bytes_bundle.specs.Left.{parts_left}
use Rattle.bytes_bundle.specs.Numbered.{Reached}
use Rattle.write_select_columns.specs.Columns.{StarRoom, StarPut}
use Rattle.write_select_columns.proofs.put_columns.Given as goal

abbrev pub invariant-loop-i : goal.invariant-loop-i
invariant-loop-i l =
    Reached 2 l.s (enumerate_count l.i-iterator) (parts_left (enumerate_source l.i-iterator))
    × ((w : StarRoom l.id l.s l.row l.to l.initial.out) → StarPut w.schema (enumerate_count l.i-iterator) l.initial.out l.row l.to l.entry l.part l.out)
