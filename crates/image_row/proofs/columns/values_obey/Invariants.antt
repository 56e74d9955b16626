-- `image_row::columns::values_obey` meets its contract. The invariant: what the columns that are left say of the parts that are left.
use Rattle.bytes_bundle.specs.Left.{parts_left}
use Rattle.image_row.specs.Obeyed.{Beside}
use Rattle.image_row.proofs.columns.values_obey.Given as goal

abbrev pub invariant-loop-value : goal.invariant-loop-value
invariant-loop-value l = Beside l.r l.list (parts_left l.value-iterator.a) (parts_left l.value-iterator.b)
