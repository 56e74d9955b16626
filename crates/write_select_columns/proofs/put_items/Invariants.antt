-- `write_select_columns::put_items` meets its contract. The invariant: the columns of the items before number i are written.
use Rattle.std.specs.Prelude.{length}
use Rattle.bytes_bundle.specs.Left.{parts_left}
use Rattle.bytes_bundle.specs.Numbered.{Reached}
use Rattle.write_select_columns.specs.Items.{ItemsRoom, Put}
use Rattle.write_select_columns.proofs.put_items.Given as goal

abbrev pub invariant-loop-item : goal.invariant-loop-item
invariant-loop-item l =
    Reached 2 l.s (length l.yielded) (parts_left l.item-iterator)
    × ((w : ItemsRoom l.t l.s l.row l.to l.initial.out) → Put w.made.schema w.made.value w.made.columns (length l.yielded) l.initial.out l.row l.to l.entry l.part l.out)
