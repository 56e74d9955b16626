-- `write_select_columns::count_columns` meets its contract. The invariant: what was counted and what is left make the whole.
use Rattle.std.specs.Prelude.{length}
use Rattle.bytes_bundle.specs.Left.{parts_left}
use Rattle.bytes_bundle.specs.Numbered.{Reached}
use Rattle.write_select_columns.specs.Items.{ItemsGive, Counted}
use Rattle.write_select_columns.proofs.count_columns.Given as goal

abbrev pub invariant-loop-item : goal.invariant-loop-item
invariant-loop-item l =
    Reached 2 l.s (length l.yielded) (parts_left l.item-iterator)
    × ((w : ItemsGive l.t l.s) → Counted w.schema w.value w.columns (length l.yielded) l.sum)
