-- `bind_insert_columns::has_name` meets its contract. The invariant: what the names that are left decide.
use Rattle.bytes_bundle.specs.Ahead.{Ahead}
use Rattle.bytes_bundle.specs.Left.{parts_left}
use Rattle.image_parts.specs.Layout.{name}
use Rattle.bind_insert_columns.specs.Columns.{is_among, NamesLeft}
use Rattle.bind_insert_columns.proofs.has_name.Given as goal

abbrev pub invariant-loop-part : goal.invariant-loop-part
invariant-loop-part l = NamesLeft (parts_left l.part-iterator) × Ahead name l.names (is_among l.other) (parts_left l.part-iterator) (is_among l.other)
