-- `write_insert_rows::put_rows` meets its contract. The invariant: the rows so far are written, and their lengths in front of all.
use Rattle.std.specs.Prelude.{length}
use Rattle.bytes_format.proofs.Formats.{list_of}
use Rattle.bytes_bundle.specs.Left.{parts_left}
use Rattle.bytes_bundle.specs.Numbered.{Reached}
use Rattle.image_value.specs.Parts.{value}
use Rattle.image_expression.specs.Expression.{expression}
use Rattle.write_insert_rows.specs.Listing.{literals, Listing}
use Rattle.write_insert_rows.proofs.put_rows.Given as goal

abbrev pub invariant-loop-row : goal.invariant-loop-row
invariant-loop-row l =
    Reached 2 l.rows (length l.yielded) (parts_left l.row-iterator)
    × Listing (list_of 2 expression) literals (list_of 4 value) l.rows l.initial.out (length l.yielded) l.start l.lengths l.to l.out
