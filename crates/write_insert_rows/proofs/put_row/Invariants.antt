-- `write_insert_rows::put_row` meets its contract. The invariant: the values so far are written, and their lengths in front of all.
use Rattle.std.specs.Prelude.{length}
use Rattle.bytes_bundle.specs.Left.{parts_left}
use Rattle.bytes_bundle.specs.Numbered.{Reached}
use Rattle.image_value.specs.Parts.{value}
use Rattle.image_expression.specs.Expression.{expression}
use Rattle.rules.specs.Analyze.{insert_literal}
use Rattle.write_insert_rows.specs.Listing.{Listing}
use Rattle.write_insert_rows.proofs.put_row.Given as goal

abbrev pub invariant-loop-e : goal.invariant-loop-e
invariant-loop-e l =
    Reached 2 l.row (length l.yielded) (parts_left l.e-iterator)
    × Listing expression insert_literal value l.row l.initial.out (length l.yielded) l.start l.lengths l.to l.out
