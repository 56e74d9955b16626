-- `bind_create::define_columns` meets its contract. The invariant: with the columns and the key so far, the columns that are left make what all of them make.
use mathlib.Core.List.{List}
use Rattle.std.specs.Iterator.Adapters.{enumerate_count, enumerate_source}
use Rattle.bytes_format.proofs.Formats.{list_of}
use Rattle.bytes_bundle.specs.Held.{Holds}
use Rattle.bytes_bundle.specs.Left.{parts_left}
use Rattle.bytes_bundle.specs.Numbered.{Reached}
use Rattle.rules.specs.Statements.{ColumnDefinition}
use Rattle.image_parts.specs.Layout.{column_definition}
use Rattle.bind_create.specs.Columns.{ColumnsTo}
use Rattle.bind_create.proofs.define_columns.Given as goal

abbrev pub invariant-loop-i : goal.invariant-loop-i
invariant-loop-i l =
    Reached 2 l.s (enumerate_count l.i-iterator) (parts_left (enumerate_source l.i-iterator))
    × ((cs : List ColumnDefinition) → Holds (list_of 2 column_definition) l.s cs → ColumnsTo cs l.key (enumerate_count l.i-iterator))
