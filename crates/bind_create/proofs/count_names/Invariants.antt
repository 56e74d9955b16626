-- `bind_create::count_names` meets its contract. The invariant: each name before the one at hand stands for a column of its own.
use Prim.Native.Nat.{◌≤◌}
use mathlib.Core.List.{List}
use lib.ListN.{length}
use Rattle.std.specs.Iterator.Adapters.{enumerate_count, enumerate_source}
use Rattle.bytes_bundle.specs.Bundle.{parts_of}
use Rattle.bytes_bundle.specs.Left.{parts_left}
use Rattle.bytes_bundle.specs.Numbered.{Reached}
use Rattle.bytes_format.proofs.Formats.{list_of}
use Rattle.bytes_bundle.specs.Held.{Holds}
use Rattle.rules.specs.Statements.{Name, ColumnDefinition}
use Rattle.image_parts.specs.Layout.{name, column_definition}
use Rattle.bind_create.proofs.Names.{NamesTo}
use Rattle.bind_create.proofs.count_names.Given as goal

abbrev pub invariant-loop-k : goal.invariant-loop-k
invariant-loop-k l =
    Reached 2 l.names (enumerate_count l.k-iterator) (parts_left (enumerate_source l.k-iterator)) × (enumerate_count l.k-iterator ≤ length (parts_of 2 l.names))
    × ((cs : List ColumnDefinition) (ns : List Name) → Holds (list_of 2 column_definition) l.columns cs → Holds (list_of 2 name) l.names ns
    → NamesTo cs ns (enumerate_count l.k-iterator))
