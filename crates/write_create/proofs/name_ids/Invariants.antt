-- `write_create::name_ids` meets its contract. The invariant: with the ids so far, the names that are left make the ids of all.
use Prim.Native.Nat.{◌≤◌}
use mathlib.Core.Path.{◌≡◌}
use mathlib.Core.List.{List, [], map}
use lib.ListN.{length, take, drop}
use Rattle.bytes_format.proofs.Formats.{list_of}
use Rattle.std.specs.Iterator.Adapters.{enumerate_count, enumerate_source}
use Rattle.bytes_bundle.specs.Held.{Holds}
use Rattle.bytes_bundle.specs.Left.{parts_left}
use Rattle.bytes_bundle.specs.Numbered.{Reached}
use Rattle.rules.specs.declared.ColumnId.{ColumnId}
use Rattle.rules.specs.Answers.{given}
use Rattle.rules.specs.Names.{canonical}
use Rattle.rules.specs.Statements.{Name, ColumnDefinition}
use Rattle.rules.specs.Analyze.{key_ids}
use Rattle.image_parts.specs.Layout.{name, column_definition}
use Rattle.bind_create.specs.Defined.{schemas}
use Rattle.write_create.proofs.name_ids.Given as goal

abbrev pub invariant-loop-k : goal.invariant-loop-k
invariant-loop-k l = Reached 2 l.names (enumerate_count l.k-iterator) (parts_left (enumerate_source l.k-iterator)) × (enumerate_count l.k-iterator ≤ 64) × (length l.ids ≡ 64) × (
    (cs : List ColumnDefinition) (ns : List Name) (js : List ColumnId) → Holds (list_of 2 column_definition) l.columns cs → Holds (list_of 2 name) l.names ns
    → key_ids (schemas 0 cs) [] (map canonical ns) ≡ given js → key_ids (schemas 0 cs) (take (enumerate_count l.k-iterator) l.ids) (map canonical (drop (enumerate_count l.k-iterator) ns)) ≡ given js)
