-- `bind_create::register_all` meets its contract. The invariant: with the key so far, the constraints that are left make what all of them make.
use mathlib.Core.List.{List}
use mathlib.Core.Option.{Option}
use Rattle.std.specs.Iterator.Adapters.{enumerate_count, enumerate_source}
use Rattle.bytes_format.proofs.Formats.{list_of}
use Rattle.bytes_bundle.specs.Held.{Holds}
use Rattle.bytes_bundle.specs.Left.{parts_left}
use Rattle.bytes_bundle.specs.Numbered.{Reached}
use Rattle.rules.specs.Lists.{Text}
use Rattle.rules.specs.Statements.{ColumnDefinition, Constraint}
use Rattle.image_parts.specs.Layout.{constraint}
use Rattle.bind_create.specs.Keys.{KeyAt}
use Rattle.bind_create.proofs.Constraints.{ConstraintsTo}
use Rattle.bind_create.proofs.register_all.Given as goal

abbrev pub invariant-loop-j : goal.invariant-loop-j
invariant-loop-j l =
    Reached 2 l.s (enumerate_count l.j-iterator) (parts_left (enumerate_source l.j-iterator))
    × ((cs : List ColumnDefinition) (ds : List Constraint) (names : Option (List Text)) → Holds (list_of 2 constraint) l.s ds → KeyAt cs ds l.initial.key names
    → ConstraintsTo cs ds names l.key (enumerate_count l.j-iterator))
