-- `bind_create::column_called` meets its contract. The invariant: the name finds among the columns that are left what it finds among all of them.
use Rattle.std.specs.Iterator.Adapters.{enumerate_count, enumerate_source}
use Rattle.bytes_bundle.specs.Held.{Holds}
use Rattle.bytes_bundle.specs.Left.{parts_left}
use Rattle.bytes_bundle.specs.Ahead.{Ahead}
use Rattle.bytes_bundle.specs.Numbered.{Reached}
use Rattle.rules.specs.Lists.{find}
use Rattle.rules.specs.Names.{canonical}
use Rattle.rules.specs.Statements.{Name}
use Rattle.rules.specs.Tables.{column_named}
use Rattle.image_parts.specs.Layout.{name, column_definition}
use Rattle.bind_create.specs.Defined.{schemas}
use Rattle.bind_create.proofs.column_called.Given as goal

abbrev pub invariant-loop-i : goal.invariant-loop-i
invariant-loop-i l =
    Reached 2 l.s (enumerate_count l.i-iterator) (parts_left (enumerate_source l.i-iterator))
    × ((w : Name) → Holds name l.n w → Ahead column_definition l.s (λ cs. find (column_named (canonical w)) (schemas 0 cs)) (parts_left (enumerate_source l.i-iterator))
    (λ cs. find (column_named (canonical w)) (schemas (enumerate_count l.i-iterator) cs)))
