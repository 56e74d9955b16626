-- `bind_select::column_called` meets its contract.
use mathlib.Core.Path.{sym, ap₂, subst}
use mathlib.Core.List.{List}
use Prim.Native.Nat.{ℕ, ◌≤◌}
use lib.ListN.{length}
use Rattle.bytes_bundle.specs.Held.{held}
use Rattle.catalogue_lookup.specs.Finds.{ColumnIs}
use Rattle.text_names.specs.Compared.{named}
use Rattle.rules.specs.Lookup.{column_by_name}
use Rattle.rules.specs.Names.{canonical}
use Rattle.rules.specs.Statements.{Name}
use Rattle.bind_select.proofs.column_called.Goals as goal

pub find_column-requires : goal.find_column-requires
find_column-requires c =
    let p = c.requires in
    (p.0, held p.1.0 (λ x h. subst (λ (s : List ℕ). length s ≤ 128) (sym (c.name_text.ensures x h)) (p.1.1.short x h)))

pub returns : goal.returns
returns c = λ v x hv h.
    let a = c.args in
    subst (λ (n : Name). ColumnIs (column_by_name v (canonical n)) c.find_column.result)
    (ap₂ named (c.name_is_quoted.ensures x h) (c.name_text.ensures x h)) (c.find_column.ensures v hv)
