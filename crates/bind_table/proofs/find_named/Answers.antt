-- `bind_table::find_named` meets its contract.
use mathlib.Core.Path.{sym, ap₂, subst}
use mathlib.Core.List.{List}
use Prim.Native.Nat.{ℕ, ◌≤◌}
use lib.ListN.{length}
use Rattle.bytes_bundle.specs.Held.{held}
use Rattle.catalogue_lookup.specs.Finds.{FindsTable}
use Rattle.text_names.specs.Compared.{named}
use Rattle.rules.specs.Names.{canonical}
use Rattle.rules.specs.Statements.{Name}
use Rattle.bind_table.proofs.find_named.Goals as goal

pub find_table-requires : goal.find_table-requires
find_table-requires c =
    let p = c.requires in
    (p.0, held p.1.0 (λ v h. subst (λ (s : List ℕ). length s ≤ 128) (sym (c.name_text.ensures v h)) (p.1.1.short v h)))

pub returns : goal.returns
returns c = λ v h.
    let a = c.args in
    subst (λ (n : Name). FindsTable a.c.now (canonical n) c.find_table.result)
    (ap₂ named (c.name_is_quoted.ensures v h) (c.name_text.ensures v h)) c.find_table.ensures
