-- A column by its name, and the value that the row has at the column's position.
-- Assumes nothing.
use mathlib.Core.Path.{◌≡◌, refl, ap, subst, ◌∙◌}
use mathlib.Core.List.{List}
use Prim.Native.Nat.{ℕ, ◌<◌}
use native.Mathlib.Omega.{arith}
use lib.ListN.{length}
use Rattle.bytes_bundle.specs.Held.{Is, held}
use Rattle.catalogue_lookup.specs.declared.Column.{Column}
use Rattle.std.specs.Prelude.{Option as Maybe, Some, None}
use Rattle.image_catalogue.specs.Layout.{table}
use Rattle.catalogue_lookup.specs.Finds.{ColumnIs, FindsColumn}
use Rattle.image_row.specs.Obeyed.{obeyed_at}
use Rattle.rules.specs.declared.Ordinal.{Ordinal}
use Rattle.rules.specs.Bound.{BoundColumnRef}
use Rattle.rules.specs.Lists.{Text}
use Rattle.rules.specs.Lookup.{bound_column, column_by_name}
use Rattle.rules.specs.Tables.{ColumnSchema, TableSchema}
use Rattle.rules.proofs.Theorems.Values as values
use Rattle.rules.proofs.Theorems.Values.{column_of_lem}
use Rattle.run_expression.specs.Works.{ObeysTable, StandsAt}

-- ---- columns

within : {c : ColumnSchema} {n : ℕ} {cs : List ColumnSchema} → values.StandsAt c n cs → n < length cs
within values.StandsAt.here = omega arith
within (values.StandsAt.behind s) = let l = within s in omega arith

bound_at : (t : TableSchema) (n : ℕ) (c : ColumnSchema) → (bound_column t n c).ordinal.0 ≡ n
unfolding bound_column
bound_at t n c = refl

module _ (t r : List ℕ) (n : Text) {q : Maybe Column} (found : FindsColumn t n q) where
  module _ (c : Column) (p : q ≡ Some c) where
    pub stands : Is table t → ObeysTable t r → StandsAt r c.ordinal.0
    stands i o =
        held i (λ v h.
        let w = subst (ColumnIs (column_by_name v n)) p (found v h) in
        let d = column_of_lem n w.1 in
        let e : c.ordinal.0 ≡ d.position =
        ap (λ (z : Ordinal). z.0) w.2.ordinal ∙ ap (λ (b : BoundColumnRef). b.ordinal.0) d.bound ∙ bound_at v d.position d.column in
        let l : c.ordinal.0 < length v.columns = omega (arith, within d.stands) in
        let a = obeyed_at v r c.ordinal.0 (o.obeys v h) l in
        record { image = a.0; there = a.1 })
