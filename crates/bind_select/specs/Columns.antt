-- A column that is called by its name: what a lookup has said, by the case that it answered.
-- Assumes nothing.
use Rattle.std.specs.Prelude.{◌≡◌, List, ℕ, ◌≤◌, length, Option as Maybe, Some, None}
use Rattle.std.proofs.Common.{ap, ◌∙◌, subst, arith}
use Rattle.std.proofs.Math.Option.{none, some}
use Rattle.bytes_bundle.specs.Held.{Is, Holds, held}
use Rattle.catalogue_lookup.specs.declared.Column.{Column}
use Rattle.catalogue_lookup.specs.Finds.{ColumnBound, ColumnIs}
use Rattle.image_catalogue.specs.Layout.{table}
use Rattle.bind_expression.specs.Small.{name_length}
use Rattle.bind_table.specs.Short.{ShortText}
use Rattle.rules.specs.Bound.{BoundColumnRef}
use Rattle.rules.specs.Lookup.{column_by_name}
use Rattle.rules.specs.Names.{canonical}
use Rattle.rules.specs.Statements.{Name}
use Rattle.rules.specs.Tables.{TableSchema}
use Rattle.image_parts.specs.Layout.{name}

abbrev pub Calls : List ℕ → List ℕ → Maybe Column → Type 0
Calls t n r = (v : TableSchema) (x : Name) → Holds table t v → Holds name n x → ColumnIs (column_by_name v (canonical x)) r

-- a column was found, and its name is as long as the one that was looked for
pub record Found (v : TableSchema) (x : Name) (c : Column) : Type 0 where
  pub value : BoundColumnRef
  pub gives : column_by_name v (canonical x) ≡ some value
  pub bound : ColumnBound c value
  pub short : length c.name.now ≡ length x.text

module _ (t n : List ℕ) {r : Maybe Column} (k : Calls t n r) where
  pub called_found : {c : Column} → r ≡ Some c → (v : TableSchema) (x : Name) → Holds table t v → Holds name n x → Found v x c
  called_found q v x hv hx =
      let f = subst (ColumnIs (column_by_name v (canonical x))) q (k v x hv hx) in
      record { value = f.0; gives = f.1; bound = f.2; short = ap length f.2.name ∙ name_length v x f.1 }

  pub called_unknown : r ≡ None → (v : TableSchema) (x : Name) → Holds table t v → Holds name n x → column_by_name v (canonical x) ≡ none
  called_unknown q v x hv hx = subst (ColumnIs (column_by_name v (canonical x))) q (k v x hv hx)

  -- whatever the table is
  pub called_name : {c : Column} → Is table t × (Is name n × ShortText n) → r ≡ Some c → length c.name.now ≤ 128
  called_name p q = held p.0 (λ v hv. held p.1.0 (λ x hx. omega (arith, (called_found q v x hv hx).short, p.1.1.short x hx)))
