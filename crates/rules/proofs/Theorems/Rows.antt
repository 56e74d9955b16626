-- What an UPDATE makes of a row that obeys its table: a fault, or a row that obeys the table too, in which other columns stay.
-- Assumes nothing.
use Rattle.std.specs.Prelude.{◌≡◌, Bool, ◌≢◌, ℕ, get_or, set}
use Rattle.std.proofs.Common.{◌∙◌, ap, ⊎_elim}
use Rattle.std.proofs.Math.Path.{refl}
use Rattle.std.proofs.Math.Bool.{true, false, and-eq-true_iff}
use Rattle.std.proofs.lemmas.Bool.{false≢true}
use Rattle.std.proofs.Math.Logic.{inr}
use mathlib.Core.List.{List, [], ◌∷◌, Memᴰ}
use Rattle.std.proofs.Math.Option.{some}
use Rattle.std.proofs.Math.Seq.{get_or-set_other}
use Rattle.rules.specs.declared.ExpressionType.TheVariants as type
use Rattle.rules.specs.declared.Mark.{Mark}
use Rattle.rules.specs.Lists.{Text}
use Rattle.rules.specs.Tables.{ColumnSchema, TableSchema}
use Rattle.rules.specs.Statements.{Expr, Assignment}
use Rattle.rules.specs.Bound.{Value, null, BoundColumnRef}
use Rattle.rules.specs.Names.{canonical, simple_name}
use Rattle.rules.specs.Lookup.{bound_column, column_by_name, column_mark}
use Rattle.rules.specs.Obeys.{FitObeys, AssignmentObeys, AssignmentsObey, no_more, and_then, UpdateObeys}
use Rattle.rules.specs.Analyze.{target_name}
use Rattle.rules.specs.Rows.{Row, value_obeys, columns_obeyed, row_obeys}
use Rattle.rules.specs.Evaluate.{Worked, worked, evaluate, is_true, target_column, assigned, update_row}
use Rattle.rules.proofs.Theorems.HasMark.{OfType, HasMark, of_type, may_be_null_lem, FaultsOr}
use Rattle.rules.proofs.Theorems.Values.{so_too, comes_to, and_next, StandsAt, here, behind, column_of_lem, value_obeys_lem, value_has_mark}

-- ---- a value given to a column

no_value_of_type_null : {v : Value} → OfType type.Null v → ⊥
no_value_of_type_null q = elim q [ ]

-- "each given a fitting value, none that may be null where the column forbids it": the value then has the column's own mark
fits_column : {m : Mark} {c : BoundColumnRef} {v : Value} → FitObeys m c → HasMark m v → HasMark (column_mark c) v
fits_column f (may_be_null_lem n) = may_be_null_lem (f.null_allowed n)
fits_column f (of_type q) = ⊎_elim (λ e. absurd (no_value_of_type_null (rw e at q))) (λ e. of_type (rw e at q)) f.fitting

set_stands : {c : ColumnSchema} {n : ℕ} {cs : List ColumnSchema} → StandsAt c n cs → (row : Row) (v : Value) → columns_obeyed cs row ≡ true
    → value_obeys c v ≡ true → columns_obeyed cs (set row n v) ≡ true
unfolding columns_obeyed
set_stands here [] v h p = absurd (false≢true h)
set_stands here (x ∷ row) v h p = let w = simp and-eq-true_iff at h in simp and-eq-true_iff (p, w.1)
set_stands (behind s) [] v h p = absurd (false≢true h)
set_stands (behind s) (x ∷ row) v h p = let w = simp and-eq-true_iff at h in simp and-eq-true_iff (w.0, set_stands s row v w.1 p)

-- A row that obeys the table obeys it again with a value put at a column's position that has the column's mark.
pub set_obeys : (t : TableSchema) {c : BoundColumnRef} (name : Text) → column_by_name t name ≡ some c → (row : Row) (v : Value)
    → row_obeys t row ≡ true → HasMark (column_mark c) v → row_obeys t (set row c.ordinal.0 v) ≡ true
unfolding row_obeys bound_column
set_obeys t name h row v o m =
    let w = column_of_lem name h in
    rw w.bound (set_stands w.stands row v o ((value_obeys_lem t w.position w.column v).1 (rw w.bound at m)))

-- ---- the assignments

target_column_lem : {t : TableSchema} {a : Assignment} {c : BoundColumnRef} → AssignmentObeys t a c → target_column t a.target ≡ some c
unfolding target_column target_name simple_name
target_column_lem p = rw p.is_plain p.is_column

-- a position that is no target's
abbrev pub NoTarget : List BoundColumnRef → ℕ → Type 0
NoTarget targets n = (c : BoundColumnRef) → Memᴰ c targets → n ≢ c.ordinal.0

-- the new row obeys the table, and "other columns stay"
pub record Updated (t : TableSchema) (targets : List BoundColumnRef) (old new : Row) : Type 0 where
  pub obeys : row_obeys t new ≡ true
  pub others_stay : (n : ℕ) → NoTarget targets n → get_or new n null ≡ get_or old n null

module _ (t : TableSchema) (row : Row) (obeys : row_obeys t row ≡ true) where
  -- all values come from the old row, and go into the new one
  assigned_updates : {changes : List Assignment} {targets : List BoundColumnRef} → AssignmentsObey t changes targets → (new : Row)
      → row_obeys t new ≡ true → FaultsOr (assigned t row new changes) (Updated t targets new)
  unfolding assigned
  assigned_updates no_more new h = inr (new, refl, record { obeys = h; others_stay = λ n out. refl })
  assigned_updates (and_then {a = a} {c = c} {rest = rest} {cs = cs} p q) new h =
      and_next _ (value_has_mark t row obeys a.value p.marking p.value_obeys)
      (λ v m.
      let next = assigned_updates q (set new c.ordinal.0 v) (set_obeys t (canonical p.name) p.is_column new v h (fits_column p.fits m)) in
      rw (target_column_lem p) (so_too (λ r u. one_more v u) next))
    where
      one_more : {r : Row} (v : Value) → Updated t cs (set new c.ordinal.0 v) r → Updated t (c ∷ cs) new r
      one_more v u = record {
        obeys = u.obeys;
        others_stay = λ n out.
            u.others_stay n (λ d i. out d (Memᴰ.tail i)) ∙ get_or-set_other new c.ordinal.0 n v null (out c (Memᴰ.head refl));
      }

  row_updates : {changes : List Assignment} {condition : Expr} (o : UpdateObeys t changes condition)
      → FaultsOr (update_row t condition changes row) (Updated t o.targets row)
  unfolding update_row
  row_updates {changes} {condition} o =
      and_next _ (value_has_mark t row obeys condition o.marking o.condition_obeys) (λ v m. go (is_true v))
    where
      go : (b : Bool) → FaultsOr (elim b [ true ↦ assigned t row row changes | false ↦ worked row ]) (Updated t o.targets row)
      go true = assigned_updates o.assignments_obey row obeys
      go false = inr (row, refl, record { obeys = obeys; others_stay = λ n out. refl })

  -- Run on a row that obeys the table, an UPDATE that obeys the rules faults, or yields a row that obeys the table too.
  pub update_obeys : {changes : List Assignment} {condition : Expr} → UpdateObeys t changes condition
      → FaultsOr (update_row t condition changes row) (λ new. row_obeys t new ≡ true)
  update_obeys o = so_too (λ new u. u.obeys) (row_updates o)

  -- "other columns stay": at every position that is no target's the new row has the old value.
  pub others_stay_lem : {changes : List Assignment} {condition : Expr} {new : Row} (o : UpdateObeys t changes condition)
      → update_row t condition changes row ≡ worked new → (n : ℕ) → NoTarget o.targets n → get_or new n null ≡ get_or row n null
  others_stay_lem o e = (comes_to (row_updates o) e).others_stay

-- "If WHERE isn't TRUE the row is written as it is and no value is worked out."
pub unless_true : (t : TableSchema) (row : Row) (changes : List Assignment) (condition : Expr) (v : Value)
    → evaluate t row condition ≡ worked v → is_true v ≡ false → update_row t condition changes row ≡ worked row
unfolding update_row
unless_true t row changes condition v e f =
    rw e (ap (λ (b : Bool). elim b as (λ x. Worked Row) [ true ↦ assigned t row row changes | false ↦ worked row ]) f)
