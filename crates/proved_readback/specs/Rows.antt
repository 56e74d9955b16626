-- The row that an UPDATE makes has an image, where the old row and the assignments' values have one.
-- Assumes nothing.
use Rattle.std.specs.Prelude.{◌≡◌, refl, Bool, List, [], ◌∷◌, map, ℕ, ◌^◌, ◌<◌, length}
use Rattle.std.proofs.Common.{sym, arith, length-set}
use Rattle.std.proofs.Math.Bool.{true, false}
use Rattle.std.proofs.Math.Option.{Option, none, some}
use Rattle.std.proofs.lemmas.List.{length-map}
use Rattle.bytes_format.specs.Format.{Every}
use Rattle.image_value.specs.Parts.{value}
use Rattle.image_row.specs.Layout as row
use Rattle.image_parts.specs.Layout as statement
use Rattle.rules.specs.Tables.{TableSchema}
use Rattle.rules.specs.Statements.{Expr, Assignment}
use Rattle.rules.specs.Bound.{Value, BoundColumnRef}
use Rattle.rules.specs.Obeys.{AssignmentsObey, no_more, and_then, UpdateObeys}
use Rattle.rules.specs.Rows.{Row, row_obeys}
use Rattle.rules.specs.Evaluate.{Worked, worked, fault, no_rule, then, evaluate, is_true, target_column, written, assigned, update_row}
use Rattle.proved_readback.specs.Values.{Fine, every_set, value_fine}

-- ---- rows that have an image, value by value

fine_of : (l : Row) → Every (λ s. length s < 256 ^ 4) (map value.write l) → Every value.Ok l → Every Fine l
fine_of [] h k = tt
fine_of (v ∷ l) h k = ((k.0, h.0), fine_of l h.1 k.1)

lengths_of : (l : Row) → Every Fine l → Every (λ s. length s < 256 ^ 4) (map value.write l)
lengths_of [] h = tt
lengths_of (v ∷ l) h = (h.0.1, lengths_of l h.1)

oks_of : (l : Row) → Every Fine l → Every value.Ok l
oks_of [] h = tt
oks_of (v ∷ l) h = (h.0.0, oks_of l h.1)

-- fewer than 2 ^ 32 values, each of which can stand in a row's image
pub record FineRow (l : Row) : Type 0 where
  pub few : length l < 256 ^ 4
  pub values : Every Fine l

pub row_fine : (l : Row) → row.HasImage l → FineRow l
unfolding row.HasImage row.row
row_fine l h = record { few = rw (length-map l value.write) at h.0; values = fine_of l h.1 h.2 }

pub fine_row : (l : Row) → FineRow l → row.HasImage l
unfolding row.HasImage row.row
fine_row l h = (rw (length-map l value.write) h.few, lengths_of l h.values, oks_of l h.values)

-- ---- the assignments

worked_same : {A : Type 0} {a b : A} → worked a ≡ worked b → a ≡ b
worked_same h = cc

never_worked : {A : Type 0} {b : A} {w : Worked A} → w ≡ worked b → (w ≡ fault → ⊥) × (w ≡ no_rule → ⊥)
never_worked {A} {b} {w} h = (
  λ e. let z : ◌≡◌ {A = ℕ} 0 1 = cc in omega arith,
  λ e. let z : ◌≡◌ {A = ℕ} 0 1 = cc in omega arith,
)

module _ {A B : Type 0} where
  -- where two steps came to something, the first did, and the second made this of it
  then_worked : (w : Worked A) (f : A → Worked B) (b : B) → then w f ≡ worked b → (a : A) × (w ≡ worked a) × (f a ≡ worked b)
  then_worked (worked a) f b h = (a, refl, h)
  then_worked fault f b h = absurd ((never_worked h).0 refl)
  then_worked no_rule f b h = absurd ((never_worked h).1 refl)

written_fine : (o : Option BoundColumnRef) (old : Row) (v : Value) (new : Row) → FineRow old → Fine v → written o old v ≡ worked new → FineRow new
written_fine none old v new h k e = absurd ((never_worked e).1 refl)
written_fine (some c) old v new h k e =
    let n = c.ordinal.0 in
    rw (sym (worked_same e)) (record { few = rw (length-set old n v) h.few; values = every_set Fine old n v h.values k })

module _ (t : TableSchema) (old : Row) (obeys : row_obeys t old ≡ true) (h : FineRow old) where
  assigned_fine : {changes : List Assignment} {targets : List BoundColumnRef} → AssignmentsObey t changes targets → Every (statement.assignment).Ok changes
      → (row : Row) → FineRow row → (new : Row) → assigned t old row changes ≡ worked new → FineRow new
  unfolding assigned statement.assignment
  assigned_fine no_more k row f new e = rw (sym (worked_same e)) f
  assigned_fine (and_then {a = a} {rest = rest} p q) k row f new e =
      let x = then_worked (evaluate t old a.value) (λ v. then (written (target_column t a.target) row v) (λ next. assigned t old next rest)) new e in
      let y = then_worked (written (target_column t a.target) row x.0) (λ next. assigned t old next rest) new x.2 in
      let v = value_fine t old obeys h.values a.value p.marking p.value_obeys k.0.2.1.0 x.1 in
      assigned_fine q k.1 y.0 (written_fine (target_column t a.target) row x.0 y.0 f v y.1) new y.2

  -- The row that an UPDATE makes of a row that obeys its table has an image.
  pub updated_fine : {changes : List Assignment} {condition : Expr} → UpdateObeys t changes condition → Every (statement.assignment).Ok changes
      → (new : Row) → update_row t condition changes old ≡ worked new → FineRow new
  unfolding update_row
  updated_fine {changes} {condition} o k new e =
      let x = then_worked (evaluate t old condition) _ new e in
      go (is_true x.0) x.2
    where
      go : (b : Bool) → elim b as (λ x. Worked Row) [ true ↦ assigned t old old changes | false ↦ worked old ] ≡ worked new → FineRow new
      go true q = assigned_fine o.assignments_obey k old h new q
      go false q = rw (sym (worked_same q)) h
