-- Where the key's column or constraint lies in the bytes of a CREATE TABLE.
-- Assumes nothing.
use Rattle.std.specs.Prelude.{◌≡◌, refl, Bool, List, [], ◌∷◌, ℕ, zero, suc, ◌<◌, length, drop, get_or}
use Rattle.std.proofs.Common.{ap, ◌∙◌, subst, arith, length-drop}
use Rattle.std.proofs.Math.Option.{some}
use Rattle.bytes_format.specs.Format.{Format}
use Rattle.bytes_format.proofs.Formats.{list_of}
use Rattle.bytes_bundle.specs.Bundle.{parts_of}
use Rattle.bytes_bundle.specs.Laws.{list_values}
use Rattle.bytes_bundle.specs.Held.{Holds, Is, Shows, same, held, held_once, is_held}
use Rattle.image_create.specs.Held.{is_key}
use Rattle.bind_repeats.specs.Entries.{ShortIn, short_name}
use Rattle.bind_repeats.specs.Short.{all_turn}
use Rattle.rules.specs.Statements.{Name, ColumnDefinition, Constraint, primary_key, CreateTable}
use Rattle.image_parts.specs.Layout.{name, column_definition, constraint, create}
use Rattle.bind_create.specs.declared.Key.{Key}
use Rattle.bind_create.specs.declared.Key.TheVariants.{Column, Constrained}
use Rattle.bind_create.specs.Keys.{NamedAt, ByColumn, ByConstraint}
use Rattle.bind_create.specs.Within.{FewColumns, KeyIn}

-- ---- part j of a list

pub record PartIs {A : Type 0} (f : Format A) (s : List ℕ) (j : ℕ) (v : A) : Type 0 where
  pub few : j < length (parts_of 2 s)
  pub holds : Holds f (get_or (parts_of 2 s) j []) v

pub part_at : {A : Type 0} (f : Format A) (s : List ℕ) (j : ℕ) {vs m : List A} {v : A} → Holds (list_of 2 f) s vs → drop j vs ≡ v ∷ m → PartIs f s j v
part_at {A} f s j {vs} {m} {v} h d =
    let e = list_values 2 f s h in
    let w : j < length (parts_of 2 s) = omega (arith, e.count, ap length d, length-drop j vs) in
    record { few = w; holds = e.value j v w ∙ ap some (at j vs d) }
  where
    at : (j : ℕ) (vs : List A) → drop j vs ≡ v ∷ m → get_or vs j v ≡ v
    at zero vs d = ap (λ (l : List A). get_or l 0 v) d
    at (suc j) [] d = refl
    at (suc j) (x ∷ vs) d = at j vs d

-- the part itself
pub part_holds : {A : Type 0} {f : Format A} {s p : List ℕ} {j : ℕ} {v : A} → p ≡ get_or (parts_of 2 s) j [] → PartIs f s j v → Holds f p v
part_holds {f = f} e k = same f e k.holds

-- ---- the key of a column

pub record ColumnIn (s p : List ℕ) (i : ℕ) : Type 0 where
  pub value : CreateTable
  pub whole : Holds create s value
  pub column : ColumnDefinition
  pub rest : List ColumnDefinition
  pub here : drop i value.columns ≡ column ∷ rest
  pub part : PartIs column_definition p i column

pub column_in : {s p : List ℕ} {key : Key} {i : ℕ} → Is create s → KeyIn s key → key ≡ Column i
    → ((v : CreateTable) → Holds create s v → Holds (list_of 2 column_definition) p v.columns) → ColumnIn s p i
column_in {s} {p} {key} {i} is k e g =
    held is (λ v h.
    let a = k.at v h in
    let b : ByColumn v.columns i a.0 = subst (λ (x : Key). NamedAt v.columns v.constraints x a.0) e a.1.named in
    record {
      value = v;
      whole = h;
      column = b.column;
      rest = b.rest;
      here = b.here;
      part = part_at column_definition p i (g v h) b.here;
    })

-- its name is short
pub column_short : {s p q : List ℕ} {i : ℕ} → FewColumns p → (k : ColumnIn s p i) → ((v : CreateTable) → Holds create s v → Holds (list_of 2 column_definition) p v.columns)
    → Holds name q k.column.name → ShortIn name some q
column_short {s} {p} {q} {i} w k g h = record {
  is = is_held {f = name} h;
  short = λ n e.
      ap (λ (x : Name). short_name (some x)) (held_once name {s = q} e h)
      ∙ all_turn (λ (c : ColumnDefinition). short_name (some c.name)) i k.value.columns k.column k.rest (w.short.short k.value.columns (g k.value k.whole)) k.here;
}

-- ---- a key of a constraint, in the bytes

pub record ConstraintIn (s p : List ℕ) (j : ℕ) : Type 0 where
  pub value : CreateTable
  pub whole : Holds create s value
  pub marked : Bool
  pub list : List Name
  pub rest : List Constraint
  pub here : drop j value.constraints ≡ primary_key marked list ∷ rest
  pub part : PartIs constraint p j (primary_key marked list)

pub constraint_in : {s p : List ℕ} {key : Key} {j : ℕ} → Is create s → KeyIn s key → key ≡ Constrained j
    → ((v : CreateTable) → Holds create s v → Holds (list_of 2 constraint) p v.constraints) → ConstraintIn s p j
constraint_in {s} {p} {key} {j} i k e g =
    held i (λ v h.
    let a = k.at v h in
    let b : ByConstraint v.constraints j a.0 = subst (λ (x : Key). NamedAt v.columns v.constraints x a.0) e a.1.named in
    record {
      value = v;
      whole = h;
      marked = b.marked;
      list = b.list;
      rest = b.rest;
      here = b.here;
      part = part_at constraint p j (g v h) b.here;
    })

pub part_shows : {p : List ℕ} {m : Bool} {ns : List Name} → Holds constraint p (primary_key m ns) → Shows constraint is_key p
part_shows {p} h = record { there = (is_held {f = constraint} h).there; case = λ w k. ap is_key (held_once constraint {s = p} k h) }
