-- What the parts of an INSERT hold, by the bytes that the accessors look at.
-- Assumes nothing.
use Rattle.std.specs.Prelude.{◌≡◌, refl, Bool, true, false, not, ◌⊎◌, List, [], ℕ, ◌<◌, length, drop, get_or, eqb}
use Rattle.std.proofs.Common.{◌∙◌, ap, subst₂, inl, inr, arith}
use Rattle.std.proofs.Math.Option.{some}
use Rattle.bytes_format.specs.Ways.{optional_read}
use Rattle.bytes_format.proofs.Formats.{list_of}
use Rattle.bytes_bundle.specs.Bundle.{is_there, parts_of, IsRecord}
use Rattle.bytes_bundle.specs.Laws.{some_there, via_record_there, via_record_value}
use Rattle.bytes_bundle.specs.Values.{
  LoneMark,
  lone_mark,
  MarkedHas,
  marked_value,
  via_marked_value,
  CodedHas,
  behind_code,
  chosen_value,
  two_cases,
  optional_value,
  optional_present,
}
use Rattle.rules.specs.Statements.{Expr, SourceBody, values, not_values, Source, Insert}
use Rattle.image_expression.specs.Expression.{expression}
use Rattle.image_parts.specs.Layout.{
  name,
  object_name,
  source_body_cases,
  which_source_body,
  source_body_made,
  source_body,
  source,
  insertion,
}
use Rattle.image_insert.specs.Shapes.{values_form, insert_parts}
use Rattle.bytes_bundle.specs.Held.{Is, Holds, Shows}

-- ---- the body of a source

abbrev pub is_values : SourceBody → Bool
is_values (values m rows) = true
is_values not_values = false

-- what VALUES has behind its code
abbrev pub ValuesHas : List ℕ → Bool → List (List Expr) → Type 0
ValuesHas s m rows = CodedHas (list_of 2 (list_of 2 expression)) s m rows

pub record BodyHas (s : List ℕ) (v : SourceBody) : Type 0 where
  pub wide : 0 < length s
  pub code : eqb (get_or s 0 0) 1 ≡ is_values v
  pub given : (m : Bool) (rows : List (List Expr)) → v ≡ values m rows → ValuesHas s m rows

body_case : (s : List ℕ) (v : SourceBody) → 0 < length s
    → (((get_or s 0 0 ≡ 0) × (not_values ≡ v))
    ⊎ ((get_or s 0 0 ≡ 1) × ((x : Bool × List (List Expr)) × (values_form.read (drop 1 s) ≡ some x) × (values x.0 x.1 ≡ v))))
    → BodyHas s v
body_case s v w (inl h) = record {
  wide = w;
  code = ap (λ (i : ℕ). eqb i 1) h.0 ∙ ap is_values h.1;
  given = λ m rows e. let z : ◌≡◌ {A = ℕ} 0 1 = cc in absurd (omega arith);
}
body_case s v w (inr h) = record {
  wide = w;
  code = ap (λ (i : ℕ). eqb i 1) h.0 ∙ ap is_values h.1.2;
  given = λ m rows e.
      let y : h.1.0.0 ≡ m = cc in
      let z : h.1.0.1 ≡ rows = cc in
      subst₂ (ValuesHas s) y z (behind_code (list_of 2 (list_of 2 expression)) s (marked_value (list_of 2 (list_of 2 expression)) (drop 1 s) h.1.1));
}

pub body_has : (s : List ℕ) (v : SourceBody) → Holds source_body s v → BodyHas s v
unfolding source_body
body_has s v e =
    let h = chosen_value source_body_cases which_source_body source_body_made refl refl s e in
    body_case s v h.0 (two_cases not_values values_form (λ p. values p.0 p.1) (get_or s 0 0) (drop 1 s) h.1)

-- ---- the source

abbrev pub SourceHas : List ℕ → Source → Type 0
SourceHas s v = MarkedHas source_body s v.clauses v.body

pub source_has : (s : List ℕ) (v : Source) → Holds source s v → SourceHas s v
unfolding source
source_has s v e =
    let a = via_marked_value source_body s _ e in
    subst₂ (MarkedHas source_body s) (ap (λ (q : Source). q.clauses) a.2) (ap (λ (q : Source). q.body) a.2) a.1

-- ---- the whole

pub record InsertHas (s : List ℕ) (v : Insert) : Type 0 where
  pub whole : IsRecord 2 4 s
  pub modified : LoneMark (get_or (parts_of 2 s) 0 []) v.modified
  pub table : Holds object_name (get_or (parts_of 2 s) 1 []) v.name
  pub columns : Holds (list_of 2 name) (get_or (parts_of 2 s) 2 []) v.columns
  -- there is a byte exactly where there is a source
  pub present : not (eqb (length (get_or (parts_of 2 s) 3 [])) 0) ≡ is_there v.source
  pub source : (q : Source) → v.source ≡ some q → Holds source (get_or (parts_of 2 s) 3 []) q

pub insert_has : (s : List ℕ) (v : Insert) → Holds insertion s v → InsertHas s v
unfolding insertion
insert_has s v e =
    let a = via_record_value 2 insert_parts s _ e in
    let k = a.1 in
    let z : optional_read source (get_or (parts_of 2 s) 3 []) ≡ some v.source = k.1.1.1.0 ∙ ap (λ (i : Insert). some i.source) a.2 in
    record {
      whole = via_record_there 2 insert_parts s _ e;
      modified = lone_mark _ (k.0 ∙ ap (λ (i : Insert). some i.modified) a.2);
      table = k.1.0 ∙ ap (λ (i : Insert). some i.name) a.2;
      columns = k.1.1.0 ∙ ap (λ (i : Insert). some i.columns) a.2;
      present = optional_present source (get_or (parts_of 2 s) 3 []) z;
      source = λ q h. optional_value source (get_or (parts_of 2 s) 3 []) z h;
    }

-- ---- what the accessors may rely on

pub body_wide : {s : List ℕ} → Is source_body s → 0 < length s
body_wide {s} i = some_there (source_body.read s) i.there (λ v e. (body_has s v e).wide)

pub values_wide : {s : List ℕ} → Shows source_body is_values s → 1 < length s
values_wide {s} i = some_there (source_body.read s) i.there (λ v e. go v (body_has s v e) (i.case v e))
  where
    go : (v : SourceBody) → BodyHas s v → is_values v ≡ true → 1 < length s
    go (values m rows) h e = (h.given m rows refl).wide
    go not_values h e = let z : ◌≡◌ {A = ℕ} 0 1 = cc in absurd (omega arith)

pub source_wide : {s : List ℕ} → Is source s → 0 < length s
source_wide {s} i = some_there (source.read s) i.there (λ v e. (source_has s v e).wide)

-- an INSERT's parts
pub record InsertShape (s : List ℕ) : Type 0 where
  pub whole : IsRecord 2 4 s
  pub modified : length (get_or (parts_of 2 s) 0 []) ≡ 1

pub insert_shape : {s : List ℕ} → Is insertion s → InsertShape s
insert_shape {s} i =
    some_there (insertion.read s) i.there (λ v e. let h = insert_has s v e in record { whole = h.whole; modified = h.modified.wide })
