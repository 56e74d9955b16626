-- The source of an INSERT step by step: there is one, it is VALUES, and it has rows.
-- Assumes nothing.
use Rattle.std.specs.Prelude.{◌≡◌, Bool, true, false, List, [], ◌∷◌, ℕ, length}
use Rattle.std.proofs.Math.Path.{refl}
use Rattle.std.proofs.Common.{ap, ◌∙◌, true≢false, arith}
use Rattle.std.proofs.lemmas.Bool.{false≢true}
use Rattle.std.proofs.Math.Option.{Option, none, some}
use Rattle.bytes_bundle.specs.Bundle.{is_there}
use Rattle.bytes_bundle.specs.Held.{Is, Holds, Shows, held, held_once}
use Rattle.image_parts.specs.Layout.{source_body, source, insertion}
use Rattle.image_insert.specs.Held.{is_values}
use Rattle.rules.specs.declared.Class.TheVariants.{UnsupportedSql, InvalidArgument}
use Rattle.rules.specs.Lists.{is_empty}
use Rattle.rules.specs.Answers.{Answer, refused, refuse_if, found, each, ◌>>=◌, ◌>>◌}
use Rattle.rules.specs.Bound.{Value, BoundColumnRef}
use Rattle.rules.specs.Statements.{Expr, SourceBody, values, not_values, Source, Insert}
use Rattle.rules.specs.Analyze.{insert_row, insert_body}
use Rattle.bind_table.specs.Steps.{classed, test_on, test_off, found_on}

-- the rows of a source that must be there
unfoldable pub given_rows : List BoundColumnRef → Option Source → Answer (List (List Value))
given_rows cs o = found o UnsupportedSql >>= (λ q. refuse_if q.clauses UnsupportedSql >> insert_body cs q.body)

-- ---- whether a list is empty, by its length

pub is_empty_lem : {A : Type 0} (l : List A) → length l ≡ 0 → is_empty l ≡ true
is_empty_lem [] e = refl
is_empty_lem (x ∷ l) e = absurd (omega arith)

pub not_empty : {A : Type 0} (l : List A) → (length l ≡ 0 → ⊥) → is_empty l ≡ false
not_empty [] e = absurd (e refl)
not_empty (x ∷ l) e = refl

-- ---- the body of a source

-- b is VALUES
pub record Rows (b : List ℕ) : Type 0 where
  pub explicit : Bool
  pub rows : List (List Expr)
  pub whole : Holds source_body b (values explicit rows)

pub rows_in : {b : List ℕ} → Shows source_body is_values b → Rows b
rows_in {b} s = held {f = source_body} (record { there = s.there }) (λ v h. go v h (s.case v h))
  where
    go : (v : SourceBody) → Holds source_body b v → is_values v ≡ true → Rows b
    go (values m rows) h e = record { explicit = m; rows = rows; whole = h }
    go not_values h e = absurd (false≢true e)

module _ (cs : List BoundColumnRef) where
  pub body_other : (v : SourceBody) → is_values v ≡ false → insert_body cs v ≡ refused (classed UnsupportedSql)
  unfolding insert_body
  body_other (values m rows) e = absurd (true≢false e)
  body_other not_values e = refl

  module _ {m : Bool} (rows : List (List Expr)) where
    pub body_row : m ≡ true → insert_body cs (values m rows) ≡ refused (classed UnsupportedSql)
    unfolding insert_body
    body_row e = test_off _ _ e

    pub body_empty : m ≡ false → length rows ≡ 0 → insert_body cs (values m rows) ≡ refused (classed InvalidArgument)
    unfolding insert_body
    body_empty e h = test_on _ _ e ∙ test_off _ _ (is_empty_lem rows h)

    pub body_rows_lem : m ≡ false → (length rows ≡ 0 → ⊥) → insert_body cs (values m rows) ≡ each (insert_row cs) rows
    unfolding insert_body
    body_rows_lem e h = test_on _ _ e ∙ test_on _ _ (not_empty rows h)

-- ---- the source

-- i has a source, and p holds it
pub record Sourced (i p : List ℕ) : Type 0 where
  pub value : Source
  pub whole : (v : Insert) → Holds insertion i v → v.source ≡ some value
  pub part : Holds source p value

pub sourced : {i p : List ℕ} → Is insertion i → ((v : Insert) → Holds insertion i v → is_there v.source ≡ true)
    → ((v : Insert) (q : Source) → Holds insertion i v → v.source ≡ some q → Holds source p q) → Sourced i p
sourced {i} {p} k there part = held k (λ v h. go v h v.source refl (there v h))
  where
    go : (v : Insert) → Holds insertion i v → (o : Option Source) → v.source ≡ o → is_there o ≡ true → Sourced i p
    go v h none e t = absurd (false≢true t)
    go v h (some q) e t = record { value = q; whole = λ w g. ap (λ (x : Insert). x.source) (held_once insertion g h) ∙ e; part = part v q h e }

module _ (cs : List BoundColumnRef) where
  pub rows_none : (o : Option Source) → is_there o ≡ false → given_rows cs o ≡ refused (classed UnsupportedSql)
  unfolding given_rows
  rows_none none e = refl
  rows_none (some q) e = absurd (true≢false e)

  module _ {o : Option Source} {q : Source} (s : o ≡ some q) where
    pub rows_clauses : q.clauses ≡ true → given_rows cs o ≡ refused (classed UnsupportedSql)
    unfolding given_rows
    rows_clauses e = found_on _ _ s ∙ test_off _ _ e

    pub rows_body : q.clauses ≡ false → given_rows cs o ≡ insert_body cs q.body
    unfolding given_rows
    rows_body e = found_on _ _ s ∙ test_on _ _ e
