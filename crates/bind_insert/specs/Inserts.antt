-- An INSERT step by step, as the code makes the steps.
-- Assumes nothing.
use Rattle.std.specs.Prelude.{◌≡◌, refl, true, false, List, [], map, ℕ, ◌+◌, length}
use Rattle.std.proofs.Common.{ap, ◌∙◌, arith}
use Rattle.bytes_format.proofs.Formats.{list_of}
use Rattle.image_value.specs.Parts.{value}
use Rattle.rules.specs.declared.Class.TheVariants.{ConstraintViolation, UnsupportedSql}
use Rattle.rules.specs.declared.Refusal.{Refusal}
use Rattle.rules.specs.Lists.{is_empty, any}
use Rattle.rules.specs.Answers.{Answer, given, refused, refuse_if, found, ◌>>=◌, ◌>>◌}
use Rattle.rules.specs.Tables.{TableSchema, Catalogue}
use Rattle.rules.specs.Bound.{Value, BoundColumnRef, BoundStatement, bound_insert}
use Rattle.rules.specs.Lookup.{bound_table}
use Rattle.rules.specs.Names.{canonical}
use Rattle.rules.specs.Statements.{Insert}
use Rattle.rules.specs.Analyze.{insert_columns, insert_body, analyze_insert}
use Rattle.image_bound.specs.Columns.{bound_table_ref, bound_column_ref}
use Rattle.image_bound.specs.Layout.{bound_statement}
use Rattle.image_bound.specs.Sizes.{insert_length}
use Rattle.std.specs.Prelude.{Ok}
use Rattle.bind_table.specs.Told.{sized}
use Rattle.bind_table.specs.Steps.{classed, step_on, step_off, test_on, test_off, steps_joined, sized_given}
use Rattle.bind_table.specs.Tables.{named_table, named_joined}
use Rattle.bind_insert_columns.specs.declared.Need.TheVariants as need
use Rattle.bind_insert_columns.specs.Columns.{lacking}
use Rattle.bind_insert_rows.specs.Sources.{given_rows, is_empty_lem, not_empty}

-- ---- the steps taken together

-- behind the target columns
unfoldable pub insert_rows : TableSchema → List BoundColumnRef → Insert → Answer (List (List Value))
insert_rows t cs i = do
  refuse_if (any (lacking need.Key t i.columns) t.columns) ConstraintViolation
  refuse_if (any (lacking need.NotNull t i.columns) t.columns) ConstraintViolation
  given_rows cs i.source

abbrev pub made : TableSchema → List BoundColumnRef → List (List Value) → Answer BoundStatement
made t cs rows = given (bound_insert (record { table = bound_table t; target_columns = cs; rows = rows }))

-- behind the table
unfoldable pub insert_into : TableSchema → Insert → Answer BoundStatement
insert_into t i = do
  refuse_if (is_empty i.columns) UnsupportedSql
  cs ← insert_columns t [] (map canonical i.columns)
  rows ← insert_rows t cs i
  made t cs rows

-- a step and what is made of it, behind a step whose value is not asked for
past_joined : {A B C : Type 0} (a : Answer A) (b : Answer B) (l : B → Answer C) → (a >> (b >>= l)) ≡ ((a >> b) >>= l)
past_joined (given v) b l = refl
past_joined (refused r) b l = refl

-- the same continuation
step_same : {A B : Type 0} (a : Answer A) (k l : A → Answer B) → ((v : A) → k v ≡ l v) → (a >>= k) ≡ (a >>= l)
step_same (given v) k l e = e v
step_same (refused r) k l e = refl

into_same : (t : TableSchema) (i : Insert)
    → (refuse_if (is_empty i.columns) UnsupportedSql >> (insert_columns t [] (map canonical i.columns) >>= (λ cs.
    refuse_if (any (lacking need.Key t i.columns) t.columns) ConstraintViolation
    >> (refuse_if (any (lacking need.NotNull t i.columns) t.columns) ConstraintViolation
    >> (found i.source UnsupportedSql >>= (λ q. refuse_if q.clauses UnsupportedSql >> (insert_body cs q.body >>= made t cs)))))))
    ≡ insert_into t i
unfolding insert_into insert_rows given_rows
into_same t i =
    ap (λ (a : Answer BoundStatement). refuse_if (is_empty i.columns) UnsupportedSql >> a)
    (step_same (insert_columns t [] (map canonical i.columns)) _ _ (λ cs.
    ap (λ (a : Answer BoundStatement). refuse_if (any (lacking need.Key t i.columns) t.columns) ConstraintViolation >> a)
    (ap (λ (a : Answer BoundStatement). refuse_if (any (lacking need.NotNull t i.columns) t.columns) ConstraintViolation >> a)
    (step_same (found i.source UnsupportedSql) _ _ (λ q. past_joined (refuse_if q.clauses UnsupportedSql) (insert_body cs q.body) (made t cs))
    ∙ steps_joined (found i.source UnsupportedSql) (λ q. refuse_if q.clauses UnsupportedSql >> insert_body cs q.body) (made t cs))
    ∙ past_joined (refuse_if (any (lacking need.NotNull t i.columns) t.columns) ConstraintViolation) (given_rows cs i.source) (made t cs))
    ∙ past_joined (refuse_if (any (lacking need.Key t i.columns) t.columns) ConstraintViolation) _ (made t cs)))

pub insert_steps : (cat : Catalogue) (i : Insert) → analyze_insert cat i ≡ (refuse_if i.modified UnsupportedSql >> (named_table cat i.name >>= (λ t. insert_into t i)))
unfolding analyze_insert
insert_steps cat i =
    ap (λ (a : Answer BoundStatement). refuse_if i.modified UnsupportedSql >> a)
    (named_joined cat i.name _ ∙ step_same (named_table cat i.name) _ _ (λ t. into_same t i))

-- ---- what the table demands

module _ (t : TableSchema) (cs : List BoundColumnRef) (i : Insert) where
  pub rows_key : any (lacking need.Key t i.columns) t.columns ≡ true → insert_rows t cs i ≡ refused (classed ConstraintViolation)
  unfolding insert_rows
  rows_key e = test_off _ _ e

  module _ (k : any (lacking need.Key t i.columns) t.columns ≡ false) where
    pub rows_null : any (lacking need.NotNull t i.columns) t.columns ≡ true → insert_rows t cs i ≡ refused (classed ConstraintViolation)
    unfolding insert_rows
    rows_null e = test_on _ _ k ∙ test_off _ _ e

    pub rows_source : any (lacking need.NotNull t i.columns) t.columns ≡ false → insert_rows t cs i ≡ given_rows cs i.source
    unfolding insert_rows
    rows_source e = test_on _ _ k ∙ test_on _ _ e

-- ---- the whole behind the table

module _ (t : TableSchema) (i : Insert) where
  pub into_none : length i.columns ≡ 0 → insert_into t i ≡ refused (classed UnsupportedSql)
  unfolding insert_into
  into_none e = test_off _ _ (is_empty_lem i.columns e)

  module _ (some : length i.columns ≡ 0 → ⊥) where
    pub into_columns : {r : Refusal} → insert_columns t [] (map canonical i.columns) ≡ refused r → insert_into t i ≡ refused r
    unfolding insert_into
    into_columns e = test_on _ _ (not_empty i.columns some) ∙ step_off _ e

    module _ {cs : List BoundColumnRef} (e : insert_columns t [] (map canonical i.columns) ≡ given cs) where
      pub into_rows : {r : Refusal} → insert_rows t cs i ≡ refused r → insert_into t i ≡ refused r
      unfolding insert_into
      into_rows h = test_on _ _ (not_empty i.columns some) ∙ step_on _ e ∙ step_off _ h

      -- a code, three lengths, and the three parts
      pub into_given : {k m n : ℕ} {rows : List (List Value)} → insert_rows t cs i ≡ given rows
          → k ≡ length (bound_table_ref.write (bound_table t)) → m ≡ length ((list_of 4 bound_column_ref).write cs) → n ≡ length ((list_of 4 (list_of 4 value)).write rows)
          → Ok (17 + k + m + n) ≡ sized bound_statement (insert_into t i)
      unfolding insert_into
      into_given {k} {m} {n} {rows} h p q r =
          sized_given bound_statement (test_on _ _ (not_empty i.columns some) ∙ step_on _ e ∙ step_on _ h)
          (omega (arith, p, q, r, insert_length (record { table = bound_table t; target_columns = cs; rows = rows })))
