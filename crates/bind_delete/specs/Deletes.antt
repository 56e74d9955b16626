-- The steps of a DELETE as the code makes them: the table, then what is done over it.
-- Assumes nothing.
use Rattle.std.specs.Prelude.{◌≡◌, refl, Bool, true, false, ℕ, ◌+◌, length}
use Rattle.std.proofs.Common.{◌∙◌, arith}
use Rattle.std.proofs.Math.Option.{Option, none, some}
use Rattle.image_bound.specs.Columns.{bound_table_ref}
use Rattle.image_bound.specs.Expression.{bound_expression}
use Rattle.image_bound.specs.Layout.{bound_statement}
use Rattle.image_bound.specs.Sizes.{delete_length}
use Rattle.image_delete.specs.Held.{delete_from_no}
use Rattle.bind_table.specs.Steps.{classed, step_on, step_off, steps_joined, test_on, test_off, found_on, found_off}
use Rattle.rules.specs.declared.Class.{Class}
use Rattle.rules.specs.declared.Class.TheVariants.{UnsupportedSql}
use Rattle.rules.specs.declared.Refusal.{Refusal}
use Rattle.rules.specs.Answers.{Answer, given, refused, refuse_if, found, ◌>>=◌, ◌>>◌}
use Rattle.rules.specs.Analyze.{resolve_direct_table, delete_from, analyze_delete}
use Rattle.rules.specs.Bound.{BoundExpr, BoundStatement, bound_delete}
use Rattle.rules.specs.Fits.{bind_boolean_filter}
use Rattle.rules.specs.Lookup.{bound_table}
use Rattle.rules.specs.Statements.{one, not_one, DeleteFrom, from, no_keyword, Delete, Expr}
use Rattle.rules.specs.Tables.{TableSchema, Catalogue}

unfoldable pub deleted_table : Catalogue → Delete → Answer TableSchema
deleted_table cat d = do
  refuse_if d.tables UnsupportedSql
  refuse_if d.using_clause UnsupportedSql
  refuse_if d.returning UnsupportedSql
  refuse_if d.order_by UnsupportedSql
  refuse_if d.limit UnsupportedSql
  w ← delete_from d.from
  resolve_direct_table cat w

abbrev pub deleted : TableSchema → BoundExpr → BoundStatement
deleted t x = bound_delete (record { table = bound_table t; filter = x })

unfoldable pub deleted_rows : TableSchema → Option Expr → Answer BoundStatement
deleted_rows t o = do
  e ← found o UnsupportedSql
  x ← bind_boolean_filter t e
  given (deleted t x)

test_joined : {A B : Type 0} (b : Bool) (k : Class) (a : Answer A) (f : A → Answer B) {c : Answer B} → c ≡ (a >>= f)
    → (refuse_if b k >> c) ≡ ((refuse_if b k >> a) >>= f)
test_joined true k a f e = refl
test_joined false k a f e = e

pub delete_steps : (cat : Catalogue) (d : Delete) → analyze_delete cat d ≡ (deleted_table cat d >>= (λ t. deleted_rows t d.condition))
unfolding analyze_delete deleted_table deleted_rows
delete_steps cat d =
    test_joined d.tables UnsupportedSql _ _
    (test_joined d.using_clause UnsupportedSql _ _
    (test_joined d.returning UnsupportedSql _ _
    (test_joined d.order_by UnsupportedSql _ _
    (test_joined d.limit UnsupportedSql _ _ (steps_joined (delete_from d.from) (resolve_direct_table cat) _)))))

-- ---- the table

module _ (cat : Catalogue) (d : Delete) where
  pub beside_tables : d.tables ≡ true → deleted_table cat d ≡ refused (classed UnsupportedSql)
  unfolding deleted_table
  beside_tables e = test_off _ _ e

  module _ (a : d.tables ≡ false) where
    pub beside_using : d.using_clause ≡ true → deleted_table cat d ≡ refused (classed UnsupportedSql)
    unfolding deleted_table
    beside_using e = test_on _ _ a ∙ test_off _ _ e

    module _ (b : d.using_clause ≡ false) where
      pub beside_returning : d.returning ≡ true → deleted_table cat d ≡ refused (classed UnsupportedSql)
      unfolding deleted_table
      beside_returning e = test_on _ _ a ∙ test_on _ _ b ∙ test_off _ _ e

      module _ (c : d.returning ≡ false) where
        pub beside_order_by : d.order_by ≡ true → deleted_table cat d ≡ refused (classed UnsupportedSql)
        unfolding deleted_table
        beside_order_by e = test_on _ _ a ∙ test_on _ _ b ∙ test_on _ _ c ∙ test_off _ _ e

        module _ (o : d.order_by ≡ false) where
          pub beside_limit : d.limit ≡ true → deleted_table cat d ≡ refused (classed UnsupportedSql)
          unfolding deleted_table
          beside_limit e = test_on _ _ a ∙ test_on _ _ b ∙ test_on _ _ c ∙ test_on _ _ o ∙ test_off _ _ e

          module _ (l : d.limit ≡ false) where
            pub past_marks : deleted_table cat d ≡ (delete_from d.from >>= resolve_direct_table cat)
            unfolding deleted_table
            past_marks = test_on _ _ a ∙ test_on _ _ b ∙ test_on _ _ c ∙ test_on _ _ o ∙ test_on _ _ l

-- by the code of its FROM
pub no_keyword_lem : (f : DeleteFrom) → delete_from_no f ≡ 0 → delete_from f ≡ refused (classed UnsupportedSql)
no_keyword_lem (from (one t)) e = absurd (omega arith)
no_keyword_lem (from not_one) e = absurd (omega arith)
no_keyword_lem no_keyword e = refl

pub not_one_lem : (f : DeleteFrom) → delete_from_no f ≡ 1 → delete_from f ≡ refused (classed UnsupportedSql)
not_one_lem (from (one t)) e = absurd (omega arith)
not_one_lem (from not_one) e = refl
not_one_lem no_keyword e = absurd (omega arith)

-- ---- over the table

module _ (t : TableSchema) (o : Option Expr) where
  pub no_condition : o ≡ none → deleted_rows t o ≡ refused (classed UnsupportedSql)
  unfolding deleted_rows
  no_condition e = found_off _ _ e

  module _ {x : Expr} (e : o ≡ some x) where
    pub unfiltered : {r : Refusal} → bind_boolean_filter t x ≡ refused r → deleted_rows t o ≡ refused r
    unfolding deleted_rows
    unfiltered h = found_on _ _ e ∙ step_off _ h

    pub filtered : {y : BoundExpr} → bind_boolean_filter t x ≡ given y → deleted_rows t o ≡ given (deleted t y)
    unfolding deleted_rows
    filtered h = found_on _ _ e ∙ step_on _ h

-- how long it is, by its parts
pub deleted_length : (t : TableSchema) (x : BoundExpr) {a n : ℕ} → a ≡ length (bound_table_ref.write (bound_table t)) → n ≡ length (bound_expression.write x)
    → 13 + a + n ≡ length (bound_statement.write (deleted t x))
deleted_length t x p q = omega (arith, p, q, delete_length (record { table = bound_table t; filter = x }))
