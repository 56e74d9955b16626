-- The whole UPDATE: the rules' steps one by one, as the code makes them.
-- Assumes nothing.
use Rattle.std.specs.Prelude.{◌≡◌, refl, true, false, List, [], ◌∷◌, ℕ, ◌+◌, length}
use Rattle.std.proofs.Common.{◌∙◌, subst, arith}
use Rattle.std.proofs.Math.Option.{none, some}
use Rattle.bytes_format.proofs.Formats.{list_of}
use Rattle.bytes_bundle.specs.Held.{Is, Holds, is_held, held_once}
use Rattle.image_bound.specs.Columns.{bound_table_ref}
use Rattle.image_bound.specs.Expression.{bound_expression}
use Rattle.image_bound.specs.Layout as layout
use Rattle.image_bound.specs.Layout.{bound_statement}
use Rattle.image_bound.specs.Sizes.{update_length}
use Rattle.image_catalogue.specs.Layout.{table, catalogue}
use Rattle.bind_table.specs.Given.{resolved_sound, catalogue_sound}
use Rattle.bind_table.specs.Steps.{classed, step_on, step_off, test_on, test_off, found_on, found_off, TableGiven}
use Rattle.rules.specs.declared.Class.TheVariants.{UnsupportedSql, InvalidArgument}
use Rattle.rules.specs.declared.Refusal.{Refusal}
use Rattle.rules.specs.Answers.{Answer, given, refused, ◌>>=◌}
use Rattle.rules.specs.Analyze.{assignments, resolve_direct_table, analyze_update}
use Rattle.rules.specs.Bound.{BoundAssignment, BoundExpr, BoundStatement, bound_update}
use Rattle.rules.specs.Fits.{bind_boolean_filter}
use Rattle.rules.specs.Lists.{is_empty}
use Rattle.rules.specs.Lookup.{bound_table}
use Rattle.rules.specs.Statements.{Assignment, TableWithJoins, Update, Expr}
use Rattle.rules.specs.Tables.{TableSchema, Catalogue, sound_table}

-- ---- over its table

abbrev pub updated : TableSchema → List BoundAssignment → BoundExpr → BoundStatement
updated t bs x = bound_update (record { table = bound_table t; assignments = bs; filter = x })

abbrev pub update_table : TableSchema → List Assignment → Expr → Answer BoundStatement
update_table t xs e = do
  bs ← assignments t [] xs
  x ← bind_boolean_filter t e
  given (updated t bs x)

module _ (t : TableSchema) (xs : List Assignment) (e : Expr) where
  pub table_unassigned : {r : Refusal} → assignments t [] xs ≡ refused r → update_table t xs e ≡ refused r
  table_unassigned h = step_off _ h

  module _ {bs : List BoundAssignment} (a : assignments t [] xs ≡ given bs) where
    pub table_unfiltered : {r : Refusal} → bind_boolean_filter t e ≡ refused r → update_table t xs e ≡ refused r
    table_unfiltered h = step_on _ a ∙ step_off _ h

    pub table_updated : {x : BoundExpr} → bind_boolean_filter t e ≡ given x → update_table t xs e ≡ given (updated t bs x)
    table_updated h = step_on _ a ∙ step_on _ h

-- how long it is, by its parts
pub updated_length : (t : TableSchema) (bs : List BoundAssignment) (x : BoundExpr) {r a f : ℕ}
    → r ≡ length (bound_table_ref.write (bound_table t)) → a ≡ length ((list_of 4 layout.assignment).write bs) → f ≡ length (bound_expression.write x)
    → 17 + r + a + f ≡ length (bound_statement.write (updated t bs x))
updated_length t bs x o p q =
    omega (arith, o, p, q, update_length (record { table = bound_table t; assignments = bs; filter = x }))

-- the bytes t hold a sound table
pub record Sound (t : List ℕ) : Type 0 where
  pub is : Is table t
  pub sound : (v : TableSchema) → Holds table t v → sound_table v ≡ true

-- as one that was found is
pub given_sound : (c : List ℕ) {p : List ℕ} {cat : Catalogue} (w : TableWithJoins) → Holds catalogue c cat → TableGiven (resolve_direct_table cat w) p → Sound p
given_sound c {p} {cat} w h g = record {
  is = is_held {f = table} g.holds;
  sound = λ v k. subst (λ (t : TableSchema). sound_table t ≡ true) (held_once table g.holds k) (resolved_sound cat w g.gives (catalogue_sound c h));
}

-- ---- from the beginning

pub is_empty_lem : {A : Type 0} (l : List A) → length l ≡ 0 → is_empty l ≡ true
is_empty_lem [] h = refl
is_empty_lem (x ∷ l) h = absurd (omega arith)

pub not_empty : {A : Type 0} (l : List A) → (length l ≡ 0 → ⊥) → is_empty l ≡ false
not_empty [] h = absurd (h refl)
not_empty (x ∷ l) h = refl

module _ (cat : Catalogue) (u : Update) where
  pub update_from : u.from ≡ true → analyze_update cat u ≡ refused (classed UnsupportedSql)
  unfolding analyze_update
  update_from e = test_off _ _ e

  module _ (f : u.from ≡ false) where
    pub update_returning : u.returning ≡ true → analyze_update cat u ≡ refused (classed UnsupportedSql)
    unfolding analyze_update
    update_returning e = test_on _ _ f ∙ test_off _ _ e

    module _ (r : u.returning ≡ false) where
      pub update_conflict : u.conflict ≡ true → analyze_update cat u ≡ refused (classed UnsupportedSql)
      unfolding analyze_update
      update_conflict e = test_on _ _ f ∙ test_on _ _ r ∙ test_off _ _ e

      module _ (c : u.conflict ≡ false) where
        pub update_empty : is_empty u.assignments ≡ true → analyze_update cat u ≡ refused (classed InvalidArgument)
        unfolding analyze_update
        update_empty e = test_on _ _ f ∙ test_on _ _ r ∙ test_on _ _ c ∙ test_off _ _ e

        module _ (n : is_empty u.assignments ≡ false) where
          pub update_unresolved : {q : Refusal} → resolve_direct_table cat u.table ≡ refused q → analyze_update cat u ≡ refused q
          unfolding analyze_update
          update_unresolved e = test_on _ _ f ∙ test_on _ _ r ∙ test_on _ _ c ∙ test_on _ _ n ∙ step_off _ e

          module _ {t : TableSchema} (g : resolve_direct_table cat u.table ≡ given t) where
            pub update_unconditioned : u.condition ≡ none → analyze_update cat u ≡ refused (classed UnsupportedSql)
            unfolding analyze_update
            update_unconditioned e = test_on _ _ f ∙ test_on _ _ r ∙ test_on _ _ c ∙ test_on _ _ n ∙ step_on _ g ∙ found_off _ _ e

            pub update_table_lem : {e : Expr} → u.condition ≡ some e → analyze_update cat u ≡ update_table t u.assignments e
            unfolding analyze_update
            update_table_lem e = test_on _ _ f ∙ test_on _ _ r ∙ test_on _ _ c ∙ test_on _ _ n ∙ step_on _ g ∙ found_on _ _ e
