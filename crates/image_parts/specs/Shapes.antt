-- Whether bytes are a name, a table or a condition: for each format, the tests that the code makes one behind the other.
-- Assumes nothing.
use Rattle.std.specs.Prelude.{◌≡◌, refl, Bool, true, ◌&&◌, ◌||◌, List, [], ◌∷◌, ℕ, length, drop, get_or, ltb, eqb}
use Rattle.std.proofs.Common.{sym, ◌∙◌, arith}
use Rattle.bytes_format.specs.Format.{Format}
use Rattle.bytes_format.proofs.Formats.{text, mark, headed}
use Rattle.bytes_utf8.specs.Decide.{is_utf8}
use Rattle.rules.specs.Statements.{ObjectName}
use Rattle.image_expression.specs.Expression.{expression, expression_not_empty}
use Rattle.bytes_bundle.specs.Bundle.{is_there}
use Rattle.bytes_bundle.specs.Fields.{text_is, optional_some}
use Rattle.bytes_bundle.specs.Heads.{Marked, via_marked, headed_marked, Chosen, sum_chosen, bare_or_case}
use Rattle.image_parts.specs.Layout.{
  name,
  object_name_cases,
  which_object_name,
  object_name_made,
  object_name,
  relation_cases,
  which_relation,
  relation_made,
  relation,
  table_with_joins,
  condition,
}

-- ---- names

pub name_marked : (s : List ℕ) → Marked (is_there (name.read s)) s (is_utf8 (drop 1 s))
unfolding name
name_marked s = record { is = (via_marked text _ s).is ∙ rw (text_is (drop 1 s)) }

pub object_name_chosen : (s : List ℕ) → Chosen (is_there (object_name.read s)) s object_name_cases
unfolding object_name
object_name_chosen s = sum_chosen object_name_cases which_object_name object_name_made refl refl s

-- whether bytes are a name, and an object's name
pub is_name_lem : (s : List ℕ) → is_there (name.read s) ≡ (ltb 0 (length s) && (ltb (get_or s 0 0) 2 && is_utf8 (drop 1 s)))
is_name_lem s = (name_marked s).is

pub is_object_name_lem : (s : List ℕ)
    → is_there (object_name.read s)
    ≡ ((eqb (length s) 1 && eqb (get_or s 0 0) 0) || (ltb 0 (length s) && (eqb (get_or s 0 0) 1 && is_there (name.read (drop 1 s)))))
is_object_name_lem s = bare_or_case (object_name_chosen s)

-- ---- one table

-- what a relation of code 1 has behind the code
unfoldable pub direct_form : Format (Bool × ObjectName)
direct_form = headed mark (λ m. object_name)

pub direct_marked : (s : List ℕ) → Marked (is_there (direct_form.read s)) s (is_there (object_name.read (drop 1 s)))
unfolding direct_form
direct_marked s = headed_marked object_name s

pub relation_chosen : (s : List ℕ) → Chosen (is_there (relation.read s)) s relation_cases
unfolding relation
relation_chosen s = sum_chosen relation_cases which_relation relation_made refl refl s

pub table_marked : (s : List ℕ) → Marked (is_there (table_with_joins.read s)) s (is_there (relation.read (drop 1 s)))
unfolding table_with_joins
table_marked s = via_marked relation _ s

-- whether bytes are the one table, and the parts of it
pub is_direct_lem : (s : List ℕ) → is_there (direct_form.read s) ≡ (ltb 0 (length s) && (ltb (get_or s 0 0) 2 && is_there (object_name.read (drop 1 s))))
is_direct_lem s = (direct_marked s).is

pub is_relation_lem : (s : List ℕ)
    → is_there (relation.read s)
    ≡ ((eqb (length s) 1 && eqb (get_or s 0 0) 0) || (ltb 0 (length s) && (eqb (get_or s 0 0) 1 && is_there (direct_form.read (drop 1 s)))))
unfolding direct_form
is_relation_lem s = bare_or_case (relation_chosen s)

pub is_table_lem : (s : List ℕ) → is_there (table_with_joins.read s) ≡ (ltb 0 (length s) && (ltb (get_or s 0 0) 2 && is_there (relation.read (drop 1 s))))
is_table_lem s = (table_marked s).is

-- ---- a condition

pub condition_none : (s : List ℕ) → length s ≡ 0 → true ≡ is_there (condition.read s)
condition_none [] h = refl
condition_none (b ∷ s) h = absurd (omega arith)

pub condition_some : (s : List ℕ) → (length s ≡ 0 → ⊥) → is_there (expression.read s) ≡ is_there (condition.read s)
condition_some s h = sym (optional_some expression expression_not_empty s (omega arith))
