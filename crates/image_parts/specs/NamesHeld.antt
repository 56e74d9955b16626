-- What a name, an object name, a table and a condition hold, by the bytes that the accessors look at.
-- Assumes nothing.
use Rattle.std.specs.Prelude.{◌≡◌, refl, Bool, true, false, not, cond, List, ℕ, ◌<◌, length, drop, get_or, eqb}
use Rattle.std.proofs.Common.{subst, arith}
use Rattle.std.proofs.Math.Option.{Option, some, none, some-injective, none-ne-some}
use Rattle.bytes_format.specs.Ways.{some_code}
use Rattle.bytes_format.proofs.Formats.{text}
use Rattle.bytes_utf8.specs.Decide.{is_utf8}
use Rattle.bytes_bundle.specs.Bundle.{is_there}
use Rattle.bytes_bundle.specs.Laws.{some_there}
use Rattle.bytes_bundle.specs.Values.{MarkedHas, marked_value, via_marked_value, CodedHas, behind_code, optional_value, optional_present}
use Rattle.bytes_bundle.specs.Cases.{ChoiceHas, choice_has}
use Rattle.rules.specs.Statements.{Expr, Name, ObjectName, Relation, direct, indirect, TableWithJoins}
use Rattle.image_expression.specs.Expression.{expression}
use Rattle.image_parts.specs.Layout.{
  name,
  object_name_cases,
  which_object_name,
  object_name_made,
  object_name,
  relation_cases,
  which_relation,
  relation_made,
  relation,
  table_with_joins,
  condition,
}
use Rattle.bytes_bundle.specs.Held.{Is, Holds, Shows}

-- ---- names

pub record NameHas (s : List ℕ) (v : Name) : Type 0 where
  pub wide : 0 < length s
  pub quoted : eqb (get_or s 0 0) 1 ≡ v.quoted
  pub text : drop 1 s ≡ v.text

pub text_is_all : (s : List ℕ) {t : List ℕ} → text.read s ≡ some t → s ≡ t
text_is_all s {t} e = go (is_utf8 s) e
  where
    go : (b : Bool) → cond b (some s) none ≡ some t → s ≡ t
    go true e = some-injective s t e
    go false e = absurd (none-ne-some t e)

pub name_has : (s : List ℕ) (v : Name) → Holds name s v → NameHas s v
unfolding name
name_has s v e =
    let a = via_marked_value text s _ e in
    subst (NameHas s) a.2 (record { wide = a.1.wide; quoted = a.1.mark; text = text_is_all (drop 1 s) a.1.behind })

-- the place among the cases: 0 several parts, 1 one part
abbrev pub object_name_no : ObjectName → ℕ
object_name_no o = some_code object_name_cases (which_object_name o)

pub object_name_has : (s : List ℕ) (v : ObjectName) → Holds object_name s v → ChoiceHas object_name_cases which_object_name s v
unfolding object_name
object_name_has s v e = choice_has object_name_cases which_object_name object_name_made refl refl s e

-- ---- one table

pub table_has : (s : List ℕ) (v : TableWithJoins) → Holds table_with_joins s v → MarkedHas relation s v.joins v.relation
unfolding table_with_joins
table_has s v e =
    let a = via_marked_value relation s _ e in
    subst (λ (t : TableWithJoins). MarkedHas relation s t.joins t.relation) a.2 a.1

-- 0 no table of its own, 1 a table
abbrev pub relation_no : Relation → ℕ
relation_no r = some_code relation_cases (which_relation r)

abbrev pub is_direct : Relation → Bool
is_direct (direct m n) = true
is_direct indirect = false

pub relation_has : (s : List ℕ) (v : Relation) → Holds relation s v → ChoiceHas relation_cases which_relation s v
unfolding relation
relation_has s v e = choice_has relation_cases which_relation relation_made refl refl s e

pub direct_has : (s : List ℕ) (m : Bool) (n : ObjectName) → Holds relation s (direct m n) → CodedHas object_name s m n
direct_has s m n e = behind_code object_name s (marked_value object_name (drop 1 s) (relation_has s (direct m n) e).content)

-- ---- a condition

-- there is a byte exactly where there is a condition
pub condition_present : (s : List ℕ) (v : Option Expr) → Holds condition s v → not (eqb (length s) 0) ≡ is_there v
condition_present s v e = optional_present expression s e

-- and its bytes are the expression's
pub condition_holds : (s : List ℕ) (x : Expr) → Holds condition s (some x) → Holds expression s x
condition_holds s x e = optional_value expression s e refl

-- ---- what the accessors may rely on

pub name_wide : {s : List ℕ} → Is name s → 0 < length s
name_wide {s} i = some_there (name.read s) i.there (λ v e. (name_has s v e).wide)

pub object_name_wide : {s : List ℕ} → Is object_name s → 0 < length s
object_name_wide {s} i = some_there (object_name.read s) i.there (λ v e. (object_name_has s v e).wide)

pub table_wide : {s : List ℕ} → Is table_with_joins s → 0 < length s
table_wide {s} i = some_there (table_with_joins.read s) i.there (λ v e. (table_has s v e).wide)

pub relation_wide : {s : List ℕ} → Is relation s → 0 < length s
relation_wide {s} i = some_there (relation.read s) i.there (λ v e. (relation_has s v e).wide)

pub direct_wide : {s : List ℕ} → Shows relation is_direct s → 1 < length s
direct_wide {s} i = some_there (relation.read s) i.there (λ v e. go v e (i.case v e))
  where
    go : (v : Relation) → Holds relation s v → is_direct v ≡ true → 1 < length s
    go (direct m n) e h = (direct_has s m n e).wide
    go indirect e h = let z : ◌≡◌ {A = ℕ} 0 1 = cc in absurd (omega arith)
