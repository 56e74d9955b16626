-- Constraints as the code reads them, one after the other.
-- Assumes nothing.
use mathlib.Core.Path.{◌≡◌, refl, sym, ap, ◌∙◌, subst}
use mathlib.Core.Bool.{Bool, true, false, cond, false≢true, true≢false}
use mathlib.Core.List.{List, [], ◌∷◌, map}
use mathlib.Core.Option.{Option, none, some}
use Prim.Native.Nat.{ℕ, ◌+◌, ◌≤◌}
use native.Mathlib.Omega.{arith}
use lib.ListN.{length, drop, drop_of_length-le}
use Rattle.image_create.specs.Held.{is_key}
use Rattle.bind_repeats.specs.Repeats.{drop_next}
use Rattle.bind_table.specs.Steps.{step_on, step_off}
use Rattle.rules.specs.declared.Class.{Class}
use Rattle.rules.specs.declared.Class.TheVariants.{ConstraintViolation, UnsupportedSql}
use Rattle.rules.specs.Lists.{Text, is_some, is_empty}
use Rattle.rules.specs.Answers.{given, refuse, ◌>>=◌}
use Rattle.rules.specs.Names.{canonical}
use Rattle.rules.specs.Statements.{Name, ColumnDefinition, Constraint, primary_key, other_constraint}
use Rattle.rules.specs.Analyze.{register_key, constraint, constraints}
use Rattle.bind_create.specs.declared.Key.{Key}
use Rattle.bind_create.specs.declared.Key.TheVariants.{Constrained}
use Rattle.std.specs.Prelude.{Result, Ok, Err}
use Rattle.bind_create.specs.Keys.{has_key, constrained, KeyAt, key_there, ConstraintsRead}

-- ---- one constraint

pub record IsKey (v : Constraint) : Type 0 where
  pub marked : Bool
  pub names : List Name
  pub is : v ≡ primary_key marked names

pub as_key : (v : Constraint) → is_key v ≡ true → IsKey v
as_key (primary_key m ns) e = record { marked = m; names = ns; is = refl }
as_key other_constraint e = absurd (false≢true e)

pub not_key : (j : ℕ) (has : Bool) (v : Constraint) → is_key v ≡ false → constrained j has v ≡ Err UnsupportedSql
not_key j has (primary_key m ns) e = absurd (true≢false e)
not_key j has other_constraint e = refl

pub empty_is : (ns : List Name) → length ns ≡ 0 → is_empty ns ≡ true
empty_is [] e = refl
empty_is (n ∷ ns) e = absurd (omega (arith, e))

pub not_empty : (ns : List Name) → (length ns ≡ 0 → ⊥) → is_empty ns ≡ false
not_empty [] h = absurd (h refl)
not_empty (n ∷ ns) h = refl

module _ (j : ℕ) (has : Bool) {v : Constraint} (k : IsKey v) where
  pub key_marked : k.marked ≡ true → constrained j has v ≡ Err UnsupportedSql
  key_marked e = ap (constrained j has) k.is ∙ ap (λ (m : Bool). constrained j has (primary_key m k.names)) e

  module _ (a : k.marked ≡ false) where
    unmarked : constrained j has v ≡ cond (is_empty k.names) (Err ConstraintViolation) (cond has (Err ConstraintViolation) (Ok (Constrained j)))
    unmarked = ap (constrained j has) k.is ∙ ap (λ (m : Bool). constrained j has (primary_key m k.names)) a

    pub key_empty : is_empty k.names ≡ true → constrained j has v ≡ Err ConstraintViolation
    key_empty e = unmarked ∙ ap (λ (b : Bool). cond b (Err ConstraintViolation) (cond has (Err ConstraintViolation) (Ok (Constrained j)))) e

    module _ (b : is_empty k.names ≡ false) where
      full : constrained j has v ≡ cond has (Err ConstraintViolation) (Ok (Constrained j))
      full = unmarked ∙ ap (λ (b : Bool). cond b (Err ConstraintViolation) (cond has (Err ConstraintViolation) (Ok (Constrained j)))) b

      pub key_second : has ≡ true → constrained j has v ≡ Err ConstraintViolation
      key_second e = full ∙ ap (λ (b : Bool). cond b (Err ConstraintViolation) (Ok (Constrained j))) e

      pub key_first : has ≡ false → constrained j has v ≡ Ok (Constrained j)
      key_first e = full ∙ ap (λ (b : Bool). cond b (Err ConstraintViolation) (Ok (Constrained j))) e

-- ---- what the rules make of it

-- a key so far is refused a second one
pub constrained_off : (j : ℕ) (names : Option (List Text)) (v : Constraint) {k : Class} → constrained j (is_some names) v ≡ Err k → constraint names v ≡ refuse k
unfolding constraint register_key
constrained_off j names other_constraint e = cc
constrained_off j names (primary_key true ns) e = cc
constrained_off j names (primary_key false []) e = cc
constrained_off j none (primary_key false (n ∷ ns)) e = let z : ◌≡◌ {A = ℕ} 0 1 = cc in absurd (omega arith)
constrained_off j (some ms) (primary_key false (n ∷ ns)) e = cc

pub record Registered (j : ℕ) (names : Option (List Text)) (v : Constraint) (key : Key) : Type 0 where
  pub marked : Bool
  pub list : List Name
  pub is : v ≡ primary_key marked list
  pub gives : constraint names v ≡ given (some (map canonical list))
  pub here : key ≡ Constrained j

pub constrained_on : (j : ℕ) (names : Option (List Text)) (v : Constraint) {key : Key} → constrained j (is_some names) v ≡ Ok key → Registered j names v key
unfolding constraint register_key
constrained_on j names other_constraint e = let z : ◌≡◌ {A = ℕ} 0 1 = cc in absurd (omega arith)
constrained_on j names (primary_key true ns) e = let z : ◌≡◌ {A = ℕ} 0 1 = cc in absurd (omega arith)
constrained_on j names (primary_key false []) e = let z : ◌≡◌ {A = ℕ} 0 1 = cc in absurd (omega arith)
constrained_on j (some ms) (primary_key false (n ∷ ns)) e = let z : ◌≡◌ {A = ℕ} 0 1 = cc in absurd (omega arith)
constrained_on j none (primary_key false (n ∷ ns)) e = record { marked = false; list = n ∷ ns; is = refl; gives = refl; here = cc }

-- ---- all of them

-- the constraints before j are read, and the others are left
pub record ConstraintsTo (cs : List ColumnDefinition) (ds : List Constraint) (before : Option (List Text)) (key : Key) (j : ℕ) : Type 0 where
  pub names : Option (List Text)
  pub is : constraints before ds ≡ constraints names (drop j ds)
  pub named : KeyAt cs ds key names

pub constraints_none : {cs : List ColumnDefinition} {ds : List Constraint} {key : Key} {names : Option (List Text)} → KeyAt cs ds key names → ConstraintsTo cs ds names key 0
constraints_none {names = names} k = record { names = names; is = refl; named = k }

module _ {cs : List ColumnDefinition} {ds : List Constraint} {before : Option (List Text)} {key : Key} {j : ℕ} (t : ConstraintsTo cs ds before key j)
    {v : Constraint} {m : List Constraint} (d : drop j ds ≡ v ∷ m) {r : Result Key Class} (e : r ≡ constrained j (has_key key) v) where
  constrained_is : r ≡ constrained j (is_some t.names) v
  constrained_is = e ∙ ap (λ (b : Bool). constrained j b v) (sym (key_there t.named))

  one_left : constraints before ds ≡ (constraint t.names v >>= (λ k. constraints k m))
  unfolding constraints
  one_left = t.is ∙ ap (constraints t.names) d

  pub constraints_stop : {k : Class} → r ≡ Err k → constraints before ds ≡ refuse k
  constraints_stop q = one_left ∙ step_off (λ k. constraints k m) (constrained_off j t.names v (sym constrained_is ∙ q))

  pub constraints_on : {k : Key} → r ≡ Ok k → ConstraintsTo cs ds before k (j + 1)
  constraints_on {k} q =
      let g = constrained_on j t.names v (sym constrained_is ∙ q) in
      record {
        names = some (map canonical g.list);
        is = one_left ∙ step_on (λ k. constraints k m) g.gives ∙ ap (constraints (some (map canonical g.list))) (sym (drop_next j ds d));
        named = subst (λ (k : Key). KeyAt cs ds k (some (map canonical g.list))) (sym g.here) (record {
          named = record { marked = g.marked; list = g.list; rest = m; here = d ∙ ap (λ (w : Constraint). w ∷ m) g.is; is = refl };
        });
      }

pub constraints_end : {cs : List ColumnDefinition} {ds : List Constraint} {before : Option (List Text)} {key : Key} {j : ℕ}
    → ConstraintsTo cs ds before key j → length ds ≤ j → ConstraintsRead cs ds before key
unfolding constraints
constraints_end {ds = ds} {j = j} t h = record {
  names = t.names;
  gives = t.is ∙ ap (constraints t.names) (drop_of_length-le ds {i = j} h);
  at = t.named;
}
