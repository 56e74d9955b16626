-- Which assignment each position of a row takes its value from, and the row that comes of it: over plain lists.
-- Assumes nothing.
use Rattle.std.specs.Prelude.{◌≡◌, Bool, true, false, eqb, length, get_or, set, replicate, Option as Maybe, Some, None}
use Rattle.std.proofs.Math.Path.{refl, subst}
use Rattle.std.proofs.Common.{sym, ap, ◌∙◌, arith, get_or-set_same, get_or-set_other, eqb-true}
use mathlib.Core.List.{List, [], ◌∷◌}
use Rattle.std.proofs.Math.Option.{Option, none, some, none-ne-some}
use Prim.Native.Nat.{ℕ, zero, suc, ◌+◌, ◌≤◌, ◌<◌}
use Rattle.std.proofs.Math.ListN.{drop, length-set}
use Rattle.std.proofs.lemmas.List.{length-replicate}
use Rattle.std.proofs.lemmas.Bool.{eqb-false}
use Rattle.bytes_format.specs.Ways.{next}
use Rattle.bind_repeats.specs.Repeats.{drop_next}
use Rattle.rules.specs.Bound.{Value, BoundColumnRef}
use Rattle.rules.specs.Evaluate.{Worked, worked, fault, no_rule, then, evaluate, target_column, written, assigned}
use Rattle.rules.specs.Rows.{Row}
use Rattle.rules.specs.Statements.{Target, Assignment}
use Rattle.rules.specs.Tables.{TableSchema}
use Rattle.run_values.specs.Worths.{told}

-- ---- one assignment: the position that it gives its value to, where it has a value and a position

abbrev pub position : Option BoundColumnRef → Option ℕ
position none = none
position (some c) = some c.ordinal.0

unfoldable pub landing : TableSchema → Row → Assignment → Option ℕ
landing t x a = next (told (evaluate t x a.value)) (λ v. position (target_column t a.target))

-- ---- all of them: for each position the number of the last assignment that gives it a value, and None where none does

unfoldable pub planned : TableSchema → Row → ℕ → List (Maybe ℕ) → List Assignment → Option (List (Maybe ℕ))
planned t x i from [] = some from
planned t x i from (a ∷ rest) = next (landing t x a) (λ o. planned t x (i + 1) (set from o (Some i)) rest)

-- ---- the value at position p, where the plan has k for it

abbrev first_value : TableSchema → Row → List Assignment → Option Value
first_value t x [] = none
first_value t x (a ∷ l) = told (evaluate t x a.value)

unfoldable pub source : TableSchema → Row → List Assignment → ℕ → Maybe ℕ → Option Value
source t x xs p None = some (get_or x p Value.null)
source t x xs p (Some k) = first_value t x (drop k xs)

-- y has its values from where `from` says
pub record Drawn (t : TableSchema) (x : Row) (xs : List Assignment) (from : List (Maybe ℕ)) (y : Row) : Type 0 where
  pub count : length y ≡ length x
  pub each : (p : ℕ) → p < length x → source t x xs p (get_or from p None) ≡ some (get_or y p Value.null)

-- ---- laws

module _ (t : TableSchema) (x : Row) (xs : List Assignment) (p : ℕ) where
  pub source_old : source t x xs p None ≡ some (get_or x p Value.null)
  unfolding source
  source_old = refl

  -- the assignment that is noted, and what it comes to
  pub source_new : {C : Type 0} (k : ℕ) {u : Value} → source t x xs p (Some k) ≡ some u
      → ((a : Assignment) (l : List Assignment) → drop k xs ≡ a ∷ l → told (evaluate t x a.value) ≡ some u → C) → C
  unfolding source
  source_new {C} k {u} e f = go (drop k xs) refl e
    where
      go : (m : List Assignment) → drop k xs ≡ m → first_value t x m ≡ some u → C
      go [] d q = absurd (none-ne-some u q)
      go (a ∷ l) d q = f a l d q

  source_here : (i : ℕ) {a : Assignment} {l : List Assignment} {v : Value} → drop i xs ≡ a ∷ l → told (evaluate t x a.value) ≡ some v → source t x xs p (Some i) ≡ some v
  unfolding source
  source_here i d e = ap (first_value t x) d ∙ e

-- nothing is noted
nones : (n p : ℕ) → ◌≡◌ {A = Maybe ℕ} (get_or (replicate n None) p None) None
nones zero p = refl
nones (suc n) zero = refl
nones (suc n) (suc p) = nones n p

pub drawn_none : (t : TableSchema) (x : Row) (xs : List Assignment) (n : ℕ) → Drawn t x xs (replicate n None) x
drawn_none t x xs n = record { count = refl; each = λ p h. ap (source t x xs p) (nones n p) ∙ source_old t x xs p }

-- one more is noted
drawn_more : {t : TableSchema} {x : Row} {xs : List Assignment} {from : List (Maybe ℕ)} {y : Row} (i o : ℕ) {a : Assignment} {l : List Assignment} {v : Value}
    → Drawn t x xs from y → drop i xs ≡ a ∷ l → told (evaluate t x a.value) ≡ some v → o < length x → length x ≤ length from
    → Drawn t x xs (set from o (Some i)) (set y o v)
drawn_more {t} {x} {xs} {from} {y} i o {a} {l} {v} d e q h k = record {
  count = length-set y o v ∙ d.count;
  each = λ p m. go p m (eqb p o) refl;
}
  where
    go : (p : ℕ) → p < length x → (b : Bool) → eqb p o ≡ b → source t x xs p (get_or (set from o (Some i)) p None) ≡ some (get_or (set y o v) p Value.null)
    go p m true z =
        let s : p ≡ o = eqb-true p o z in
        rw (s, get_or-set_same from o (Some i) None (omega arith), get_or-set_same y o v Value.null (omega (arith, d.count))) (source_here t x xs o i e q)
    go p m false z =
        let s = eqb-false p o z in
        rw (get_or-set_other from o p (Some i) None s, get_or-set_other y o p v Value.null s) (d.each p m)

-- the rules' step, heard
assigned_step : (t : TableSchema) (x y : Row) (a : Assignment) (l : List Assignment)
    → told (assigned t x y (a ∷ l)) ≡ next (told (evaluate t x a.value)) (λ v. next (position (target_column t a.target)) (λ o. told (assigned t x (set y o v) l)))
unfolding assigned
assigned_step t x y a l = go (evaluate t x a.value) (target_column t a.target)
  where
    go : (w : Worked Value) (c : Option BoundColumnRef)
        → told (then w (λ v. then (written c y v) (λ z. assigned t x z l))) ≡ next (told w) (λ v. next (position c) (λ o. told (assigned t x (set y o v) l)))
    go (worked v) none = refl
    go (worked v) (some c) = refl
    go fault c = refl
    go no_rule c = refl

module _ (t : TableSchema) (x : Row) where
  -- no plan, no row
  pub unplanned : (l : List Assignment) (i : ℕ) (from : List (Maybe ℕ)) (y : Row) → planned t x i from l ≡ none → told (assigned t x y l) ≡ none
  unfolding planned landing
  unplanned [] i from y h = absurd (none-ne-some from (sym h))
  unplanned (a ∷ l) i from y h = assigned_step t x y a l ∙ go (λ o v k. unplanned l (i + 1) (set from o (Some i)) (set y o v) k) (told (evaluate t x a.value)) (position (target_column t a.target)) h
    where
      go : ((o : ℕ) (v : Value) → planned t x (i + 1) (set from o (Some i)) l ≡ none → told (assigned t x (set y o v) l) ≡ none)
          → (w : Option Value) (c : Option ℕ) → next (next w (λ v. c)) (λ o. planned t x (i + 1) (set from o (Some i)) l) ≡ none
          → next w (λ v. next c (λ o. told (assigned t x (set y o v) l))) ≡ none
      go below none c k = refl
      go below (some v) none k = refl
      go below (some v) (some o) k = below o v k

  -- a plan says where the row has its values from
  module _ (xs : List Assignment) (within : (g : Target) (o : ℕ) → position (target_column t g) ≡ some o → o < length x) where
    pub drawn_on : (l : List Assignment) (i : ℕ) (from : List (Maybe ℕ)) (y : Row) {f : List (Maybe ℕ)} → drop i xs ≡ l → length x ≤ length from → Drawn t x xs from y
        → planned t x i from l ≡ some f → (z : Row) × (told (assigned t x y l) ≡ some z) × Drawn t x xs f z
    unfolding planned landing assigned
    drawn_on [] i from y {f} d k r h = let e : from ≡ f = cc in (y, refl, subst (λ (g : List (Maybe ℕ)). Drawn t x xs g y) e r)
    drawn_on (a ∷ l) i from y {f} d k r h =
        go (λ o v s m. drawn_on l (i + 1) (set from o (Some i)) (set y o v) (drop_next i xs d) (omega (arith, length-set from o (Some i))) s m)
        (told (evaluate t x a.value)) (position (target_column t a.target)) refl refl h
      where
        go : ((o : ℕ) (v : Value) → Drawn t x xs (set from o (Some i)) (set y o v) → planned t x (i + 1) (set from o (Some i)) l ≡ some f
            → (z : Row) × (told (assigned t x (set y o v) l) ≡ some z) × Drawn t x xs f z)
            → (w : Option Value) (c : Option ℕ) → told (evaluate t x a.value) ≡ w → position (target_column t a.target) ≡ c
            → next (next w (λ v. c)) (λ o. planned t x (i + 1) (set from o (Some i)) l) ≡ some f
            → (z : Row) × (told (assigned t x y (a ∷ l)) ≡ some z) × Drawn t x xs f z
        go below none c p q m = absurd (none-ne-some f m)
        go below (some v) none p q m = absurd (none-ne-some f m)
        go below (some v) (some o) p q m =
            let w = below o v (drawn_more i o r d p (within a.target o q) k) m in
            (w.0, assigned_step t x y a l ∙ rw (p, q) w.1, w.2)

-- ---- the whole, by whether every assignment was worked out

abbrev pub Plans : TableSchema → Row → List Assignment → Maybe (List (Maybe ℕ)) → Type 0
Plans t x xs (Some from) = (z : Row) × (told (assigned t x x xs) ≡ some z) × Drawn t x xs from z
Plans t x xs None = told (assigned t x x xs) ≡ none

module _ (t : TableSchema) (x : Row) (xs : List Assignment) (n : ℕ) where
  pub plans_off : planned t x 0 (replicate n None) xs ≡ none → Plans t x xs None
  plans_off h = unplanned t x xs 0 (replicate n None) x h

  pub plans_on : {from : List (Maybe ℕ)} → ((g : Target) (o : ℕ) → position (target_column t g) ≡ some o → o < length x) → length x ≤ n
      → planned t x 0 (replicate n None) xs ≡ some from → Plans t x xs (Some from)
  plans_on within k h = drawn_on t x xs within xs 0 (replicate n None) x refl (omega (arith, length-replicate {A = Maybe ℕ} n None)) (drawn_none t x xs n) h
