-- What the rules of one operand come to at each kind of a range.
-- Assumes nothing.
use Rattle.std.specs.Prelude.{◌≡◌, ℕ, ◌≤◌, ◌<◌, suc}
use Rattle.std.proofs.Common.{refl, subst, eqb, ⊎_elim, arith}
use native.Mathlib.Nat.{eq-or-lt_of_le}
use Rattle.std.proofs.Math.Option.{Option, none, some}
use Rattle.image_expression.specs.Place.{un_of}
use Rattle.rules.specs.Bound.{Value}
use Rattle.rules.specs.Lists.{Text}
use Rattle.rules.specs.Evaluate.{unary_value}
use Rattle.rules.specs.Statements.{null_test}
use Rattle.run_values.specs.Worths.{told, over_one}

-- the least that it can be, or more
among : (P : ℕ → Type 0) {k n : ℕ} → n ≤ k → P n → (suc n ≤ k → P k) → P k
among P {k} {n} h p f = ⊎_elim (λ (e : n ≡ k). subst P e p) f (eq-or-lt_of_le h)

only : {k n : ℕ} → n ≤ k → k < suc n → k ≡ n
only h l = omega arith

-- ---- a sign and NOT: NULL stays, and TEXT has no rule

module _ {k : ℕ} (lo : 12 ≤ k) (hi : k < 15) where
  pub null_stays : some Value.null ≡ told (unary_value (un_of k) Value.null)
  unfolding un_of unary_value
  null_stays =
      among (λ j. some Value.null ≡ told (unary_value (un_of j) Value.null)) lo refl
      (λ l. among (λ j. some Value.null ≡ told (unary_value (un_of j) Value.null)) l refl (λ m. rw (only m hi)))

  pub no_text : (t : Text) → none ≡ told (unary_value (un_of k) (Value.text t))
  unfolding un_of unary_value
  no_text t =
      among (λ j. none ≡ told (unary_value (un_of j) (Value.text t))) lo refl
      (λ l. among (λ j. none ≡ told (unary_value (un_of j) (Value.text t))) l refl (λ m. rw (only m hi)))

-- ---- the two tests for NULL

pub test_of : {k : ℕ} → 10 ≤ k → k < 12 → un_of k ≡ null_test (eqb k 11)
unfolding un_of
test_of {k} lo hi = among (λ j. un_of j ≡ null_test (eqb j 11)) lo refl (λ l. rw (only l hi))

-- ---- another operator

pub other_unary_lem : {k : ℕ} → k ≡ 15 → (p : Option Value) → none ≡ over_one (un_of k) p
unfolding un_of unary_value
other_unary_lem h none = refl
other_unary_lem h (some u) = rw h
