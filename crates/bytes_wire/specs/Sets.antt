-- A run of writes. `sets l i vs` (of `lib.Seq`) is l with vs written from index i on; runs one behind the other are one run.
-- Assumes nothing.
use Rattle.std.specs.Prelude.{◌≡◌, List, [], ◌∷◌, ◌++◌, ℕ, zero, suc, ◌+◌, ◌-◌, ◌/◌, ◌%◌, ◌<◌, length, set, get_or, drop}
use Rattle.std.proofs.Common.{sym, ap, ap₂, ◌∙◌, add-zero, add-suc, suc-add, add-one, arith, length-append, drop-cons}
use Rattle.std.proofs.lemmas.List.Edits.{sets}
use Rattle.bytes_wire.specs.Le.{le}

pub sets_append : (l : List ℕ) (i : ℕ) (a b : List ℕ) → sets (sets l i a) (i + length a) b ≡ sets l i (a ++ b)
sets_append l i [] b = ap (λ (k : ℕ). sets l k b) (add-zero i)
sets_append l i (x ∷ a) b = ap (λ (k : ℕ). sets (sets (set l i x) (suc i) a) k b) (add-suc i (length a) ∙ sym (suc-add i (length a))) ∙ sets_append (set l i x) (suc i) a b

-- What a function that writes says, and all that it says: o' is o with the bytes x written from index i on, and j is the index behind them.
pub record Wrote (o : List ℕ) (i : ℕ) (x : List ℕ) (j : ℕ) (o' : List ℕ) : Type 0 where
  pub end : j ≡ i + length x
  pub is : o' ≡ sets o i x

-- one write behind the other
pub then : {o o₁ o₂ x y : List ℕ} {i j k : ℕ} → Wrote o i x j o₁ → Wrote o₁ j y k o₂ → Wrote o i (x ++ y) k o₂
then {o} {x = x} {y = y} {i = i} p q = record {
  end = omega (arith, p.end, q.end, length-append x y);
  is = q.is ∙ ap₂ (λ (l : List ℕ) (n : ℕ). sets l n y) p.is p.end ∙ sets_append o i x y;
}

-- a number's next byte, written
pub sets_le : (l : List ℕ) (to k n : ℕ) → 0 < k → sets (set l to (n % 256)) (to + 1) (le (k - 1) (n / 256)) ≡ sets l to (le k n)
sets_le l to zero n h = absurd (omega arith)
sets_le l to (suc k) n h = let e : suc k - 1 ≡ k = omega arith in rw (e, add-one)

-- a list's next element, written
pub sets_drop : (l : List ℕ) (at i : ℕ) (s : List ℕ) → i < length s → sets (set l (at + i) (get_or s i 0)) (at + (i + 1)) (drop (i + 1) s) ≡ sets l (at + i) (drop i s)
sets_drop l at i s h = let e : at + (i + 1) ≡ suc (at + i) = omega arith in rw (e, add-one i, drop-cons s i 0 h)
