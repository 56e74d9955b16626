-- The last arm of a match on numbers that follow each other: each arm before it is one number that it is not.
-- Assumes nothing.
use mathlib.Core.Path.{◌≡◌, subst}
use mathlib.Core.Logic.{⊎_elim}
use Prim.Native.Nat.{ℕ, suc, ◌≤◌, ◌<◌}
use native.Mathlib.Nat.{eq-or-lt_of_le}
use native.Mathlib.Omega.{arith}

pub past : {k n : ℕ} → n ≤ k → (k ≡ n → ⊥) → suc n ≤ k
past h f = omega arith

pub least : (k : ℕ) → 0 ≤ k
least k = omega arith

pub only : {k n : ℕ} → n ≤ k → k < suc n → k ≡ n
only h l = omega arith

-- the least that it can be, or more
pub among : (P : ℕ → Type 0) {k n : ℕ} → n ≤ k → P n → (suc n ≤ k → P k) → P k
among P {k} {n} h p f = ⊎_elim (λ (e : n ≡ k). subst P e p) f (eq-or-lt_of_le h)
