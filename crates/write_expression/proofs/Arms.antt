-- The last arm of a match on numbers that follow each other: each arm before it is one number that it is not.
-- Assumes nothing.
use mathlib.Core.Path.{◌≡◌}
use Prim.Native.Nat.{ℕ, suc, ◌≤◌, ◌<◌}
use native.Mathlib.Omega.{arith}

pub past : {k n : ℕ} → n ≤ k → (k ≡ n → ⊥) → suc n ≤ k
past h f = omega arith

pub least : (k : ℕ) → 0 ≤ k
least k = omega arith

pub only : {k n : ℕ} → n ≤ k → k < suc n → k ≡ n
only h l = omega arith
