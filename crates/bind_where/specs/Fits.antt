-- What judging a value's or a condition's mark has said, by the case that was answered.
-- Assumes nothing.
use Rattle.std.specs.Prelude.{◌≡◌, refl, ℕ, Result, Ok, Err}
use Rattle.std.proofs.Common.{sym, ◌∙◌, arith}
use Rattle.bind_operators.specs.Told.{told}
use Rattle.rules.specs.declared.Class.{Class}
use Rattle.rules.specs.Answers.{Verdict, fine, flaw}

module _ {j : Verdict Unit} {f : Result Unit Class} (e : f ≡ told j) where
  pub fit_fine : f ≡ Ok tt → j ≡ fine tt
  fit_fine h = go j (sym h ∙ e)
    where
      go : (j : Verdict Unit) → Ok tt ≡ told j → j ≡ fine tt
      go (fine u) e = refl
      go (flaw k) e = let z : ◌≡◌ {A = ℕ} 0 1 = cc in absurd (omega arith)

  pub fit_flaw : {k : Class} → f ≡ Err k → j ≡ flaw k
  fit_flaw {k} h = go j (sym h ∙ e)
    where
      go : (j : Verdict Unit) → Err k ≡ told j → j ≡ flaw k
      go (fine u) e = let z : ◌≡◌ {A = ℕ} 0 1 = cc in absurd (omega arith)
      go (flaw q) e = cc
