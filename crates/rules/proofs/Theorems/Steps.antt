-- A row of steps gives a value only where each of them gave one: what is given at the end is taken apart from the front, a step at a time.
-- Assumes nothing.
use Rattle.std.specs.Prelude.{◌≡◌, refl, Bool, true, false, ◌↔◌, ℕ}
use Rattle.std.proofs.Common.{ap, arith, le-leb}
use Rattle.std.proofs.Math.Option.{Option, none, some}
use Rattle.rules.specs.declared.Class.{Class}
use Rattle.rules.specs.Answers.{Answer, given, refused, ◌>>=◌, ◌>>◌, refuse_if, found, Verdict, fine, flaw, judged}
use Rattle.rules.specs.Heard.{Outcome, refuses, answers, heard, fitted}
use Rattle.rules.specs.Demand.{Answers, Room}
use Rattle.rules.proofs.Theorems.Answered.{never_given}

-- an answer that is no refusal
abbrev pub Gives : {A : Type 0} → Answer A → Type 0
Gives {A} r = (a : A) × (r ≡ given a)

-- C is what is to be shown of the value b that was given
module _ {A B C : Type 0} {b : B} where
  pub step : (r : Answer A) (k : A → Answer B) → (r >>= k) ≡ given b → ((a : A) → r ≡ given a → k a ≡ given b → C) → C
  step (given a) k h next = next a refl h
  step (refused q) k h next = absurd (never_given h)

  -- what was looked for is there
  pub step_found : (o : Option A) (c : Class) (k : A → Answer B) → (found o c >>= k) ≡ given b → ((a : A) → o ≡ some a → k a ≡ given b → C) → C
  step_found none c k h next = absurd (never_given h)
  step_found (some a) c k h next = next a refl h

module _ {B C : Type 0} {b : B} where
  -- the test has not refused
  pub step_past : (refuses : Bool) (c : Class) (rest : Answer B) → (refuse_if refuses c >> rest) ≡ given b
      → (refuses ≡ false → rest ≡ given b → C) → C
  step_past true c rest h next = absurd (never_given h)
  step_past false c rest h next = next refl h

  -- the verdict is fine
  pub step_fine : (v : Verdict Unit) (rest : Answer B) → (judged v >> rest) ≡ given b → (v ≡ fine tt → rest ≡ given b → C) → C
  step_fine (fine tt) rest h next = next refl h
  step_fine (flaw c) rest h next = absurd (never_given h)

-- ---- what a caller hears of it

pub never_answers : {A : Type 0} {k : ℕ} {a : A} → refuses k ≡ answers a → ⊥
never_answers {A} {k} {a} h = let z : ◌≡◌ {A = ℕ} 0 1 = cc in omega arith

-- an answer exactly where there is no refusal
pub heard_answers : {A : Type 0} (r : Answer A) (a : A) → (heard r ≡ answers a) ↔ (r ≡ given a)
heard_answers (given b) a = (λ h. cc, λ h. ap heard h)
heard_answers (refused q) a = (λ h. absurd (never_answers h), λ h. absurd (never_given h))

pub heard_exactly : {A : Type 0} (r : Answer A) → Answers (heard r) ↔ Gives r
heard_exactly r = (λ h. (h.0, (heard_answers r h.0).0 h.1), λ g. (g.0, (heard_answers r g.0).1 g.1))

-- with room for the answer 9 does not come
pub roomy : {A : Type 0} (size : A → ℕ) (room : ℕ) (o : Outcome A) → Room o size room → fitted size room o ≡ o
roomy size room (refuses k) h = refl
roomy size room (answers a) h = rw (le-leb (size a) room (h a refl))
