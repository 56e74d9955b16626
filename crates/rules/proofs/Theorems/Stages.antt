-- Outcomes in stages, one after the other: each stage has its numbers, and the first that refuses is heard.
-- Assumes nothing.
use Rattle.std.specs.Prelude.{◌≡◌, refl, Bool, true, false, ◌↔◌, List, [], ◌∷◌, ℕ, eqb}
use Rattle.std.proofs.Common.{◌∙◌, sym, ap, true≢false}
use Rattle.rules.specs.Lists.{any}
use Rattle.rules.specs.Heard.{Outcome, refuses, answers, next}
use Rattle.rules.proofs.Theorems.Steps.{never_answers}

-- the number k is not heard
abbrev pub Never : {A : Type 0} → ℕ → Outcome A → Type 0
Never k o = o ≡ refuses k → ⊥

abbrev pub among : ℕ → List ℕ → Bool
among k l = any (eqb k) l

abbrev pub one_to_four : List ℕ
one_to_four = 1 ∷ 2 ∷ 3 ∷ 4 ∷ []

abbrev pub five_to_eight : List ℕ
five_to_eight = 5 ∷ 6 ∷ 7 ∷ 8 ∷ []

pub number_same : {A : Type 0} {j k : ℕ} → ◌≡◌ {A = Outcome A} (refuses j) (refuses k) → j ≡ k
number_same h = cc

-- a refusal with a number of a list is none with a number that the list has not
pub never_other : {A : Type 0} {j k : ℕ} (l : List ℕ) → among j l ≡ true → among k l ≡ false → Never {A = A} k (refuses j)
never_other l e f h = true≢false (sym e ∙ ap (λ n. among n l) (number_same h) ∙ f)

pub never_refuses : {A : Type 0} {a : A} {k : ℕ} → Never k (answers a)
never_refuses h = never_answers (sym h)

module _ {A B : Type 0} (k : ℕ) where
  pub never_next : (o : Outcome A) (f : A → Outcome B) → Never k o → ((a : A) → Never k (f a)) → Never k (next o f)
  never_next (refuses j) f n m h = n (ap refuses (number_same h))
  never_next (answers a) f n m h = m a h

  -- a number that the later stages do not have is given where the first gives it
  pub first_stage : (o : Outcome A) (f : A → Outcome B) → ((a : A) → Never k (f a)) → (next o f ≡ refuses k) ↔ (o ≡ refuses k)
  first_stage (refuses j) f n = (λ h. cc, λ h. cc)
  first_stage (answers a) f n = (λ h. absurd (n a h), λ h. absurd (never_refuses h))

  -- one that the first stage does not have is given where the first answers and the rest gives it
  pub later_stage : (o : Outcome A) (f : A → Outcome B) → Never k o → (next o f ≡ refuses k) ↔ ((a : A) × (o ≡ answers a) × (f a ≡ refuses k))
  later_stage (refuses j) f n = (λ h. absurd (n (ap refuses (number_same h))), λ h. absurd (never_answers h.1))
  later_stage (answers a) f n = (λ h. (a, refl, h), λ h. let e : a ≡ h.0 = cc in rw e h.2)

-- what comes after the first stage may be exchanged
pub same_after : {A B C : Type 0} (k : ℕ) (o : Outcome A) (f : A → Outcome B) (g : A → Outcome C)
    → ((a : A) → (f a ≡ refuses k) ↔ (g a ≡ refuses k)) → (next o f ≡ refuses k) ↔ (next o g ≡ refuses k)
same_after k (refuses j) f g e = (λ h. cc, λ h. cc)
same_after k (answers a) f g e = e a

-- the whole answers where the first stage does, and the rest does
pub next_answers : {A B : Type 0} (o : Outcome A) (f : A → Outcome B) (b : B) → (next o f ≡ answers b) ↔ ((a : A) × (o ≡ answers a) × (f a ≡ answers b))
next_answers (refuses j) f b = (λ h. absurd (never_answers h), λ h. absurd (never_answers h.1))
next_answers (answers a) f b = (λ h. (a, refl, h), λ h. let e : a ≡ h.0 = cc in rw e h.2)

pub next_assoc : {A B C : Type 0} (o : Outcome A) (f : A → Outcome B) (g : B → Outcome C) → next (next o f) g ≡ next o (λ a. next (f a) g)
next_assoc (refuses k) f g = refl
next_assoc (answers a) f g = refl

-- with another word for each of the two facts
module _ {A : Type 0} {P Q R S : A → Type 0} where
  pub reworded : ((a : A) → P a ↔ R a) → ((a : A) → Q a ↔ S a) → ((a : A) × P a × Q a) ↔ ((a : A) × R a × S a)
  reworded e f = (λ h. (h.0, (e h.0).0 h.1, (f h.0).0 h.2), λ h. (h.0, (e h.0).1 h.1, (f h.0).1 h.2))

pub same_word : {A : Type 0} → A ↔ A
same_word = (λ h. h, λ h. h)
