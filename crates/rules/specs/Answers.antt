-- What analyzing answers: a value, or the first refusal. Steps are made in the order in which they stand, as with the Rust's `?`.
-- Assumes nothing: these are definitions.
use Rattle.std.specs.Prelude.{Bool, true, false, List, [], ◌∷◌}
use Rattle.std.proofs.Math.Option.{Option, none, some}
use Rattle.rules.specs.declared.Class.{Class}
use Rattle.rules.specs.declared.Refusal.{Refusal}

pub data Answer (A : Type 0) : Type 0 where
  given : A → Answer A
  refused : Refusal → Answer A

module _ {A : Type 0} where
  abbrev pub refuse : Class → Answer A
  refuse k = refused (record { class = k })

module _ {A B : Type 0} where
  infixl 20 ◌>>=◌ ◌>>◌
  -- a step, and the next where the first was not refused
  abbrev pub ◌>>=◌ : Answer A → (A → Answer B) → Answer B
  given a >>= f = f a
  refused r >>= f = refused r

  abbrev pub ◌>>◌ : Answer A → Answer B → Answer B
  given a >> b = b
  refused r >> b = refused r

abbrev pub refuse_if : Bool → Class → Answer Unit
refuse_if true k = refuse k
refuse_if false k = given tt

-- what was looked for, or a refusal where there is none
abbrev pub found : {A : Type 0} → Option A → Class → Answer A
found none k = refuse k
found (some a) k = given a

-- each in turn
module _ {A B : Type 0} where
  unfoldable pub each : (A → Answer B) → List A → Answer (List B)
  each f [] = given []
  each f (x ∷ l) = do
    y ← f x
    ys ← each f l
    given (y ∷ ys)

-- A rule at one place says what is right there, or which class of error it is. That place's refusal is made of it in one function.
pub data Verdict (A : Type 0) : Type 0 where
  fine : A → Verdict A
  flaw : Class → Verdict A

abbrev pub judged : {A : Type 0} → Verdict A → Answer A
judged (fine a) = given a
judged (flaw k) = refuse k
