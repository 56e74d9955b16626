-- How each format of `Formats.antt` writes and reads, where that takes more than a line.
-- Assumes nothing: these are definitions.
use Rattle.std.specs.Prelude.{Bool, true, false, cond, ◌⊎◌, List, [], ◌∷◌, ◌++◌, map, ℕ, zero, suc, ◌+◌, ◌-◌, ◌^◌, ◌<◌, length, take, drop, leb, ltb, eqb}
use Rattle.std.proofs.Math.Option.{Option, none, some}
use Rattle.std.proofs.Common.{inl, inr}
use Rattle.std.proofs.Math.ListN.{get_elem?}
use Rattle.bytes_wire.specs.Le.{Bytes, num}
use Rattle.bytes_format.specs.Format.{Format, Fixed, Parts, Coded, Every, Enum}

-- a step, and the next where the first succeeded
abbrev pub next : {X Y : Type 0} → Option X → (X → Option Y) → Option Y
next none f = none
next (some x) f = f x

-- one behind the other
abbrev pub joined : List (List ℕ) → List ℕ
joined [] = []
joined (s ∷ l) = s ++ joined l

-- ---- fields

-- exactly k bytes
abbrev pub raw_read : ℕ → List ℕ → Option (List ℕ)
raw_read k s = cond (eqb (length s) k) (some s) none

abbrev pub number_read : ℕ → List ℕ → Option ℕ
number_read k s = cond (eqb (length s) k) (some (num s)) none

abbrev pub nothing_read : List ℕ → Option (Unit {0})
nothing_read [] = some tt
nothing_read (b ∷ s) = none

abbrev pub code_read : {A : Type 0} → Enum A → List ℕ → Option A
code_read e [] = none
code_read e (b ∷ []) = get_elem? e.all b
code_read e (b ∷ c ∷ s) = none

abbrev pub bool_index : Bool → ℕ
bool_index false = 0
bool_index true = 1

-- ---- one thing behind another

module _ {A : Type 0} {B : A → Type 0} (f : Fixed A) (g : (a : A) → Format (B a)) where
  abbrev pub headed_write : (a : A) × B a → List ℕ
  headed_write p = f.form.write p.0 ++ (g p.0).write p.1

  abbrev pub headed_read : List ℕ → Option ((a : A) × B a)
  headed_read s = next (f.form.read (take f.width s)) (λ a. next ((g a).read (drop f.width s)) (λ b. some (a, b)))

  abbrev pub HeadedOk : (a : A) × B a → Type 0
  HeadedOk p = f.form.Ok p.0 × (g p.0).Ok p.1

-- n fields of one kind
abbrev pub row_write : {A : Type 0} → Fixed A → List A → List ℕ
row_write f l = joined (map f.form.write l)

abbrev pub row_read : {A : Type 0} → Fixed A → ℕ → List ℕ → Option (List A)
row_read f zero [] = some []
row_read f zero (b ∷ s) = none
row_read f (suc n) s = next (f.form.read (take f.width s)) (λ a. next (row_read f n (drop f.width s)) (λ l. some (a ∷ l)))

-- pieces of the lengths ns
abbrev pub cut_read : List ℕ → List ℕ → Option (List (List ℕ))
cut_read [] [] = some []
cut_read [] (b ∷ s) = none
cut_read (n ∷ ns) s = cond (leb n (length s)) (next (cut_read ns (drop n s)) (λ l. some (take n s ∷ l))) none

-- a count of w bytes holds the number of pieces, and one the length of each
abbrev pub PiecesOk : ℕ → List (List ℕ) → Type 0
PiecesOk w l = (length l < 256 ^ w) × Every (λ s. length s < 256 ^ w) l × Every Bytes l

-- ---- nothing at all, or a value

module _ {A : Type 0} (f : Format A) where
  abbrev pub optional_write : Option A → List ℕ
  optional_write none = []
  optional_write (some a) = f.write a

  abbrev pub optional_read : List ℕ → Option (Option A)
  optional_read [] = some none
  optional_read (b ∷ s) = next (f.read (b ∷ s)) (λ a. some (some a))

  -- where there is a value, it has an image
  abbrev pub OptionalOk : Option A → Type 0
  OptionalOk none = Unit {0}
  OptionalOk (some a) = f.Ok a

-- ---- parts

abbrev pub end_join : List (List ℕ) → Option (Unit {0})
end_join [] = some tt
end_join (s ∷ l) = none

abbrev pub and_join : {A B : Type 0} → Format A → Parts B → List (List ℕ) → Option (A × B)
and_join f p [] = none
and_join f p (s ∷ l) = next (f.read s) (λ a. next (p.join l) (λ b. some (a, b)))

abbrev pub each_join : {A : Type 0} → Format A → List (List ℕ) → Option (List A)
each_join f [] = some []
each_join f (s ∷ l) = next (f.read s) (λ a. next (each_join f l) (λ m. some (a ∷ m)))

-- ---- codes

abbrev pub choice_read : {T : Type 0} → Coded T → List ℕ → Option T
choice_read c [] = none
choice_read c (i ∷ s) = c.read i s

abbrev pub kind_read : {A : Type 0} → Enum A → ℕ → List ℕ → Option A
kind_read e i [] = get_elem? e.all i
kind_read e i (b ∷ s) = none

abbrev pub beside_read : {A T : Type 0} → Fixed A → Coded T → ℕ → List ℕ → Option (A × T)
beside_read f c i s = next (f.form.read (take f.width s)) (λ a. next (c.read i (drop f.width s)) (λ t. some (a, t)))

-- the codes of A, and behind them those of B
module _ {A B : Type 0} (c : Coded A) (d : Coded B) where
  abbrev pub either_code : A ⊎ B → ℕ
  either_code (inl a) = c.code a
  either_code (inr b) = c.count + d.code b

  abbrev pub either_write : A ⊎ B → List ℕ
  either_write (inl a) = c.write a
  either_write (inr b) = d.write b

  abbrev pub either_read : ℕ → List ℕ → Option (A ⊎ B)
  either_read i s = cond (ltb i c.count) (next (c.read i s) (λ a. some (inl a))) (next (d.read (i - c.count) s) (λ b. some (inr b)))

  abbrev pub EitherOk : A ⊎ B → Type 0
  EitherOk (inl a) = c.Ok a
  EitherOk (inr b) = d.Ok b

-- ---- cases

-- what follows the code, and the value that it makes
pub record Case (T : Type 0) : Type 1 where
  pub Content : Type 0
  pub form : Format Content
  pub make : Content → T

module _ {T : Type 0} where
  -- the content of one of the cases
  abbrev pub Some : List (Case T) → Type 0
  Some [] = ⊥
  Some (c ∷ l) = c.Content ⊎ Some l

  -- the content of the case with the code i
  abbrev pub Nth : List (Case T) → ℕ → Type 0
  Nth [] i = ⊥
  Nth (c ∷ l) zero = c.Content
  Nth (c ∷ l) (suc i) = Nth l i

  abbrev pub nth : (l : List (Case T)) (i : ℕ) → Nth l i → Some l
  nth [] i x = x
  nth (c ∷ l) zero x = inl x
  nth (c ∷ l) (suc i) x = inr (nth l i x)

  abbrev pub made : (l : List (Case T)) → Some l → T
  made [] x = absurd x
  made (c ∷ l) (inl x) = c.make x
  made (c ∷ l) (inr y) = made l y

  -- a function on contents as one function for each case: two that are equal are told so by `refl`
  abbrev pub Spread : List (Case T) → Type 0 → Type 0
  Spread [] X = Unit {0}
  Spread (c ∷ l) X = (c.Content → X) × Spread l X

  abbrev pub spread : {X : Type 0} (l : List (Case T)) → (Some l → X) → Spread l X
  spread [] f = tt
  spread (c ∷ l) f = ((λ x. f (inl x)), spread l (λ y. f (inr y)))

  abbrev pub some_code : (l : List (Case T)) → Some l → ℕ
  some_code [] x = absurd x
  some_code (c ∷ l) (inl x) = zero
  some_code (c ∷ l) (inr y) = suc (some_code l y)

  abbrev pub some_write : (l : List (Case T)) → Some l → List ℕ
  some_write [] x = absurd x
  some_write (c ∷ l) (inl x) = c.form.write x
  some_write (c ∷ l) (inr y) = some_write l y

  abbrev pub some_read : (l : List (Case T)) → ℕ → List ℕ → Option (Some l)
  some_read [] i s = none
  some_read (c ∷ l) zero s = next (c.form.read s) (λ x. some (inl x))
  some_read (c ∷ l) (suc i) s = next (some_read l i s) (λ y. some (inr y))

  abbrev pub SomeOk : (l : List (Case T)) → Some l → Type 0
  SomeOk [] x = ⊥
  SomeOk (c ∷ l) (inl x) = c.form.Ok x
  SomeOk (c ∷ l) (inr y) = SomeOk l y
