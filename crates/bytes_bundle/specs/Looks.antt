-- A loop that looks through the entries of a list by the values that they hold, and a part that holds what is asked of a whole.
-- Assumes nothing.
use Rattle.std.specs.Prelude.{◌≡◌, Bool, not, List, [], ◌∷◌, ℕ, ◌+◌, ◌-◌, ◌≤◌, length, take, drop}
use Rattle.std.proofs.Common.{sym, ap, ◌∙◌}
use Rattle.bytes_format.specs.Format.{Format}
use Rattle.bytes_format.proofs.Formats.{list_of}
use Rattle.bytes_bundle.specs.Bundle.{parts_of, PartAt, Stepped}
use Rattle.bytes_bundle.specs.Held.{Is, Holds, is_held, held, Along, along, along_on, Left, left, left_on, left_stop, left_end}

-- ---- a look

-- F looks through a list by a test of each entry: it answers z where it finds nothing, and stops where it finds something
pub record Looks {A : Type 0} (F : List A → Bool) (p : A → Bool) (z : Bool) : Type 0 where
  pub nothing : F [] ≡ z
  pub on : (x : A) (l : List A) → p x ≡ z → F (x ∷ l) ≡ F l
  pub stop : (x : A) (l : List A) → p x ≡ not z → F (x ∷ l) ≡ not z

-- a loop over the n entries of s, which has reached entry i at byte `at` and found nothing
pub record Looking {A : Type 0} (f : Format A) (F : List A → Bool) (s : List ℕ) (n i at : ℕ) : Type 0 where
  pub way : Along s n i at
  pub rest : Left f (λ k. F) s i

pub looking : {A : Type 0} {f : Format A} {F : List A → Bool} {s : List ℕ} {n at : ℕ} → Is (list_of 2 f) s → n ≡ length (parts_of 2 s) → PartAt 2 s 0 at → Looking f F s n 0 at
looking {f = f} i k h = record { way = along f i k h; rest = left }

module _ {A : Type 0} {f : Format A} {F : List A → Bool} {p : A → Bool} {z : Bool} (k : Looks F p z) {s : List ℕ} {n i at : ℕ} (w : Looking f F s n i at) where
  module _ {e : ℕ} (d : Stepped 2 s i at e) {r : Bool} (says : (v : A) → Holds f (take (e - at) (drop at s)) v → r ≡ p v) where
    pub looks_on : r ≡ z → Looking f F s n (i + 1) e
    looks_on t = record { way = along_on w.way d; rest = left_on w.rest d (λ v l h. k.on v l (sym (says v h) ∙ t)) }

    pub looks_stop : r ≡ not z → (vs : List A) → Holds (list_of 2 f) s vs → F vs ≡ not z
    looks_stop t = left_stop w.rest d (λ v l h. k.stop v l (sym (says v h) ∙ t))

  pub looks_end : n ≤ i → (vs : List A) → Holds (list_of 2 f) s vs → F vs ≡ z
  looks_end l vs h = left_end w.rest w.way l vs h ∙ k.nothing

-- ---- a part

-- t holds a part of what s holds, and M says of the part what N says of the whole
pub record Inside {T A X : Type 0} (f : Format T) (g : Format A) (N : T → X) (M : A → X) (s t : List ℕ) : Type 0 where
  pub of : (v : T) → Holds f s v → (a : A) × Holds g t a × (N v ≡ M a)

module _ {T A X : Type 0} {f : Format T} {g : Format A} {N : T → X} {M : A → X} {s t : List ℕ} (k : Inside f g N M s t) where
  pub inside_is : Is f s → Is g t
  inside_is i = held i (λ v h. is_held {f = g} (k.of v h).1)

  pub inside_says : (P : X → Bool) {r : Bool} → ((a : A) → Holds g t a → r ≡ P (M a)) → (v : T) → Holds f s v → r ≡ P (N v)
  inside_says P says v h = let m = k.of v h in says m.0 m.1 ∙ sym (ap P m.2)
