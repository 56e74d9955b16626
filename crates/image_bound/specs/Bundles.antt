-- Bundles with counts of 4 bytes, by the structure of what they hold: the number of the parts, the length of each, the parts. So a writer puts
-- the count, then the lengths, then the bodies, and `then` joins the writes.
-- Assumes nothing.
use Rattle.std.specs.Prelude.{◌≡◌, ℕ, ◌+◌, ◌*◌, ◌<◌, length, get_or, drop}
use Rattle.std.proofs.Math.Path.{refl, sym, ap}
use Rattle.std.proofs.Common.{ap₂, ◌∙◌, add-one, arith}
use mathlib.Core.List.{List, [], ◌∷◌, ◌++◌, map, append-nil, append_assoc}
use Rattle.std.proofs.Math.ListN.{length-append}
use Rattle.std.proofs.lemmas.List.{length-map}
use Rattle.std.proofs.Math.Seq.{drop-cons}
use Rattle.bytes_wire.specs.Le.{le}
use Rattle.bytes_format.specs.Format.{Format}
use Rattle.bytes_format.specs.Ways.{joined}
use Rattle.bytes_format.proofs.Formats.{end, ◌and◌, list_of, record_of}

-- ---- lists

module _ {A : Type 0} (f : Format A) where
  -- the length of each part
  unfoldable pub lengths : List A → List ℕ
  lengths [] = []
  lengths (v ∷ vs) = le 4 (length (f.write v)) ++ lengths vs

  -- the parts
  unfoldable pub bodies : List A → List ℕ
  bodies [] = []
  bodies (v ∷ vs) = f.write v ++ bodies vs

  lengths_are : (vs : List A) → joined (map (le 4) (map length (map f.write vs))) ≡ lengths vs
  unfolding lengths
  lengths_are [] = refl
  lengths_are (v ∷ vs) = ap (λ (l : List ℕ). le 4 (length (f.write v)) ++ l) (lengths_are vs)

  bodies_are : (vs : List A) → joined (map f.write vs) ≡ bodies vs
  unfolding bodies
  bodies_are [] = refl
  bodies_are (v ∷ vs) = ap (λ (l : List ℕ). f.write v ++ l) (bodies_are vs)

  pub list_bytes : (vs : List A) → (list_of 4 f).write vs ≡ le 4 (length vs) ++ (lengths vs ++ bodies vs)
  list_bytes vs =
      ap₂ (λ (n : ℕ) (l : List ℕ). le 4 n ++ l) (length-map vs f.write) (ap₂ (λ (l m : List ℕ). l ++ m) (lengths_are vs) (bodies_are vs))

  pub lengths_length : (vs : List A) → length (lengths vs) ≡ 4 * length vs
  unfolding lengths
  lengths_length [] = refl
  lengths_length (v ∷ vs) = length-append (le 4 (length (f.write v))) (lengths vs) ∙ omega (arith, lengths_length vs)

  pub list_length : (vs : List A) → length ((list_of 4 f).write vs) ≡ 4 + 4 * length vs + length (bodies vs)
  list_length vs =
      ap length (list_bytes vs) ∙ length-append (le 4 (length vs)) (lengths vs ++ bodies vs)
      ∙ omega (arith, length-append (lengths vs) (bodies vs), lengths_length vs)

  -- one part more, at the end: what a loop that has written the parts before writes next
  pub lengths_snoc : (vs : List A) (v : A) → lengths (vs ++ v ∷ []) ≡ lengths vs ++ le 4 (length (f.write v))
  unfolding lengths
  lengths_snoc [] v = append-nil (le 4 (length (f.write v)))
  lengths_snoc (u ∷ vs) v = ap (λ (l : List ℕ). le 4 (length (f.write u)) ++ l) (lengths_snoc vs v)

  pub bodies_snoc : (vs : List A) (v : A) → bodies (vs ++ v ∷ []) ≡ bodies vs ++ f.write v
  unfolding bodies
  bodies_snoc [] v = append-nil (f.write v)
  bodies_snoc (u ∷ vs) v =
      ap (λ (l : List ℕ). f.write u ++ l) (bodies_snoc vs v) ∙ sym (append_assoc (f.write u) (bodies vs) (f.write v))

-- ---- the next part, of a loop that goes by the parts' numbers

module _ {A : Type 0} (f : Format A) (vs : List A) (i : ℕ) (z : A) (h : i < length vs) where
  pub lengths_next : lengths f (drop i vs) ≡ le 4 (length (f.write (get_or vs i z))) ++ lengths f (drop (i + 1) vs)
  unfolding lengths
  lengths_next = rw (add-one, drop-cons vs i z h)

  pub bodies_next : bodies f (drop i vs) ≡ f.write (get_or vs i z) ++ bodies f (drop (i + 1) vs)
  unfolding bodies
  bodies_next = rw (add-one, drop-cons vs i z h)

-- ---- records of two and of three parts

-- what stands before the parts: how many, and the length of each
unfoldable pub head2 : ℕ → ℕ → List ℕ
head2 m n = le 4 2 ++ (le 4 m ++ le 4 n)

unfoldable pub head3 : ℕ → ℕ → ℕ → List ℕ
head3 m n k = le 4 3 ++ (le 4 m ++ (le 4 n ++ le 4 k))

pub head2_length : (m n : ℕ) → length (head2 m n) ≡ 12
unfolding head2
head2_length m n = refl

pub head3_length : (m n k : ℕ) → length (head3 m n k) ≡ 16
unfolding head3
head3_length m n k = refl

-- a record whose parts have the bytes a and b, and one of a, b and c
unfoldable pub record2 : List ℕ → List ℕ → List ℕ
record2 a b = head2 (length a) (length b) ++ (a ++ b)

unfoldable pub record3 : List ℕ → List ℕ → List ℕ → List ℕ
record3 a b c = head3 (length a) (length b) (length c) ++ (a ++ (b ++ c))

pub record2_length : (a b : List ℕ) → length (record2 a b) ≡ 12 + length a + length b
unfolding record2 head2
record2_length a b = omega (arith, length-append a b)

pub record3_length : (a b c : List ℕ) → length (record3 a b c) ≡ 16 + length a + length b + length c
unfolding record3 head3
record3_length a b c = omega (arith, length-append a (b ++ c), length-append b c)

module _ {A B : Type 0} (f : Format A) (g : Format B) where
  pub record2_bytes : (a : A) (b : B) → (record_of 4 (f and g and end)).write (a, (b, tt)) ≡ record2 (f.write a) (g.write b)
  unfolding record2 head2
  record2_bytes a b =
      ap (λ (l : List ℕ). (le 4 2 ++ (le 4 (length (f.write a)) ++ le 4 (length (g.write b)))) ++ (f.write a ++ l)) (append-nil (g.write b))

module _ {A B C : Type 0} (f : Format A) (g : Format B) (h : Format C) where
  pub record3_bytes : (a : A) (b : B) (c : C) → (record_of 4 (f and g and h and end)).write (a, (b, (c, tt))) ≡ record3 (f.write a) (g.write b) (h.write c)
  unfolding record3 head3
  record3_bytes a b c =
      ap (λ (l : List ℕ).
      (le 4 3 ++ (le 4 (length (f.write a)) ++ (le 4 (length (g.write b)) ++ le 4 (length (h.write c))))) ++ (f.write a ++ (g.write b ++ l)))
      (append-nil (h.write c))
