-- Bytes of ASCII at the front of a list: each is a character, so what follows them is UTF-8 exactly where the whole is. And the bits of several
-- bytes gathered: they are those of an ASCII byte exactly where each of the bytes is one.
-- Assumes nothing.
use mathlib.Core.Path.{◌≡◌, refl, sym, ap, ◌∙◌}
use mathlib.Core.Bool.{Bool, true, false, ◌&&◌, and-true, and-false, and_assoc, false≢true}
use mathlib.Core.List.{List, [], ◌∷◌, foldl}
use Prim.Native.Nat.{ℕ, zero, suc, ◌+◌, ◌-◌, ◌≤◌, ◌<◌}
use native.Mathlib.Nat.{zero-add, suc-add}
use native.Mathlib.Omega.{arith}
use lib.Bits.{bit_or, or_lt, or_add_and, and_le_l, and_le_r}
use lib.Dec.{ltb}
use lib.ListN.{length, get_or, drop, length-drop}
use lib.Seq.{drop-drop}
use borrow.Author.Tests.{lt-ltb, le-ltb, ltb-true, ltb-false}
use Rattle.bytes_utf8.specs.Utf8.{Utf8, Utf8.one}
use Rattle.bytes_utf8.specs.Chars.{ascii}
use Rattle.bytes_utf8.proofs.Grammar.{after1, heads1, heads8}

-- ---- ASCII at the front

-- its first byte, and the rest
first : {C : Type 0} (n a : ℕ) (s : List ℕ) → ascii (suc n) (a ∷ s) ≡ true → (a < 0x80 → ascii n s ≡ true → C) → C
unfolding ascii
first {C} n a s e k = go (ltb a 0x80) refl e
  where
    go : (b : Bool) → ltb a 0x80 ≡ b → (b && ascii n s) ≡ true → C
    go true h e = k (ltb-true a 0x80 h) e
    go false h e = absurd (false≢true e)

no_room : (n : ℕ) → ascii (suc n) [] ≡ true → ⊥
unfolding ascii
no_room n e = false≢true e

pub long : (n : ℕ) (s : List ℕ) → ascii n s ≡ true → n ≤ length s
long zero s e = omega arith
long (suc n) [] e = absurd (no_room n e)
long (suc n) (a ∷ s) e = first n a s e (λ h f. omega (arith, long n s f))

pub past : (n : ℕ) (s : List ℕ) → ascii n s ≡ true → Utf8 s → Utf8 (drop n s)
past zero s e u = u
past (suc n) [] e u = absurd (no_room n e)
past (suc n) (a ∷ s) e u = first n a s e (λ h f. past n s f (after1 (omega arith) u))

pub whole : (n : ℕ) (s : List ℕ) → ascii n s ≡ true → Utf8 (drop n s) → Utf8 s
whole zero s e u = u
whole (suc n) [] e u = absurd (no_room n e)
whole (suc n) (a ∷ s) e u = first n a s e (λ h f. one (omega arith) (whole n s f u))

short : (n : ℕ) (s : List ℕ) → length s < n → false ≡ ascii n s
unfolding ascii
short zero s h = absurd (omega arith)
short (suc n) [] h = refl
short (suc n) (a ∷ s) h = rw (← short n s (omega arith)) (sym (and-false (ltb a 0x80)))

-- some, and some more behind them
more : (m n : ℕ) (s : List ℕ) → ascii m s ≡ true → ascii n (drop m s) ≡ true → ascii (m + n) s ≡ true
unfolding ascii
more zero n s e f = rw (zero-add n) f
more (suc m) n [] e f = absurd (no_room m e)
more (suc m) n (a ∷ s) e f = first m a s e (λ h g. rw (suc-add m n) (simp (lt-ltb a 0x80 h, more m n s g f)))

-- the same, from an index on
module _ (n : ℕ) (s : List ℕ) (i : ℕ) where
  pub ascii_short : length s - i < n → false ≡ ascii n (drop i s)
  ascii_short h = short n (drop i s) (omega (arith, length-drop i s))

  module _ (e : ascii n (drop i s) ≡ true) where
    pub ascii_within : i < length s → i + n ≤ length s
    ascii_within h = omega (arith, long n (drop i s) e, length-drop i s)

    pub ascii_on : Utf8 (drop i s) → Utf8 (drop (i + n) s)
    ascii_on u = rw (← drop-drop n i s) (past n (drop i s) e u)

    pub ascii_back : Utf8 (drop (i + n) s) → Utf8 (drop i s)
    ascii_back u = whole n (drop i s) e (rw (← drop-drop n i s) at u)

    pub ascii_more : ascii i s ≡ true → ascii (i + n) s ≡ true
    ascii_more f = more i n s f e

pub no_ascii : (s : List ℕ) → ascii 0 s ≡ true
unfolding ascii
no_ascii s = refl

pub one_ascii : (s : List ℕ) (i : ℕ) → i < length s → get_or s i 0 < 0x80 → ascii 1 (drop i s) ≡ true
unfolding ascii
one_ascii s i h k = rw (heads1 s i (omega arith)) (simp (lt-ltb (get_or s i 0) 0x80 k))

-- ---- bits gathered

-- of two bytes
both : (a b : ℕ) → ltb (bit_or a b) 0x80 ≡ (ltb a 0x80 && ltb b 0x80)
both a b = go (ltb a 0x80) refl (ltb b 0x80) refl
  where
    go : (p : Bool) → ltb a 0x80 ≡ p → (q : Bool) → ltb b 0x80 ≡ q → ltb (bit_or a b) 0x80 ≡ (p && q)
    go true h true k = lt-ltb (bit_or a b) 0x80 (or_lt 7 a b (ltb-true a 0x80 h) (ltb-true b 0x80 k))
    go true h false k = le-ltb (bit_or a b) 0x80 (omega (arith, ltb-false b 0x80 k, or_add_and a b, and_le_l a b))
    go false h q k = le-ltb (bit_or a b) 0x80 (omega (arith, ltb-false a 0x80 h, or_add_and a b, and_le_r a b))

-- of a byte and some more
pub gathered : (a : ℕ) (s : List ℕ) → ltb (foldl bit_or a s) 0x80 ≡ (ltb a 0x80 && ascii (length s) s)
unfolding ascii
gathered a [] = sym (and-true (ltb a 0x80))
gathered a (b ∷ s) = gathered (bit_or a b) s ∙ ap (λ (t : Bool). t && ascii (length s) s) (both a b) ∙ and_assoc (ltb a 0x80) _ _

-- the seven bytes after the one at i
abbrev pub seven : List ℕ → ℕ → List ℕ
seven s i = get_or s (i + 1) 0 ∷ get_or s (i + 2) 0 ∷ get_or s (i + 3) 0 ∷ get_or s (i + 4) 0 ∷ get_or s (i + 5) 0 ∷ get_or s (i + 6) 0 ∷ get_or s (i + 7) 0 ∷ []

pub gathered8 : (s : List ℕ) (i : ℕ) → i + 8 ≤ length s → ltb (foldl bit_or (get_or s i 0) (seven s i)) 0x80 ≡ ascii 8 (drop i s)
unfolding ascii
gathered8 s i h = gathered (get_or s i 0) (seven s i) ∙ sym (ap (ascii 8) (heads8 s i h))
