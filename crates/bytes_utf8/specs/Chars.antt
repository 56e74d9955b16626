-- The character that stands at an index of a list. The facts are of the bytes at the index and after it, so that plain arithmetic settles each.
-- Assumes nothing: these are definitions.
use Rattle.std.specs.Prelude.{ℕ, zero, suc, ◌+◌, ◌≤◌, Bool, true, false, ◌&&◌, List, [], ◌∷◌, ltb, length, get_or}
use Rattle.bytes_utf8.specs.Utf8.{In, Two, Three, Three-of, Four, Four-of}

module _ (s : List ℕ) (i : ℕ) where
  abbrev pub b0 : ℕ
  b0 = get_or s i 0

  abbrev pub b1 : ℕ
  b1 = get_or s (i + 1) 0

  abbrev pub b2 : ℕ
  b2 = get_or s (i + 2) 0

  abbrev pub b3 : ℕ
  b3 = get_or s (i + 3) 0

-- no alternative of the grammar fits at i
pub record Not-a-char (s : List ℕ) (i : ℕ) : Type 0 where
  pub no_one : In 0x00 0x7f (b0 s i) → ⊥
  pub no_two : i + 2 ≤ length s → Two (b0 s i) (b1 s i) → ⊥
  pub no_e0 : i + 3 ≤ length s → Three-of 0xe0 0xe0 0xa0 0xbf (b0 s i) (b1 s i) (b2 s i) → ⊥
  pub no_e1 : i + 3 ≤ length s → Three-of 0xe1 0xec 0x80 0xbf (b0 s i) (b1 s i) (b2 s i) → ⊥
  pub no_ed : i + 3 ≤ length s → Three-of 0xed 0xed 0x80 0x9f (b0 s i) (b1 s i) (b2 s i) → ⊥
  pub no_ee : i + 3 ≤ length s → Three-of 0xee 0xef 0x80 0xbf (b0 s i) (b1 s i) (b2 s i) → ⊥
  pub no_f0 : i + 4 ≤ length s → Four-of 0xf0 0xf0 0x90 0xbf (b0 s i) (b1 s i) (b2 s i) (b3 s i) → ⊥
  pub no_f1 : i + 4 ≤ length s → Four-of 0xf1 0xf3 0x80 0xbf (b0 s i) (b1 s i) (b2 s i) (b3 s i) → ⊥
  pub no_f4 : i + 4 ≤ length s → Four-of 0xf4 0xf4 0x80 0x8f (b0 s i) (b1 s i) (b2 s i) (b3 s i) → ⊥

-- a character of n bytes stands at i; n is 0 where none does
pub data CharAt (s : List ℕ) (i : ℕ) : ℕ → Type 0 where
  char0 : Not-a-char s i → CharAt s i 0
  char1 : In 0x00 0x7f (b0 s i) → i + 1 ≤ length s → CharAt s i 1
  char2 : Two (b0 s i) (b1 s i) → i + 2 ≤ length s → CharAt s i 2
  char3 : Three (b0 s i) (b1 s i) (b2 s i) → i + 3 ≤ length s → CharAt s i 3
  char4 : Four (b0 s i) (b1 s i) (b2 s i) (b3 s i) → i + 4 ≤ length s → CharAt s i 4

-- the list begins with n bytes of ASCII
unfoldable pub ascii : ℕ → List ℕ → Bool
ascii zero s = true
ascii (suc n) [] = false
ascii (suc n) (a ∷ s) = ltb a 0x80 && ascii n s
