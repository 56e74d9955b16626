-- A character at an index and the grammar: where one of n bytes stands at i, what follows i is UTF-8 exactly where what follows i + n is, and
-- where none stands, what follows i is not.
-- Assumes nothing.
use mathlib.Core.Path.{◌≡◌, refl, sym, ap, ◌∙◌}
use mathlib.Core.List.{List, ◌∷◌}
use Prim.Native.Nat.{ℕ, suc, ◌+◌, ◌-◌, ◌≤◌, ◌<◌}
use native.Mathlib.Nat.{add-zero, add-suc}
use native.Mathlib.Omega.{arith}
use lib.ListN.{length, get_or, drop, length-drop}
use lib.Seq.{drop-cons, get_or-drop}
use Rattle.bytes_utf8.specs.Utf8.{In, Two, Three, Three.e0, Three.e1_ec, Three.ed, Three.ee_ef, Four, Four.f0, Four.f1_f3, Four.f4, Utf8, Utf8.none, Utf8.one, Utf8.two, Utf8.three, Utf8.four}
use Rattle.bytes_utf8.specs.Chars.{Not-a-char, CharAt, CharAt.char0, CharAt.char1, CharAt.char2, CharAt.char3, CharAt.char4}

pub three_first : {a b c : ℕ} → Three a b c → In 0xe0 0xef a
three_first (e0 h) = omega arith
three_first (e1_ec h) = omega arith
three_first (ed h) = omega arith
three_first (ee_ef h) = omega arith

pub four_first : {a b c d : ℕ} → Four a b c d → In 0xf0 0xf4 a
four_first (f0 h) = omega arith
four_first (f1_f3 h) = omega arith
four_first (f4 h) = omega arith

-- what follows a character
pub after1 : {a : ℕ} {s : List ℕ} → In 0x00 0x7f a → Utf8 (a ∷ s) → Utf8 s
after1 h (one p r) = r
after1 h (two p r) = absurd (omega arith)
after1 h (three p r) = absurd (omega (arith, three_first p))
after1 h (four p r) = absurd (omega (arith, four_first p))

after2 : {a b : ℕ} {s : List ℕ} → Two a b → Utf8 (a ∷ b ∷ s) → Utf8 s
after2 h (one p r) = absurd (omega arith)
after2 h (two p r) = r
after2 h (three p r) = absurd (omega (arith, three_first p))
after2 h (four p r) = absurd (omega (arith, four_first p))

after3 : {a b c : ℕ} {s : List ℕ} → Three a b c → Utf8 (a ∷ b ∷ c ∷ s) → Utf8 s
after3 h (one p r) = absurd (omega (arith, three_first h))
after3 h (two p r) = absurd (omega (arith, three_first h))
after3 h (three p r) = r
after3 h (four p r) = absurd (omega (arith, three_first h, four_first p))

after4 : {a b c d : ℕ} {s : List ℕ} → Four a b c d → Utf8 (a ∷ b ∷ c ∷ d ∷ s) → Utf8 s
after4 h (one p r) = absurd (omega (arith, four_first h))
after4 h (two p r) = absurd (omega (arith, four_first h))
after4 h (three p r) = absurd (omega (arith, four_first h, three_first p))
after4 h (four p r) = r

module _ (s : List ℕ) (i : ℕ) where
  -- the next byte, at any distance from i
  next : (k : ℕ) → i + suc k ≤ length s → drop (i + k) s ≡ get_or s (i + k) 0 ∷ drop (i + suc k) s
  next k h = rw (add-suc i k) (drop-cons s (i + k) 0 (rw add-suc at h))

  pub heads1 : i + 1 ≤ length s → drop i s ≡ get_or s i 0 ∷ drop (i + 1) s
  heads1 h = rw add-zero at (next 0 h)

  heads2 : i + 2 ≤ length s → drop i s ≡ get_or s i 0 ∷ get_or s (i + 1) 0 ∷ drop (i + 2) s
  heads2 h = heads1 (omega arith) ∙ ap (λ (l : List ℕ). get_or s i 0 ∷ l) (next 1 h)

  heads3 : i + 3 ≤ length s → drop i s ≡ get_or s i 0 ∷ get_or s (i + 1) 0 ∷ get_or s (i + 2) 0 ∷ drop (i + 3) s
  heads3 h = heads2 (omega arith) ∙ ap (λ (l : List ℕ). get_or s i 0 ∷ get_or s (i + 1) 0 ∷ l) (next 2 h)

  heads4 : i + 4 ≤ length s → drop i s ≡ get_or s i 0 ∷ get_or s (i + 1) 0 ∷ get_or s (i + 2) 0 ∷ get_or s (i + 3) 0 ∷ drop (i + 4) s
  heads4 h = heads3 (omega arith) ∙ ap (λ (l : List ℕ). get_or s i 0 ∷ get_or s (i + 1) 0 ∷ get_or s (i + 2) 0 ∷ l) (next 3 h)

  pub heads8 : i + 8 ≤ length s
      → drop i s
      ≡ get_or s i 0 ∷ get_or s (i + 1) 0 ∷ get_or s (i + 2) 0 ∷ get_or s (i + 3) 0
      ∷ get_or s (i + 4) 0 ∷ get_or s (i + 5) 0 ∷ get_or s (i + 6) 0 ∷ get_or s (i + 7) 0 ∷ drop (i + 8) s
  heads8 h = rw (heads4 (omega arith), next 4 (omega arith), next 5 (omega arith), next 6 (omega arith), next 7 h) refl

  -- one character on
  pub on : {n : ℕ} → CharAt s i n → (n ≡ 0 → ⊥) → Utf8 (drop i s) → Utf8 (drop (i + n) s)
  on (char0 h) z u = absurd (z refl)
  on (char1 h l) z u = after1 h (rw (heads1 l) at u)
  on (char2 h l) z u = after2 h (rw (heads2 l) at u)
  on (char3 h l) z u = after3 h (rw (heads3 l) at u)
  on (char4 h l) z u = after4 h (rw (heads4 l) at u)

  pub back : {n : ℕ} → CharAt s i n → (n ≡ 0 → ⊥) → Utf8 (drop (i + n) s) → Utf8 (drop i s)
  back (char0 h) z u = absurd (z refl)
  back (char1 h l) z u = rw (heads1 l) (one h u)
  back (char2 h l) z u = rw (heads2 l) (two h u)
  back (char3 h l) z u = rw (heads3 l) (three h u)
  back (char4 h l) z u = rw (heads4 l) (four h u)

  pub within : {n : ℕ} → CharAt s i n → (n ≡ 0 → ⊥) → i + n ≤ length s
  within (char0 h) z = absurd (z refl)
  within (char1 h l) z = l
  within (char2 h l) z = l
  within (char3 h l) z = l
  within (char4 h l) z = l

  -- the k-th byte of what follows i, and how many there are
  byte : {xs : List ℕ} (k : ℕ) → drop i s ≡ xs → get_or s (i + k) 0 ≡ get_or xs k 0
  byte k e = sym (get_or-drop i s k 0) ∙ ap (λ (l : List ℕ). get_or l k 0) e

  byte0 : {xs : List ℕ} → drop i s ≡ xs → get_or s i 0 ≡ get_or xs 0 0
  byte0 e = rw add-zero at (byte 0 e)

  many : {xs : List ℕ} → drop i s ≡ xs → length s - i ≡ length xs
  many e = sym (length-drop i s) ∙ ap length e

  not_three : {a b c : ℕ} {r : List ℕ} → Not-a-char s i → drop i s ≡ a ∷ b ∷ c ∷ r → i < length s → Three a b c → ⊥
  not_three h e l (e0 p) = h.no_e0 (omega (arith, many e)) (omega (arith, byte0 e, byte 1 e, byte 2 e))
  not_three h e l (e1_ec p) = h.no_e1 (omega (arith, many e)) (omega (arith, byte0 e, byte 1 e, byte 2 e))
  not_three h e l (ed p) = h.no_ed (omega (arith, many e)) (omega (arith, byte0 e, byte 1 e, byte 2 e))
  not_three h e l (ee_ef p) = h.no_ee (omega (arith, many e)) (omega (arith, byte0 e, byte 1 e, byte 2 e))

  not_four : {a b c d : ℕ} {r : List ℕ} → Not-a-char s i → drop i s ≡ a ∷ b ∷ c ∷ d ∷ r → i < length s → Four a b c d → ⊥
  not_four h e l (f0 p) = h.no_f0 (omega (arith, many e)) (omega (arith, byte0 e, byte 1 e, byte 2 e, byte 3 e))
  not_four h e l (f1_f3 p) = h.no_f1 (omega (arith, many e)) (omega (arith, byte0 e, byte 1 e, byte 2 e, byte 3 e))
  not_four h e l (f4 p) = h.no_f4 (omega (arith, many e)) (omega (arith, byte0 e, byte 1 e, byte 2 e, byte 3 e))

  no_char : {xs : List ℕ} → i < length s → Not-a-char s i → drop i s ≡ xs → Utf8 xs → ⊥
  no_char l h e none = omega (arith, many e)
  no_char l h e (one p u) = h.no_one (omega (arith, byte0 e))
  no_char l h e (two p u) = h.no_two (omega (arith, many e)) (omega (arith, byte0 e, byte 1 e))
  no_char l h e (three p u) = not_three h e l p
  no_char l h e (four p u) = not_four h e l p

  -- where no character stands, what follows is not UTF-8
  pub stop : {n : ℕ} → CharAt s i n → n ≡ 0 → i < length s → Utf8 (drop i s) → ⊥
  stop (char0 h) z l u = no_char l h refl u
  stop (char1 h k) z l u = omega arith
  stop (char2 h k) z l u = omega arith
  stop (char3 h k) z l u = omega arith
  stop (char4 h k) z l u = omega arith
