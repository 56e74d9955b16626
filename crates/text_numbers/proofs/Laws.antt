-- Digits one after the other, and signs in front of them.
-- Assumes nothing.
use Rattle.std.proofs.Common.{◌≡◌, refl, sym, ap, ◌∙◌, ℕ, zero, suc, ◌+◌, ◌-◌, ◌*◌, ◌^◌, ◌≤◌, ◌<◌, min, length, get_or, take, drop, add-one, arith, drop-cons}
use Rattle.std.specs.Prelude.{Bool, true, false, cond, not, ◌&&◌, ◌||◌, eqb, ltb, ℤ, pos, neg_ℤ, [], ◌∷◌}
use Rattle.std.proofs.Math.Option.{Option, none, some}
use mathlib.Core.Bool.{or-true}
use native.Mathlib.Nat.{le_refl, le_trans}
use lib.IntN.{neg_ℤ-neg_ℤ}
use lib.ListN.{drop_of_length-le}
use lib.Seq.{take_all}
use borrow.Author.Tests.{le-ltb, ltb-true, ltb-false, eq-eqb, ne_eqb}
use Rattle.rules.specs.Lists.{Text, is_empty, all}
use Rattle.rules.specs.Numbers.{is_digit, digits, signed, unsigned_text, number_text, ranged, integer_literal}
use Rattle.text_numbers.specs.Literal.{in_range_of, digits_literal}

-- ---- the number that is ranged, of a sign and the digits of s behind those of v

abbrev pub number : Bool → ℕ → Text → Option ℤ
number minus v s = ranged (signed minus (digits v s))

-- more digits make no smaller number
grows : (s : Text) (v : ℕ) → v ≤ digits v s
unfolding digits
grows [] v = le_refl v
grows (b ∷ s) v =
    let step : v ≤ v * 10 + (b - 0x30) = omega arith in
    le_trans step (grows s (v * 10 + (b - 0x30)))

beyond : (minus : Bool) (n : ℕ) → 2 ^ 63 < n → ranged (signed minus n) ≡ none
beyond true zero h = absurd (omega arith)
beyond true (suc n) h = simp (le-ltb n (2 ^ 63) (omega arith))
beyond false n h = simp (le-ltb n (2 ^ 63) (omega arith))

large : (minus : Bool) (s : Text) (v : ℕ) → 2 ^ 63 < v → number minus v s ≡ none
large minus s v h = beyond minus (digits v s) (omega (arith, grows s v))

-- ---- the byte at i, of a text whose bytes before it are digits

-- the size behind one digit more: it stays at the greatest u64
abbrev pub grown : ℕ → ℕ → ℕ
grown v d = min (min (v * 10) (2 ^ 64 - 1) + d) (2 ^ 64 - 1)

-- it is the exact size, or both are past the range
grown_number : (minus : Bool) (s : Text) (v d : ℕ) → number minus (grown v d) s ≡ number minus (v * 10 + d) s
grown_number minus s v d = by (ltb (v * 10 + d) (2 ^ 64)) refl
  where
    by : (fits : Bool) → ltb (v * 10 + d) (2 ^ 64) ≡ fits → number minus (grown v d) s ≡ number minus (v * 10 + d) s
    by true e = ap (λ (n : ℕ). number minus n s) (omega (arith, ltb-true _ _ e))
    by false e =
        let past = ltb-false _ _ e in
        large minus s (grown v d) (omega arith) ∙ sym (large minus s (v * 10 + d) (omega arith))

module _ (s : Text) (i : ℕ) (h : i < length s) where
  at : all is_digit (drop i s) ≡ (is_digit (get_or s i 0) && all is_digit (drop (i + 1) s))
  at = rw (drop-cons s i 0 h, add-one) refl

  pub no_digit : is_digit (get_or s i 0) ≡ false → all is_digit (drop i s) ≡ false
  no_digit e = rw at (simp e)

  pub digit : is_digit (get_or s i 0) ≡ true → all is_digit (drop (i + 1) s) ≡ all is_digit (drop i s)
  digit e = rw at (simp e)

  counted : (v : ℕ) → digits (v * 10 + (get_or s i 0 - 0x30)) (drop (i + 1) s) ≡ digits v (drop i s)
  unfolding digits
  counted v = rw (drop-cons s i 0 h, add-one) refl

  pub count : (minus : Bool) (v : ℕ) → number minus (grown v (get_or s i 0 - 0x30)) (drop (i + 1) s) ≡ number minus v (drop i s)
  count minus v =
      grown_number minus (drop (i + 1) s) v (get_or s i 0 - 0x30) ∙ ap (λ (n : ℕ). ranged (signed minus n)) (counted v)

-- ---- the whole

pub empty : (minus : Bool) (s : Text) → length s ≡ 0 → digits_literal minus s ≡ none
unfolding unsigned_text
empty minus [] e = refl
empty minus (b ∷ s) e = absurd (omega arith)

pub bad : (minus : Bool) (s : Text) → all is_digit s ≡ false → digits_literal minus s ≡ none
unfolding unsigned_text
bad minus s e = simp (e, or-true)

good : (minus : Bool) (s : Text) → (length s ≡ 0 → ⊥) → all is_digit s ≡ true → number minus 0 s ≡ digits_literal minus s
unfolding unsigned_text
good minus [] f e = absurd (f refl)
good minus (b ∷ s) f e = simp e

-- the number when no digit is left
pub done : (minus : Bool) (s : Text) (i v : ℕ) → (length s ≡ 0 → ⊥) → length s ≤ i
    → all is_digit (drop i s) ≡ all is_digit s → number minus v (drop i s) ≡ number minus 0 s → ranged (signed minus v) ≡ digits_literal minus s
unfolding digits
done minus s i v f h d n =
    let a : all is_digit (drop i s) ≡ true = rw (drop_of_length-le s h) refl in
    let o : number minus v (drop i s) ≡ ranged (signed minus v) = rw (drop_of_length-le s h) refl in
    sym o ∙ n ∙ good minus s f (sym d ∙ a)

pub ruleset digit_laws = (empty, bad, no_digit, digit, count, done)

-- ---- a sign of the text's own

-- what is made of a number text below a unary minus, or below none
abbrev below : Bool → Option ℤ → Option ℤ
below minus o = elim o [ none ↦ none | some z ↦ ranged (cond minus (neg_ℤ z) z) ]

-- two signs are one
abbrev pub both : Bool → Bool → Bool
both minus true = not minus
both minus false = minus

turned : (minus own : Bool) (n : ℕ) → cond minus (neg_ℤ (signed own n)) (signed own n) ≡ signed (both minus own) n
turned true true n = neg_ℤ-neg_ℤ (pos n)
turned true false n = refl
turned false true n = refl
turned false false n = refl

below_is : (minus own : Bool) (s : Text) → digits_literal (both minus own) s ≡ below minus (unsigned_text own s)
unfolding unsigned_text
below_is minus own s = by (is_empty s || not (all is_digit s))
  where
    by : (t : Bool) → in_range_of (cond t none (some (signed (both minus own) (digits 0 s)))) ≡ below minus (cond t none (some (signed own (digits 0 s))))
    by true = refl
    by false = ap ranged (sym (turned minus own (digits 0 s)))

module _ (minus : Bool) (b : ℕ) (s : Text) where
  first : integer_literal minus (b ∷ s)
      ≡ cond (eqb b 0x2B) (digits_literal minus s) (cond (eqb b 0x2D) (digits_literal (not minus) s) (digits_literal minus (b ∷ s)))
  unfolding integer_literal number_text
  first = by (eqb b 0x2B) (eqb b 0x2D)
    where
      by : (p q : Bool) → below minus (cond p (unsigned_text false s) (cond q (unsigned_text true s) (unsigned_text false (b ∷ s))))
          ≡ cond p (digits_literal minus s) (cond q (digits_literal (not minus) s) (digits_literal minus (b ∷ s)))
      by true q = sym (below_is minus false s)
      by false true = sym (below_is minus true s)
      by false false = sym (below_is minus false (b ∷ s))

-- the text behind its first byte
abbrev pub behind : Text → Text
behind s = take (length s - 1) (drop 1 s)

behind_is : (b : ℕ) (s : Text) → behind (b ∷ s) ≡ s
behind_is b s = take_all (length (b ∷ s) - 1) s (omega arith)

pub plus_first : (minus : Bool) (s : Text) → 1 ≤ length s → get_or s 0 0 ≡ 0x2B
    → digits_literal minus (behind s) ≡ integer_literal minus s
plus_first minus [] f p = absurd (omega arith)
plus_first minus (b ∷ s) f p = rw (first minus b s, behind_is b s) (simp (eq-eqb b 0x2B p))

pub minus_first : (minus : Bool) (s : Text) → 1 ≤ length s → get_or s 0 0 ≡ 0x2D
    → digits_literal (not minus) (behind s) ≡ integer_literal minus s
minus_first minus [] f p = absurd (omega arith)
minus_first minus (b ∷ s) f p = rw (first minus b s, behind_is b s) (simp p)

pub digit_first : (minus : Bool) (s : Text) → (get_or s 0 0 ≡ 0x2B → ⊥) → (get_or s 0 0 ≡ 0x2D → ⊥)
    → digits_literal minus s ≡ integer_literal minus s
unfolding integer_literal number_text unsigned_text
digit_first minus [] p q = refl
digit_first minus (b ∷ s) p q = rw (first minus b s) (simp (ne_eqb b 0x2B p, ne_eqb b 0x2D q))

pub no_sign : (minus : Bool) (s : Text) → length s < 1 → digits_literal minus s ≡ integer_literal minus s
no_sign minus [] h = digit_first minus [] (λ e. omega arith) (λ e. omega arith)
no_sign minus (b ∷ s) h = absurd (omega arith)

pub ruleset sign_laws = (plus_first, minus_first, digit_first, no_sign)
