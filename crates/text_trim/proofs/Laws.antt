-- Widths of white space, white space that is taken off, and one final `;`.
-- Assumes nothing.
use Rattle.std.proofs.Common.{◌≡◌, refl, ℕ, zero, suc, ◌-◌, ◌≤◌, ◌<◌, Bool, true, false, cond, eqb, length, get_or, take, length-drop, length-take, inl, inr, ◌⊎◌, arith}
use Rattle.std.proofs.Math.Nat.{le_refl}
use Rattle.std.proofs.lemmas.Bool.Decides.{nat_tests}
use mathlib.Core.Bool.{and-false}
use borrow.Author.Tests.{lt-ltb, eq-eqb, ne_eqb}
use Rattle.rules.specs.Lists.{Text}
use Rattle.rules.specs.Trimmed.{within, white1, white2, white3, width, front_width, back_width, cut_front, cut_back, off, last_but, without_semicolon}
use Rattle.text_trim.specs.Plain.{Plain}

-- ---- there are as many bytes as the width says, and at either end a cut takes one at least

width_le : (n : ℕ) (p q r : Bool) → width n p q r ≤ n
unfolding width
width_le n p q r = grind (arith, nat_tests)

front_le : (s : Text) → front_width s ≤ length s
front_le s = width_le _ _ _ _

back_le : (s : Text) → back_width s ≤ length s
back_le s = width_le _ _ _ _

pub front_shorter : (s : Text) → 0 < front_width s → length (cut_front s) < length s
front_shorter s h = simp length-drop (omega (arith, front_le s))

pub back_shorter : (s : Text) → 0 < back_width s → length (cut_back s) < length s
back_shorter s h = simp length-take (omega (arith, back_le s))

-- ---- a plain byte at an end: no white space is there

plain_one : (a : ℕ) → Plain a → white1 a ≡ false
unfolding white1 within
plain_one a h = grind (arith, nat_tests)

plain_two : (a b : ℕ) → (Plain a ⊎ Plain b) → white2 a b ≡ false
unfolding white2
plain_two a b h = grind (arith, nat_tests)

plain_three : (a b c : ℕ) → (Plain a ⊎ Plain c) → white3 a b c ≡ false
unfolding white3
plain_three a b c h = grind (arith, nat_tests)

pub plain_front : (s : Text) → Plain (get_or s 0 0) → front_width s ≡ 0
unfolding width
plain_front s h =
    rw (plain_one _ h, plain_two _ (get_or s 1 0) (inl h), plain_three _ (get_or s 1 0) (get_or s 2 0) (inl h))
    (grind (arith, nat_tests))

pub plain_back : (s : Text) → Plain (last_but 1 s) → back_width s ≡ 0
unfolding width
plain_back s h =
    rw (plain_one _ h, plain_two (last_but 2 s) _ (inr h), plain_three (last_but 3 s) (last_but 2 s) _ (inr h))
    (grind (arith, nat_tests))

-- ---- white space that is taken off: what is left of s is t, from which it is to be taken off `times` times more at most

module _ (width : Text → ℕ) (cut : Text → Text) where
  if_is : (b : Bool) (s t : Text) → elim b as (λ x. Text) [ true ↦ s | false ↦ t ] ≡ cond b s t
  if_is true s t = refl
  if_is false s t = refl

  off_once : (n : ℕ) (s : Text) → off width cut (suc n) s ≡ cond (eqb (width s) 0) s (off width cut n (cut s))
  unfolding off
  off_once n s = if_is (eqb (width s) 0) s (off width cut n (cut s))

  pub record Left (s t : Text) : Type 0 where
    pub times : ℕ
    pub enough : length t ≤ times
    pub same : off width cut times t ≡ off width cut (length s) s

  pub left_all : (s : Text) → Left s s
  left_all s = record { times = length s; enough = le_refl (length s); same = refl }

  pub left_cut : (s t r : Text) → Left s t → 0 < width t → r ≡ cut t → length (cut t) < length t → Left s r
  left_cut s t r l f e h = rw e (by l.times l.enough l.same)
    where
      by : (n : ℕ) → length t ≤ n → off width cut n t ≡ off width cut (length s) s → Left s (cut t)
      by zero k e = absurd (omega arith)
      by (suc n) k e = record { times = n; enough = omega arith; same = simp (off_once n t, ne_eqb (width t) 0 (omega arith)) at e }

  pub left_done : (s t : Text) → Left s t → width t ≡ 0 → t ≡ off width cut (length s) s
  unfolding off
  left_done s t l z = by l.times l.same
    where
      by : (n : ℕ) → off width cut n t ≡ off width cut (length s) s → t ≡ off width cut (length s) s
      by zero e = e
      by (suc n) e = simp (off_once n t, eq-eqb (width t) 0 z) at e

pub ruleset front_laws = (left_all, left_cut, front_shorter)

pub ruleset back_laws = (left_all, left_cut, back_shorter)

-- ---- one final `;`

pub nothing_dropped : (s : Text) → length s ≡ 0 → s ≡ without_semicolon s
unfolding without_semicolon
nothing_dropped s e = rw e refl

pub semicolon_dropped : (s : Text) → (length s ≡ 0 → ⊥) → last_but 1 s ≡ 0x3B → take (length s - 1) s ≡ without_semicolon s
unfolding without_semicolon
semicolon_dropped s f e =
    let some : 0 < length s = omega arith in
    simp (lt-ltb 0 (length s) some, eq-eqb (last_but 1 s) 0x3B e)

pub other_kept : (s : Text) → (last_but 1 s ≡ 0x3B → ⊥) → s ≡ without_semicolon s
unfolding without_semicolon
other_kept s f = simp (ne_eqb (last_but 1 s) 0x3B f, and-false)
