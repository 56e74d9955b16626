-- What stands behind a character at the front of a list, and behind a run of ASCII, is UTF-8 just where the whole is.
-- Assumes nothing.
use Rattle.std.proofs.Common.{◌≡◌, refl, sym, ap, ◌∙◌, ℕ, zero, suc, ◌-◌, ◌≤◌, ◌<◌, zero-add, Bool, true, false, ◌&&◌, ltb, List, [], ◌∷◌, length, take, drop, bit_or, fold, Option, MatchBool, MatchOption, arith}
use Rattle.std.proofs.lemmas.Bool.{false≢true}
use denote.Bor.{Bor}
use lib.Seq.{take_all}
use lib.ListN.{length-drop}
use Rattle.std.specs.Bool.{then_some}
use Rattle.std.specs.Char.{is_ascii}
use Rattle.std.proofs.lemmas.Bool.Decides.{nat_tests}
use Rattle.bytes_utf8.specs.Utf8.{Two, Three, Three.e0, Three.e1_ec, Three.ed, Three.ee_ef, Four, Four.f0, Four.f1_f3, Four.f4, Utf8}
use Rattle.bytes_utf8.specs.Decide.{is_utf8, utf8_is, utf8_of, decided}
use Rattle.bytes_utf8.specs.Chars.{b0, b1, b2, b3, Not-a-char, CharAt, CharAt.char0, CharAt.char1, CharAt.char2, CharAt.char3, CharAt.char4, ascii}
use Rattle.bytes_utf8.proofs.Grammar.{three_first, four_first, on, back, within, stop}
use Rattle.bytes_utf8.proofs.Ascii.{past, whole, gathered}

-- one list is UTF-8 just where another is
same : (r s : List ℕ) → (Utf8 s → Utf8 r) → (Utf8 r → Utf8 s) → is_utf8 r ≡ is_utf8 s
same r s f g =
    decided (is_utf8 r) s (λ e. g (utf8_of r e)) (λ e u. false≢true (sym e ∙ utf8_is (f u)))

-- all that is left behind n bytes, as a pattern has it
abbrev pub left : ℕ → List ℕ → List ℕ
left n s = take (length s - n) (drop n s)

left_is : (n : ℕ) (s : List ℕ) → left n s ≡ drop n s
left_is n s = take_all (length s - n) (drop n s) (omega (arith, length-drop n s))

-- a character at the front
behind : (n : ℕ) (s : List ℕ) → CharAt s 0 n → 0 < n → (is_utf8 (left n s) ≡ is_utf8 s) × (length (left n s) < length s)
behind n s h l =
    let z : n ≡ 0 → ⊥ = omega arith in
    rw (left_is n s) (
      same (drop n s) s (λ u. rw zero-add at (on s 0 h z u)) (λ u. back s 0 h z (rw zero-add u)),
      omega (arith, within s 0 h z, length-drop n s),
    )

module _ (s : List ℕ) where
  pub behind_one : 1 ≤ length s → true ≡ is_ascii (b0 s 0) → (is_utf8 (left 1 s) ≡ is_utf8 s) × (length (left 1 s) < length s)
  behind_one l e = behind 1 s (char1 (grind (arith, nat_tests)) l) (omega arith)

  pub behind_two : 2 ≤ length s → Two (b0 s 0) (b1 s 0) → (is_utf8 (left 2 s) ≡ is_utf8 s) × (length (left 2 s) < length s)
  behind_two l h = behind 2 s (char2 h l) (omega arith)

  pub behind_three : 3 ≤ length s → Three (b0 s 0) (b1 s 0) (b2 s 0) → (is_utf8 (left 3 s) ≡ is_utf8 s) × (length (left 3 s) < length s)
  behind_three l h = behind 3 s (char3 h l) (omega arith)

  pub behind_four : 4 ≤ length s → Four (b0 s 0) (b1 s 0) (b2 s 0) (b3 s 0) → (is_utf8 (left 4 s) ≡ is_utf8 s) × (length (left 4 s) < length s)
  behind_four l h = behind 4 s (char4 h l) (omega arith)

  -- no character there: not one byte of ASCII, and no two, three or four bytes that fit
  module _ (e : false ≡ is_ascii (b0 s 0)) where
    no_char : 0 < length s
        → (2 ≤ length s → Two (b0 s 0) (b1 s 0) → ⊥)
        → (3 ≤ length s → Three (b0 s 0) (b1 s 0) (b2 s 0) → ⊥)
        → (4 ≤ length s → Four (b0 s 0) (b1 s 0) (b2 s 0) (b3 s 0) → ⊥)
        → is_utf8 s ≡ false
    no_char l two three four =
        let none : Not-a-char s 0 = record {
          no_one = λ h. grind (arith, nat_tests);
          no_two = two;
          no_e0 = λ k h. three k (e0 h);
          no_e1 = λ k h. three k (e1_ec h);
          no_ed = λ k h. three k (ed h);
          no_ee = λ k h. three k (ee_ef h);
          no_f0 = λ k h. four k (f0 h);
          no_f1 = λ k h. four k (f1_f3 h);
          no_f4 = λ k h. four k (f4 h);
        } in
        sym (decided false s (λ e. absurd (false≢true e)) (λ e u. stop s 0 (char0 none) refl l u))

    -- the first byte says how many there should be, and they do not fit
    pub not_two : 0 < length s → b0 s 0 < 0xe0 → (Two (b0 s 0) (b1 s 0) → ⊥) → is_utf8 s ≡ false
    not_two l a none = no_char l (λ k. none) (λ k h. omega (arith, three_first h)) (λ k h. omega (arith, four_first h))

    pub not_three : 0 < length s → 0xe0 ≤ b0 s 0 → b0 s 0 < 0xf0 → (Three (b0 s 0) (b1 s 0) (b2 s 0) → ⊥) → is_utf8 s ≡ false
    not_three l a b none = no_char l (λ k h. omega arith) (λ k. none) (λ k h. omega (arith, four_first h))

    pub not_four : 0 < length s → 0xf0 ≤ b0 s 0 → (Four (b0 s 0) (b1 s 0) (b2 s 0) (b3 s 0) → ⊥) → is_utf8 s ≡ false
    not_four l a none = no_char l (λ k h. omega arith) (λ k h. omega (arith, three_first h)) (λ k. none)

    -- or there are too few of them
    pub cut_in_two : 0 < length s → length s < 2 → is_utf8 s ≡ false
    cut_in_two l h = no_char l (λ k. absurd (omega arith)) (λ k. absurd (omega arith)) (λ k. absurd (omega arith))

    pub cut_in_three : 0 < length s → 0xe0 ≤ b0 s 0 → length s < 3 → is_utf8 s ≡ false
    cut_in_three l a h = no_char l (λ k h. omega arith) (λ k. absurd (omega arith)) (λ k. absurd (omega arith))

    pub cut_in_four : 0 < length s → 0xf0 ≤ b0 s 0 → length s < 4 → is_utf8 s ≡ false
    cut_in_four l a h = no_char l (λ k h. omega arith) (λ k h. omega (arith, three_first h)) (λ k. absurd (omega arith))

-- what is answered where a test decides: the rest, or nothing
pub taken : (s : List ℕ) {F : Type 0} (t : Bool) (o : Option (Bor (List ℕ))) (r : Bor (List ℕ)) → MatchBool t F (F → ⊥) → o ≡ then_some t r
    → (F → (is_utf8 r.now ≡ is_utf8 s) × (length r.now < length s)) → ((F → ⊥) → is_utf8 s ≡ false)
    → MatchOption o (is_utf8 s ≡ false) (λ x. (is_utf8 x.now ≡ is_utf8 s) × (length x.now < length s))
taken s true o r m e f g = rw e (f m)
taken s false o r m e f g = rw e (g m)

-- a block's bits, gathered
pub gathered_block : (n : ℕ) (s : List ℕ) → length s ≡ n → ltb (fold bit_or 0 s) 0x80 ≡ ascii n s
gathered_block n s e = gathered 0 s ∙ ap (λ (k : ℕ). ascii k s) e

-- bytes of ASCII at the front, told by those bytes
of_front : (n : ℕ) (s : List ℕ) → ascii n (take n s) ≡ true → ascii n s ≡ true
unfolding ascii
of_front zero s e = refl
of_front (suc n) [] e = e
of_front (suc n) (a ∷ s) e = go (ltb a 0x80) (of_front n s) e
  where
    go : (b : Bool) → (ascii n (take n s) ≡ true → ascii n s ≡ true) → (b && ascii n (take n s)) ≡ true → (b && ascii n s) ≡ true
    go true more e = more e
    go false more e = e

pub behind_block : (n : ℕ) (s : List ℕ) → ascii n (take n s) ≡ true → is_utf8 (drop n s) ≡ is_utf8 s
behind_block n s e = let f = of_front n s e in same (drop n s) s (past n s f) (whole n s f)

-- nothing at all
pub nothing : (s : List ℕ) → length s ≡ 0 → true ≡ is_utf8 s
unfolding is_utf8
nothing [] e = refl
nothing (a ∷ s) e = absurd (omega arith)
