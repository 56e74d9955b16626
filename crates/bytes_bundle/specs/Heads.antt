-- What the tests of a function tell, shape by shape: a record's parts; a mark and something behind it, a code and its case, marks alone.
-- Assumes nothing.
use Rattle.std.specs.Prelude.{◌≡◌, refl, Bool, true, false, ◌&&◌, ◌||◌, List, [], ◌∷◌, ℕ, zero, suc, ◌+◌, ◌-◌, ◌≤◌, ◌<◌, length, take, drop, get_or, ltb, eqb}
use Rattle.std.specs.List.{list_all}
use Rattle.std.proofs.Common.{sym, ap, ◌∙◌, arith, add-one, drop_of_length-le, drop-cons, length-drop, lt-ltb, le-ltb, eq-eqb, ne_eqb, eqb-true}
use Rattle.std.proofs.lemmas.List.{take_all}
use Rattle.std.proofs.Math.Bool.{and-true, and-false, or-false}
use Rattle.std.proofs.lemmas.Bool.{false≢true}
use Rattle.std.proofs.Math.Option.{some}
use Rattle.std.proofs.Math.Dec.{eqb-suc-suc}
use Rattle.bytes_format.specs.Format.{Format, Fixed}
use Rattle.bytes_format.specs.Ways.{next}
use Rattle.bytes_format.proofs.Formats.{nothing, bools, mark, headed}
use Rattle.bytes_format.proofs.Sums.{Case, case, Some, made, spread, sum, choice}
use Rattle.bytes_bundle.specs.Bundle.{is_there}
use Rattle.bytes_bundle.specs.Decides.{all_of, Decides}
use Rattle.bytes_bundle.specs.Laws.{there_next, all}
use Rattle.bytes_bundle.specs.Fields.{Spot, code_spot, both_spot, field_is, headed_is, choice_is, sum_is, case_is, nothing_is}

-- ---- a record

-- a test that failed decides, whichever it is
pub fails : {X : Bool} {ts : List Bool} → Decides X ts → (k : ℕ) → get_or ts k true ≡ false → false ≡ X
fails {ts = ts} d k e = sym (d.is ∙ go ts k e)
  where
    go : (ts : List Bool) (k : ℕ) → get_or ts k true ≡ false → all_of ts ≡ false
    go [] k e = e
    go (t ∷ []) zero e = e
    go (t ∷ []) (suc k) e = absurd (false≢true (sym e))
    go (t ∷ u ∷ ts) zero e = ap (λ (b : Bool). b && all_of (u ∷ ts)) e
    go (t ∷ u ∷ ts) (suc k) e = ap (λ (b : Bool). t && b) (go (u ∷ ts) k e) ∙ and-false t

-- whether a part is an f
abbrev pub is_a : {A : Type 0} → Format A → List ℕ → Bool
is_a f p = is_there (f.read p)

-- what a test told of bytes holds of the part that they are
pub told : (t : List ℕ → Bool) {r : Bool} {p q : List ℕ} → r ≡ t p → p ≡ q → r ≡ t q
told t e h = e ∙ ap t h

-- ---- what stands in front

-- what a slice pattern calls the rest behind the first byte
pub rest_lem : (s : List ℕ) → take (length s - 1) (drop 1 s) ≡ drop 1 s
rest_lem s = take_all (length s - 1) (drop 1 s) (omega (arith, length-drop 1 s))

abbrev pub mark_spot : Spot mark
mark_spot = code_spot bools

-- ---- a mark, and something behind it

-- X says whether s is a mark with behind it what t says
pub record Marked (X : Bool) (s : List ℕ) (t : Bool) : Type 0 where
  pub is : X ≡ (ltb 0 (length s) && (ltb (get_or s 0 0) 2 && t))

pub via_marked : {A B : Type 0} (g : Format A) (f : Bool × A → B) (s : List ℕ)
    → Marked (is_there (next ((headed mark (λ m. g)).read s) (λ p. some (f p)))) s (is_there (g.read (drop 1 s)))
via_marked g f s = record { is = there_next ((headed mark (λ m. g)).read s) f ∙ headed_is mark_spot s g }

pub headed_marked : {A : Type 0} (g : Format A) (s : List ℕ) → Marked (is_there ((headed mark (λ m. g)).read s)) s (is_there (g.read (drop 1 s)))
headed_marked g s = record { is = headed_is mark_spot s g }

module _ {X : Bool} {s : List ℕ} {t : Bool} (m : Marked X s t) where
  pub no_mark : length s ≡ 0 → false ≡ X
  no_mark h = sym (m.is ∙ rw (le-ltb 0 (length s) (omega arith)))

  pub bad_mark : 2 ≤ get_or s 0 0 → false ≡ X
  bad_mark h = sym (m.is ∙ rw (le-ltb (get_or s 0 0) 2 h) (and-false (ltb 0 (length s))))

  pub behind_mark : {r : Bool} → (length s ≡ 0 → ⊥) → get_or s 0 0 < 2 → r ≡ t → r ≡ X
  behind_mark h k e = e ∙ sym (m.is ∙ rw (lt-ltb 0 (length s) (omega arith), lt-ltb (get_or s 0 0) 2 k))

-- ---- a code, and its case

-- X says whether s is a code with its case behind it
pub record Chosen {T : Type 0} (X : Bool) (s : List ℕ) (l : List (Case T)) : Type 0 where
  pub is : X ≡ (ltb 0 (length s) && case_is l (get_or s 0 0) (drop 1 s))

module _ {T : Type 0} (l : List (Case T)) (which : T → Some l) (mw : (t : T) → made l (which t) ≡ t)
    (wm : spread l (λ x. which (made l x)) ≡ spread l (λ x. x)) (few : _) (s : List ℕ) where
  pub sum_chosen : Chosen (is_there ((choice (sum l which mw wm) few).read s)) s l
  sum_chosen = record {
    is = choice_is (sum l which mw wm) few s ∙ ap (λ (b : Bool). ltb 0 (length s) && b) (sum_is l which mw wm (get_or s 0 0) (drop 1 s));
  }

past_cases : {T : Type 0} (l : List (Case T)) (i : ℕ) (s : List ℕ) → length l ≤ i → case_is l i s ≡ false
past_cases [] i s h = refl
past_cases (c ∷ l) zero s h = absurd (omega arith)
past_cases (c ∷ l) (suc i) s h = past_cases l i s (omega arith)

code_alone : (s : List ℕ) → (length s ≡ 0 → ⊥) → eqb (length s) 1 ≡ is_there (nothing.read (drop 1 s))
code_alone [] h = absurd (h refl)
code_alone (c ∷ s) h = eqb-suc-suc (length s) 0 ∙ sym (nothing_is s)

module _ {T : Type 0} {X : Bool} {s : List ℕ} {l : List (Case T)} (m : Chosen X s l) where
  pub no_code : length s ≡ 0 → false ≡ X
  no_code h = sym (m.is ∙ rw (le-ltb 0 (length s) (omega arith)))

  pub at_code : (k : ℕ) {r : Bool} → (length s ≡ 0 → ⊥) → get_or s 0 0 ≡ k → r ≡ case_is l k (drop 1 s) → r ≡ X
  at_code k h c e = e ∙ sym (m.is ∙ rw (lt-ltb 0 (length s) (omega arith), c))

  -- a code with nothing behind it
  pub bare_code : (k : ℕ) → (length s ≡ 0 → ⊥) → get_or s 0 0 ≡ k → case_is l k (drop 1 s) ≡ is_there (nothing.read (drop 1 s)) → eqb (length s) 1 ≡ X
  bare_code k h c e = at_code k h c (code_alone s h ∙ sym e)

  -- no case has this code
  pub bad_code : length l ≤ get_or s 0 0 → false ≡ X
  bad_code h = sym (m.is ∙ rw (past_cases l (get_or s 0 0) (drop 1 s) h) (and-false (ltb 0 (length s))))

-- two codes, the first with nothing behind it
pub bare_or_case : {T : Type 0} {X : Bool} {s : List ℕ} {k : Unit {0} → T} {c : Case T} → Chosen X s (case nothing k ∷ c ∷ [])
    → X ≡ ((eqb (length s) 1 && eqb (get_or s 0 0) 0) || (ltb 0 (length s) && (eqb (get_or s 0 0) 1 && is_there (c.form.read (drop 1 s)))))
bare_or_case {s = s} {k = k} {c = c} m = m.is ∙ go s
  where
    go : (s : List ℕ) → (ltb 0 (length s) && case_is (case nothing k ∷ c ∷ []) (get_or s 0 0) (drop 1 s))
        ≡ ((eqb (length s) 1 && eqb (get_or s 0 0) 0) || (ltb 0 (length s) && (eqb (get_or s 0 0) 1 && is_there (c.form.read (drop 1 s)))))
    go [] = refl
    go (zero ∷ s) = rw (lt-ltb 0 (suc (length s)) (omega arith)) (nothing_is s ∙ sym (eqb-suc-suc (length s) 0) ∙ sym (or-false _ ∙ and-true _))
    go (suc zero ∷ s) = sym (rw (and-false (eqb (suc (length s)) 1)))
    go (suc (suc n) ∷ s) =
        sym (rw (ne_eqb (suc (suc n)) 0 (omega arith), ne_eqb (suc (suc n)) 1 (omega arith), and-false (eqb (suc (length s)) 1)))

-- three codes, the first two with nothing behind them
pub bare_bare_or_case : {T : Type 0} {X : Bool} {s : List ℕ} {k l : Unit {0} → T} {c : Case T} → Chosen X s (case nothing k ∷ case nothing l ∷ c ∷ [])
    → X ≡ ((eqb (length s) 1 && ltb (get_or s 0 0) 2) || (ltb 0 (length s) && (eqb (get_or s 0 0) 2 && is_there (c.form.read (drop 1 s)))))
bare_bare_or_case {s = s} {k = k} {l = l} {c = c} m = m.is ∙ go s
  where
    go : (s : List ℕ) → (ltb 0 (length s) && case_is (case nothing k ∷ case nothing l ∷ c ∷ []) (get_or s 0 0) (drop 1 s))
        ≡ ((eqb (length s) 1 && ltb (get_or s 0 0) 2) || (ltb 0 (length s) && (eqb (get_or s 0 0) 2 && is_there (c.form.read (drop 1 s)))))
    go [] = refl
    go (zero ∷ s) = rw (lt-ltb 0 (suc (length s)) (omega arith)) (nothing_is s ∙ sym (eqb-suc-suc (length s) 0) ∙ sym (or-false _ ∙ and-true _))
    go (suc zero ∷ s) = rw (lt-ltb 0 (suc (length s)) (omega arith)) (nothing_is s ∙ sym (eqb-suc-suc (length s) 0) ∙ sym (or-false _ ∙ and-true _))
    go (suc (suc zero) ∷ s) = sym (rw (and-false (eqb (suc (length s)) 1)))
    go (suc (suc (suc n)) ∷ s) =
        sym (rw (le-ltb (suc (suc (suc n))) 2 (omega arith), ne_eqb (suc (suc (suc n))) 2 (omega arith), and-false (eqb (suc (length s)) 1)))

-- ---- marks alone

abbrev pub is_mark : ℕ → Bool
is_mark b = ltb b 2

all_same : (t : ℕ → Bool) (s : List ℕ) → list_all t s ≡ all t s
all_same t [] = refl
all_same t (b ∷ s) = ap (λ (c : Bool). t b && c) (all_same t s)

-- n marks and nothing else
unfoldable pub are_marks : ℕ → List ℕ → Bool
are_marks n s = eqb (length s) n && all is_mark s

-- p is a field of n marks
pub record Marks {A : Type 0} {f : Fixed A} (p : Spot f) (n : ℕ) : Type 0 where
  pub width : f.width ≡ n
  pub tests : (s : List ℕ) (at : ℕ) → length s ≡ at + n → p.test at s ≡ all is_mark (drop at s)

pub one_mark : Marks mark_spot 1
one_mark = record { width = refl; tests = go }
  where
    go : (s : List ℕ) (at : ℕ) → length s ≡ at + 1 → is_mark (get_or s at 0) ≡ all is_mark (drop at s)
    go s at h = rw (drop-cons s at 0 (omega arith), drop_of_length-le s {i = suc at} (omega arith), and-true (is_mark (get_or s at 0)))

pub more_marks : {A : Type 0} {f : Fixed A} {p : Spot f} {n : ℕ} → Marks p n → Marks (both_spot mark_spot p) (suc n)
more_marks {p = p} {n = n} m = record { width = omega (arith, m.width); tests = go }
  where
    go : (s : List ℕ) (at : ℕ) → length s ≡ at + suc n → (is_mark (get_or s at 0) && p.test (at + 1) s) ≡ all is_mark (drop at s)
    go s at h = rw (drop-cons s at 0 (omega arith), m.tests s (at + 1) (omega arith), add-one at)

pub marks_are : {A : Type 0} {f : Fixed A} {p : Spot f} {n : ℕ} → Marks p n → (s : List ℕ) → is_there (f.form.read s) ≡ are_marks n s
unfolding are_marks
marks_are {f = f} {p = p} {n = n} m s = field_is p s ∙ rw m.width (go (eqb (length s) n) refl)
  where
    go : (b : Bool) → eqb (length s) n ≡ b → (b && p.test 0 s) ≡ (b && all is_mark s)
    go true e = m.tests s 0 (omega (arith, eqb-true (length s) n e))
    go false e = refl

pub marks_short : (n : ℕ) (s : List ℕ) → (length s ≡ n → ⊥) → are_marks n s ≡ false
unfolding are_marks
marks_short n s h = rw (ne_eqb (length s) n h)

pub marks_told : (n : ℕ) (s : List ℕ) {r : Bool} → length s ≡ n → r ≡ list_all is_mark s → r ≡ are_marks n s
unfolding are_marks
marks_told n s h e = e ∙ all_same is_mark s ∙ sym (rw (eq-eqb (length s) n h))
