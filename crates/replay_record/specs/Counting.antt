-- A record, replayed case by case: what is counted so far and what is left come to the whole.
-- Assumes nothing.
use Rattle.std.specs.Prelude.{◌≡◌, Ok, Bool, true, false, ◌&&◌, eqb, length, drop}
use Rattle.std.proofs.Math.Path.{refl, sym, ap}
use Rattle.std.proofs.Common.{◌∙◌}
use Rattle.std.proofs.Math.Bool.{cond}
use mathlib.Core.List.{List, [], ◌∷◌}
use Prim.Native.Nat.{ℕ, zero, suc, ◌+◌, ◌-◌, ◌^◌, ◌≤◌, ◌<◌}
use native.Mathlib.Omega.{arith}
use borrow.Author.Tests.{eq-eqb, ne_eqb, le-leb, lt-leb}
use Rattle.bytes_wire.specs.Le.{Got}
use Rattle.replay_record.specs.declared.Tally.{Tally}
use Rattle.replay_record.specs.Layout.{answer, size, is_case, behind, cases_of, are_cases, cases, is_record}
use Rattle.replay_record.specs.Counts.{bit, count, is_answered, is_fault, is_other, none, added, Few, damaged, Counted, Replays}

-- ---- one count

count_le : (p : List ℕ → Bool) (l : List (List ℕ)) → count p l ≤ length l
unfolding count
count_le p [] = omega arith
count_le p (x ∷ l) = let h = count_le p l in go (p x) h
  where
    go : (b : Bool) → count p l ≤ length l → bit b + count p l ≤ suc (length l)
    go true h = omega arith
    go false h = omega arith

count_more : (p : List ℕ → Bool) (x : List ℕ) (l : List (List ℕ)) (n : ℕ) {m : ℕ} → n + count p (x ∷ l) ≡ m → n + bit (p x) + count p l ≡ m
unfolding count
count_more p x l n h = omega (arith, h)

count_none : (p : List ℕ → Bool) (n : ℕ) {m : ℕ} → n + count p [] ≡ m → n ≡ m
unfolding count
count_none p n h = omega (arith, h)

-- ---- t counts the cases in front of l, which are the last of all

pub record Counting (differs : List ℕ → Bool) (all l : List (List ℕ)) (t : Tally) : Type 0 where
  pub cases : t.cases + length l ≡ length all
  pub answered : t.answered + count (λ x. is_answered (answer x)) l ≡ count (λ x. is_answered (answer x)) all
  pub faults : t.faults + count (λ x. is_fault (answer x)) l ≡ count (λ x. is_fault (answer x)) all
  pub others : t.others + count (λ x. is_other (answer x)) l ≡ count (λ x. is_other (answer x)) all
  pub differences : t.differences + count differs l ≡ count differs all

module _ (differs : List ℕ → Bool) where
  counting_start : (all : List (List ℕ)) → Counting differs all all none
  counting_start all = record { cases = omega arith; answered = omega arith; faults = omega arith; others = omega arith; differences = omega arith }

  counting_more : {all l : List (List ℕ)} {x : List ℕ} {t : Tally} {d : Bool} → d ≡ differs x → Counting differs all (x ∷ l) t
      → Counting differs all l (added t (answer x) d)
  counting_more {l = l} {x = x} {t = t} e h = record {
    cases = omega (arith, h.cases);
    answered = count_more (λ x. is_answered (answer x)) x l t.answered h.answered;
    faults = count_more (λ x. is_fault (answer x)) x l t.faults h.faults;
    others = count_more (λ x. is_other (answer x)) x l t.others h.others;
    differences = ap (λ (b : Bool). t.differences + bit b + count differs l) e ∙ count_more differs x l t.differences h.differences;
  }

  counting_few : {all l : List (List ℕ)} {t : Tally} → length all < 2 ^ 32 → Counting differs all l t → Few t
  counting_few {all} s h = record {
    cases = omega (arith, h.cases);
    answered = omega (arith, h.answered, count_le (λ x. is_answered (answer x)) all);
    faults = omega (arith, h.faults, count_le (λ x. is_fault (answer x)) all);
    others = omega (arith, h.others, count_le (λ x. is_other (answer x)) all);
    differences = omega (arith, h.differences, count_le differs all);
  }

  counting_end : {all : List (List ℕ)} {t : Tally} → Counting differs all [] t → Counted differs all t
  counting_end {t = t} h = record {
    cases = omega (arith, h.cases);
    answered = count_none (λ x. is_answered (answer x)) t.answered h.answered;
    faults = count_none (λ x. is_fault (answer x)) t.faults h.faults;
    others = count_none (λ x. is_other (answer x)) t.others h.others;
    differences = count_none differs t.differences h.differences;
  }

-- ---- the cases

cases_le : (k n : ℕ) (s : List ℕ) → length (cases_of k n s) ≤ n
unfolding cases_of
cases_le k zero s = omega arith
cases_le k (suc n) s = go (is_case k s) (cases_le k n (behind k s))
  where
    go : (b : Bool) → length (cases_of k n (behind k s)) ≤ n → length (cond b (s ∷ cases_of k n (behind k s)) []) ≤ suc n
    go true h = omega arith
    go false h = omega arith

module _ (k : ℕ) (s : List ℕ) where
  cases_none : (n : ℕ) → n ≤ 0 → cases_of k n s ≡ []
  unfolding cases_of
  cases_none zero h = refl
  cases_none (suc n) h = absurd (omega arith)

  are_none : (n : ℕ) → n ≤ 0 → are_cases k n s ≡ eqb (length s) 0
  unfolding are_cases
  are_none zero h = refl
  are_none (suc n) h = absurd (omega arith)

  cases_broken : (n : ℕ) → 0 < n → is_case k s ≡ false → cases_of k n s ≡ []
  unfolding cases_of
  cases_broken zero h e = absurd (omega arith)
  cases_broken (suc n) h e = ap (λ (b : Bool). cond b (s ∷ cases_of k n (behind k s)) []) e

  are_broken : (n : ℕ) → 0 < n → is_case k s ≡ false → are_cases k n s ≡ false
  unfolding are_cases
  are_broken zero h e = absurd (omega arith)
  are_broken (suc n) h e = ap (λ (b : Bool). b && are_cases k n (behind k s)) e

  cases_more : (n : ℕ) → 0 < n → is_case k s ≡ true → cases_of k n s ≡ s ∷ cases_of k (n - 1) (behind k s)
  unfolding cases_of
  cases_more zero h e = absurd (omega arith)
  cases_more (suc n) h e =
      let d : suc n - 1 ≡ n = omega arith in
      rw d (ap (λ (b : Bool). cond b (s ∷ cases_of k n (behind k s)) []) e)

  are_more : (n : ℕ) → 0 < n → is_case k s ≡ true → are_cases k n s ≡ are_cases k (n - 1) (behind k s)
  unfolding are_cases
  are_more zero h e = absurd (omega arith)
  are_more (suc n) h e =
      let d : suc n - 1 ≡ n = omega arith in
      rw d (ap (λ (b : Bool). b && are_cases k n (behind k s)) e)

-- ---- the record s: t counts the cases in front of `rest`, where `left` cases are still to stand

pub record Replaying (differs : List ℕ → Bool) (k : ℕ) (s : List ℕ) (left : ℕ) (rest : List ℕ) (t : Tally) : Type 0 where
  pub few : length (cases k s) < 2 ^ 32
  pub whole : is_record k s ≡ are_cases k left rest
  pub counts : Counting differs (cases k s) (cases_of k left rest) t

module _ (differs : List ℕ → Bool) (k : ℕ) (s : List ℕ) where
  -- no room for the number of cases
  pub replays_short : length s < 4 → Replays differs k s (damaged none)
  unfolding cases is_record
  replays_short h =
      let e = lt-leb 4 (length s) h in
      record {
        whole = sym (ap (λ (b : Bool). b && are_cases k (size 0 s) (drop 4 s)) e);
        counts = subst_counts (ap (λ (b : Bool). cond b (cases_of k (size 0 s) (drop 4 s)) []) e);
      }
    where
      subst_counts : {l : List (List ℕ)} → l ≡ [] → Counted differs l none
      subst_counts e = rw e (counting_end differs (counting_start differs []))

  pub replaying_start : {n : ℕ} → 4 ≤ length s → Got s 0 4 n → Replaying differs k s n (drop 4 s) none
  unfolding cases is_record
  replaying_start {n} h g =
      let e = le-leb 4 (length s) h in
      let c : cases k s ≡ cases_of k n (drop 4 s) = ap (λ (b : Bool). cond b (cases_of k (size 0 s) (drop 4 s)) []) e ∙ ap (λ (m : ℕ). cases_of k m (drop 4 s)) (sym g.is) in
      record {
        few = rw c (omega (arith, cases_le k n (drop 4 s), g.fits));
        whole = ap (λ (b : Bool). b && are_cases k (size 0 s) (drop 4 s)) e ∙ ap (λ (m : ℕ). are_cases k m (drop 4 s)) (sym g.is);
        counts = rw c (counting_start differs (cases_of k n (drop 4 s)));
      }

  module _ {left : ℕ} {rest : List ℕ} {t : Tally} (r : Replaying differs k s left rest t) where
    pub replaying_few : Few t
    replaying_few = counting_few differs r.few r.counts

    pub replaying_more : {d : Bool} → 0 < left → is_case k rest ≡ true → d ≡ differs rest
        → Replaying differs k s (left - 1) (behind k rest) (added t (answer rest) d)
    replaying_more h e q = record {
      few = r.few;
      whole = r.whole ∙ are_more k rest left h e;
      counts = counting_more differs q (rw (cases_more k rest left h e) at r.counts);
    }

    pub replays_broken : 0 < left → is_case k rest ≡ false → Replays differs k s (damaged t)
    replays_broken h e = record {
      whole = sym (r.whole ∙ are_broken k rest left h e);
      counts = counting_end differs (rw (cases_broken k rest left h e) at r.counts);
    }

    pub replays_whole : left ≤ 0 → length rest ≡ 0 → Replays differs k s (Ok t)
    replays_whole h e = record {
      whole = sym (r.whole ∙ are_none k rest left h ∙ eq-eqb (length rest) 0 e);
      counts = counting_end differs (rw (cases_none k rest left h) at r.counts);
    }

    pub replays_past : left ≤ 0 → (length rest ≡ 0 → ⊥) → Replays differs k s (damaged t)
    replays_past h n = record {
      whole = sym (r.whole ∙ are_none k rest left h ∙ ne_eqb (length rest) 0 n);
      counts = counting_end differs (rw (cases_none k rest left h) at r.counts);
    }
