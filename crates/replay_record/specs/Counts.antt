-- What is counted of a record's cases.
-- Assumes nothing.
use Rattle.std.specs.Prelude.{◌≡◌, Result, Ok, Err, Bool, true, false, not, ◌&&◌, List, [], ◌∷◌, ℕ, ◌+◌, ◌^◌, ◌<◌, eqb, length}
use Rattle.replay_record.specs.declared.Tally.{Tally}
use Rattle.replay_record.specs.declared.Damaged.{Damaged}
use Rattle.replay_record.specs.Layout.{answer, cases, is_record}

abbrev pub bit : Bool → ℕ
bit true = 1
bit false = 0

-- how many of some cases pass a test
unfoldable pub count : (List ℕ → Bool) → List (List ℕ) → ℕ
count p [] = 0
count p (x ∷ l) = bit (p x) + count p l

-- ---- by the answer that is expected: 0, 11, and any other

abbrev pub is_answered : ℕ → Bool
is_answered n = eqb n 0

abbrev pub is_fault : ℕ → Bool
is_fault n = eqb n 11

abbrev pub is_other : ℕ → Bool
is_other n = not (eqb n 0) && not (eqb n 11)

abbrev pub none : Tally
none = record { cases = 0; answered = 0; faults = 0; others = 0; differences = 0 }

-- one case more
abbrev pub added : Tally → ℕ → Bool → Tally
added t n differs = record {
  cases = t.cases + 1;
  answered = t.answered + bit (is_answered n);
  faults = t.faults + bit (is_fault n);
  others = t.others + bit (is_other n);
  differences = t.differences + bit differs;
}

-- no count is near the largest number
pub record Few (t : Tally) : Type 0 where
  pub cases : t.cases < 2 ^ 32
  pub answered : t.answered < 2 ^ 32
  pub faults : t.faults < 2 ^ 32
  pub others : t.others < 2 ^ 32
  pub differences : t.differences < 2 ^ 32

abbrev pub damaged : Tally → Result Tally Damaged
damaged t = Err (record { tally = t })

abbrev pub is_whole : Result Tally Damaged → Bool
is_whole (Ok t) = true
is_whole (Err d) = false

-- of a record that is not whole, the cases in front of the damage
abbrev pub tally_of : Result Tally Damaged → Tally
tally_of (Ok t) = t
tally_of (Err d) = d.tally

-- t counts the cases l, of which those that pass a test differ
pub record Counted (differs : List ℕ → Bool) (l : List (List ℕ)) (t : Tally) : Type 0 where
  pub cases : t.cases ≡ length l
  pub answered : t.answered ≡ count (λ x. is_answered (answer x)) l
  pub faults : t.faults ≡ count (λ x. is_fault (answer x)) l
  pub others : t.others ≡ count (λ x. is_other (answer x)) l
  pub differences : t.differences ≡ count differs l

-- ... of a whole record
pub record Replays (differs : List ℕ → Bool) (k : ℕ) (s : List ℕ) (r : Result Tally Damaged) : Type 0 where
  pub whole : is_whole r ≡ is_record k s
  pub counts : Counted differs (cases k s) (tally_of r)
