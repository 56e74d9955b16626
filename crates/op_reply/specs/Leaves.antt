-- An outcome as a caller hears it: a number, a length, and the output as it is then.
-- Assumes nothing.
use Rattle.std.specs.Prelude.{◌≡◌, refl, Result, Ok, Err, List, [], ◌∷◌, ◌++◌, ℕ, suc, ◌-◌, ◌≤◌, length, get_or, set, drop}
use Rattle.std.specs.Result.{result_unwrap_or}
use Rattle.std.proofs.Common.{sym, ap, ◌∙◌, arith}
use Rattle.std.proofs.lemmas.List.Edits.{sets}
use Rattle.bytes_wire.specs.Sets.{Wrote}
use Rattle.rules.specs.Heard.{Outcome, refuses, answers}
use Rattle.op_reply.specs.declared.Refused.{Refused}
use Rattle.op_reply.specs.declared.Refused.TheVariants.{
  SchemaMismatch,
  ConstraintViolation,
  UnsupportedSql,
  InvalidArgument,
  NoStatement,
  NoCatalogue,
  PastALimit,
  NameBeyondAscii,
  NoRoom,
  NoRow,
  Fault,
  NoUpdate,
}

-- ---- the numbers

abbrev pub number_of : Refused → ℕ
number_of SchemaMismatch = 1
number_of ConstraintViolation = 2
number_of UnsupportedSql = 3
number_of InvalidArgument = 4
number_of NoStatement = 5
number_of NoCatalogue = 6
number_of PastALimit = 7
number_of NameBeyondAscii = 8
number_of NoRoom = 9
number_of NoRow = 10
number_of Fault = 11
number_of NoUpdate = 12

-- no refusal is told as an answer
pub never_zero : (r : Refused) → number_of r ≡ 0 → ⊥
never_zero SchemaMismatch e = omega arith
never_zero ConstraintViolation e = omega arith
never_zero UnsupportedSql e = omega arith
never_zero InvalidArgument e = omega arith
never_zero NoStatement e = omega arith
never_zero NoCatalogue e = omega arith
never_zero PastALimit e = omega arith
never_zero NameBeyondAscii e = omega arith
never_zero NoRoom e = omega arith
never_zero NoRow e = omega arith
never_zero Fault e = omega arith
never_zero NoUpdate e = omega arith

-- the refusal of a number
refused_of : ℕ → Refused
refused_of n =
    get_or
    (SchemaMismatch
    ∷ ConstraintViolation
    ∷ UnsupportedSql
    ∷ InvalidArgument
    ∷ NoStatement
    ∷ NoCatalogue
    ∷ PastALimit
    ∷ NameBeyondAscii
    ∷ NoRoom
    ∷ NoRow
    ∷ Fault
    ∷ [])
    (n - 1) NoUpdate

refused_back : (r : Refused) → refused_of (number_of r) ≡ r
unfolding refused_of
refused_back SchemaMismatch = refl
refused_back ConstraintViolation = refl
refused_back UnsupportedSql = refl
refused_back InvalidArgument = refl
refused_back NoStatement = refl
refused_back NoCatalogue = refl
refused_back PastALimit = refl
refused_back NameBeyondAscii = refl
refused_back NoRoom = refl
refused_back NoRow = refl
refused_back Fault = refl
refused_back NoUpdate = refl

-- a number is one refusal's alone
pub number_once : (r q : Refused) → number_of r ≡ number_of q → r ≡ q
number_once r q e = sym (refused_back r) ∙ ap refused_of e ∙ refused_back q

-- 0 where nothing is refused
abbrev pub told_number : {A : Type 0} → Result A Refused → ℕ
told_number (Ok a) = 0
told_number (Err r) = number_of r

-- what a caller hears: 0 and how many bytes were written, or the number of a refusal and 0
pub record Reply : Type 0 where
  pub refusal : ℕ
  pub length : ℕ

abbrev pub reply : ℕ → ℕ → Reply
reply k n = record { refusal = k; length = n }

-- the code's answer as numbers
abbrev pub told : Result ℕ Refused → Reply
told r = reply (told_number r) (result_unwrap_or r 0)

-- what a caller hears is one answer's alone
pub told_once : (r q : Result ℕ Refused) → told r ≡ told q → r ≡ q
told_once (Ok a) (Ok b) e = ap Ok (ap (λ (x : Reply). x.length) e)
told_once (Ok a) (Err q) e = absurd (never_zero q (sym (ap (λ (x : Reply). x.refusal) e)))
told_once (Err r) (Ok b) e = absurd (never_zero r (ap (λ (x : Reply). x.refusal) e))
told_once (Err r) (Err q) e = ap Err (number_once r q (ap (λ (x : Reply). x.refusal) e))

-- ---- "A refusal answers its number with length 0, and the output holds the bytes it held before. Success answers the length written; bytes past
-- it stay."

abbrev pub refusal : {A : Type 0} → Outcome A → ℕ
refusal (refuses k) = k
refusal (answers a) = 0

abbrev pub written : Outcome (List ℕ) → ℕ
written (refuses k) = 0
written (answers b) = length b

abbrev pub held : Outcome (List ℕ) → List ℕ → List ℕ
held (refuses k) old = old
held (answers b) old = b ++ drop (length b) old

-- r is the reply to an outcome o
pub record Hears (o : Outcome (List ℕ)) (r : Reply) : Type 0 where
  pub number : r.refusal ≡ refusal o
  pub size : r.length ≡ written o

-- and the output, which held old, holds new
pub record Leaves (o : Outcome (List ℕ)) (old : List ℕ) (r : Reply) (new : List ℕ) : Type 0 where
  pub hears : Hears o r
  pub output : new ≡ held o old

pub hears_refusal : {o : Outcome (List ℕ)} {r : Reply} {k : ℕ} → o ≡ refuses k → r ≡ reply k 0 → Hears o r
hears_refusal e h = record {
  number = ap (λ (x : Reply). x.refusal) h ∙ sym (ap refusal e);
  size = ap (λ (x : Reply). x.length) h ∙ sym (ap written e);
}

pub hears_same : {o p : Outcome (List ℕ)} {r : Reply} → o ≡ p → Hears p r → Hears o r
hears_same e h = record { number = h.number ∙ sym (ap refusal e); size = h.size ∙ sym (ap written e) }

pub leaves_as_it_was : {o : Outcome (List ℕ)} {old : List ℕ} {r : Reply} {k : ℕ} → o ≡ refuses k → r ≡ reply k 0 → Leaves o old r old
leaves_as_it_was {old = old} e h = record { hears = hears_refusal e h; output = sym (ap (λ (x : Outcome (List ℕ)). held x old) e) }

-- what is left by an outcome is left by the same one
pub leaves_same : {o p : Outcome (List ℕ)} {old new : List ℕ} {r : Reply} → o ≡ p → Leaves p old r new → Leaves o old r new
leaves_same {old = old} e l = record { hears = hears_same e l.hears; output = l.output ∙ sym (ap (λ (x : Outcome (List ℕ)). held x old) e) }

-- bytes written from the front are the front
sets_behind : (l : List ℕ) (i a : ℕ) (x : List ℕ) → sets (a ∷ l) (suc i) x ≡ a ∷ sets l i x
sets_behind l i a [] = refl
sets_behind l i a (b ∷ x) = sets_behind (set l i b) (suc i) a x

sets_front : (old x : List ℕ) → length x ≤ length old → sets old 0 x ≡ x ++ drop (length x) old
sets_front old [] l = refl
sets_front [] (a ∷ x) l = absurd (omega arith)
sets_front (b ∷ old) (a ∷ x) l = sets_behind old 0 a x ∙ ap (λ (y : List ℕ). a ∷ y) (sets_front old x (omega arith))

pub leaves_written : {o : Outcome (List ℕ)} {old new x : List ℕ} {n : ℕ} → o ≡ answers x → length x ≤ length old → Wrote old 0 x n new → Leaves o old (reply 0 n) new
leaves_written {old = old} {x = x} e l w = record {
  hears = record { number = sym (ap refusal e); size = omega (arith, w.end, ap written e) };
  output = w.is ∙ sets_front old x l ∙ sym (ap (λ (y : Outcome (List ℕ)). held y old) e);
}
