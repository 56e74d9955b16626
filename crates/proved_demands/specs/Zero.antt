-- No refusal has the number 0: where a caller of `bind` hears 0 it is an answer.
-- Assumes nothing.
use Rattle.std.specs.Prelude.{◌≡◌, refl, Bool, true, false, cond, not, ◌&&◌, List, ℕ, leb}
use Rattle.std.proofs.Math.Option.{Option, none, some}
use Rattle.std.proofs.Common.{arith}
use Rattle.rules.specs.declared.Class.{Class}
use Rattle.rules.specs.declared.Class.TheVariants.{SchemaMismatch, ConstraintViolation, UnsupportedSql, InvalidArgument}
use Rattle.rules.specs.Tables.{Catalogue}
use Rattle.rules.specs.Statements.{Statement}
use Rattle.rules.specs.Bound.{BoundStatement}
use Rattle.rules.specs.Answers.{Answer, given, refused}
use Rattle.rules.specs.Analyze.{analyze}
use Rattle.rules.specs.Limits.{statement_within, catalogue_within, names_beyond_ascii}
use Rattle.rules.specs.Heard.{Outcome, refuses, answers, Read, next, class_no, heard, received, judged_statement, fitted, bind_outcome}
use Rattle.rules.specs.Demand.{Answers}
use Rattle.rules.proofs.Theorems.Steps.{never_answers}
use Rattle.op_reply.specs.Leaves.{refusal}
use Rattle.op_received.specs.Entry.{read_statement, read_catalogue, bound_size, bind_bytes}
use Rattle.op_put.specs.Binds.{bytes_of}

class_not_zero : (k : Class) → class_no k ≡ 0 → ⊥
class_not_zero SchemaMismatch e = omega arith
class_not_zero ConstraintViolation e = omega arith
class_not_zero UnsupportedSql e = omega arith
class_not_zero InvalidArgument e = omega arith

judged_zero : (room : ℕ) (a : Answer BoundStatement)
    → refusal (bytes_of (fitted bound_size room (heard a))) ≡ 0 → Answers (bytes_of (fitted bound_size room (heard a)))
judged_zero room (given b) e = go (leb (bound_size b) room) e
  where
    go : (t : Bool) → refusal (bytes_of (cond t (answers b) (refuses 9))) ≡ 0 → Answers (bytes_of (cond t (answers b) (refuses 9)))
    go true e = (_, refl)
    go false e = absurd (omega arith)
judged_zero room (refused r) e = absurd (class_not_zero r.class e)

received_zero : (m : Option (Read Statement)) (n : Option (Read Catalogue)) → refusal (received m n) ≡ 0 → Answers (received m n)
received_zero none n e = absurd (omega arith)
received_zero (some s) none e = absurd (omega arith)
received_zero (some s) (some c) e =
    go (statement_within s.size s.value) (catalogue_within c.size c.value) (names_beyond_ascii s.value) e
  where
    end : Bool → Bool → Bool → Outcome (Statement × Catalogue)
    end w x b = cond (not (w && x)) (refuses 7) (cond b (refuses 8) (answers (s.value, c.value)))

    go : (w x b : Bool) → refusal (end w x b) ≡ 0 → Answers (end w x b)
    go true true false e = (_, refl)
    go true true true e = absurd (omega arith)
    go true false b e = absurd (omega arith)
    go false x b e = absurd (omega arith)

pub zero_answers : (s c : List ℕ) (room : ℕ) → refusal (bind_bytes s c room) ≡ 0 → Answers (bind_bytes s c room)
unfolding bind_bytes bind_outcome judged_statement
zero_answers s c room e = go (received (read_statement s) (read_catalogue c)) (received_zero (read_statement s) (read_catalogue c)) e
  where
    all : Outcome (Statement × Catalogue) → Outcome (List ℕ)
    all o = bytes_of (fitted bound_size room (next o (λ p. heard (analyze p.1 p.0))))

    go : (o : Outcome (Statement × Catalogue)) → (refusal o ≡ 0 → Answers o) → refusal (all o) ≡ 0 → Answers (all o)
    go (refuses k) z e = let a = z e in absurd (never_answers a.1)
    go (answers p) z e = judged_zero room (analyze p.1 p.0) e
