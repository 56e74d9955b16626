-- No refusal of a run has the number 0: where a caller hears 0 there is a row.
-- Assumes nothing.
use Rattle.std.specs.Prelude.{◌≡◌, Bool, true, false, cond, not, ◌&&◌, List, ℕ, leb}
use Rattle.std.proofs.Math.Option.{Option, none, some}
use Rattle.std.proofs.Common.{arith}
use Rattle.rules.specs.declared.Class.{Class}
use Rattle.rules.specs.declared.Class.TheVariants.{SchemaMismatch, ConstraintViolation, UnsupportedSql, InvalidArgument}
use Rattle.rules.specs.Analyze.{analyze}
use Rattle.rules.specs.Answers.{Answer, given, refused}
use Rattle.rules.specs.Evaluate.{Worked, worked, fault, no_rule, update_row}
use Rattle.rules.specs.Heard.{
  Outcome,
  refuses,
  answers,
  Read,
  next,
  class_no,
  heard,
  received,
  fitted,
  Running,
  runnable,
  asked,
  obeying,
  worked_out,
  ran_statement,
  run_outcome,
}
use Rattle.rules.specs.Limits.{statement_within, catalogue_within, names_beyond_ascii}
use Rattle.rules.specs.Rows.{Row, row_obeys}
use Rattle.rules.specs.Statements.{Statement}
use Rattle.rules.specs.Tables.{TableSchema, Catalogue}
use Rattle.image_row.specs.Layout as row
use Rattle.op_received.specs.Entry.{read_statement, read_catalogue, row_size, run_bytes}

-- a refusal has a number that is not 0
abbrev pub Numbered : {A : Type 0} → Outcome A → Type 0
Numbered (refuses k) = k ≡ 0 → ⊥
Numbered (answers a) = Unit {0}

next_numbered : {A B : Type 0} (o : Outcome A) (f : A → Outcome B) → Numbered o → ((a : A) → Numbered (f a)) → Numbered (next o f)
next_numbered (refuses k) f p q = p
next_numbered (answers a) f p q = q a

class_numbered : (k : Class) → class_no k ≡ 0 → ⊥
class_numbered SchemaMismatch e = omega arith
class_numbered ConstraintViolation e = omega arith
class_numbered UnsupportedSql e = omega arith
class_numbered InvalidArgument e = omega arith

heard_numbered : {A : Type 0} (a : Answer A) → Numbered (heard a)
heard_numbered (given a) = tt
heard_numbered (refused r) = class_numbered r.class

-- one test: a refusal, or what follows it
pub test_numbered : {A : Type 0} (b : Bool) (k : ℕ) (o : Outcome A) → (k ≡ 0 → ⊥) → Numbered o → Numbered (cond b (refuses k) o)
test_numbered true k o z p = z
test_numbered false k o z p = p

last_numbered : {A : Type 0} (b : Bool) (k : ℕ) (a : A) → (k ≡ 0 → ⊥) → Numbered (cond b (answers a) (refuses k))
last_numbered true k a z = tt
last_numbered false k a z = z

received_numbered : (m : Option (Read Statement)) (n : Option (Read Catalogue)) → Numbered (received m n)
received_numbered none n = λ e. omega arith
received_numbered (some s) none = λ e. omega arith
received_numbered (some s) (some c) =
    test_numbered (not (statement_within s.size s.value && catalogue_within c.size c.value)) 7 _ (λ e. omega arith)
    (test_numbered (names_beyond_ascii s.value) 8 _ (λ e. omega arith) tt)

asked_numbered : (o : Option Running) → Numbered (asked o)
asked_numbered none = λ e. omega arith
asked_numbered (some r) = tt

obeying_numbered : (t : TableSchema) (o : Option Row) → Numbered (obeying t o)
obeying_numbered t none = λ e. omega arith
obeying_numbered t (some x) = last_numbered (row_obeys t x) 10 x (λ e. omega arith)

worked_numbered : (w : Worked Row) → Numbered (worked_out w)
worked_numbered (worked x) = tt
worked_numbered fault = λ e. omega arith
worked_numbered no_rule = λ e. omega arith

ran_numbered : (m : Option (Read Statement)) (n : Option (Read Catalogue)) (o : Option Row) → Numbered (ran_statement m n o)
unfolding ran_statement
ran_numbered m n o =
    next_numbered (received m n) _ (received_numbered m n) (λ p.
    next_numbered (heard (analyze p.1 p.0)) _ (heard_numbered (analyze p.1 p.0)) (λ b.
    next_numbered (asked (runnable p.1 p.0)) _ (asked_numbered (runnable p.1 p.0)) (λ u.
    next_numbered (obeying u.table o) _ (obeying_numbered u.table o) (λ old.
    worked_numbered (update_row u.table u.condition u.assignments old)))))

fitted_numbered : {A : Type 0} (size : A → ℕ) (room : ℕ) (o : Outcome A) → Numbered o → Numbered (fitted size room o)
fitted_numbered size room (refuses k) p = p
fitted_numbered size room (answers a) p = last_numbered (leb (size a) room) 9 a (λ e. omega arith)

pub run_numbered : (s c r : List ℕ) (room : ℕ) → Numbered (run_bytes s c r room)
unfolding run_bytes run_outcome
run_numbered s c r room =
    next_numbered (run_outcome row_size room (read_statement s) (read_catalogue c) (row.decode r)) _
    (fitted_numbered row_size room (ran_statement (read_statement s) (read_catalogue c) (row.decode r)) (ran_numbered (read_statement s) (read_catalogue c) (row.decode r)))
    (λ new. tt)
