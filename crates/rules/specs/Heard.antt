-- "What a caller hears": the refusals in their order. A statement, a catalogue and a row are what was read of the bytes, with the number of
-- bytes; `none` is where the bytes are no such image.
-- Assumes nothing: these are definitions.
use Rattle.std.specs.Prelude.{cond, not, ◌&&◌, List, ℕ, leb}
use Rattle.std.proofs.Math.Option.{Option, none, some}
use Rattle.rules.specs.declared.Class.{Class}
use Rattle.rules.specs.declared.Class.TheVariants.{SchemaMismatch, ConstraintViolation, UnsupportedSql, InvalidArgument}
use Rattle.rules.specs.Answers.{Answer, given, refused}
use Rattle.rules.specs.Tables.{TableSchema, Catalogue}
use Rattle.rules.specs.Statements.{Expr, Assignment, Kind, create_table, insert, query, update, delete, begin, commit, rollback, show_tables, other_kind, Statement}
use Rattle.rules.specs.Bound.{BoundStatement}
use Rattle.rules.specs.Trimmed.{is_show_transactions}
use Rattle.rules.specs.Analyze.{analyze, resolve_direct_table}
use Rattle.rules.specs.Rows.{Row, row_obeys}
use Rattle.rules.specs.Evaluate.{Worked, worked, fault, no_rule, update_row}
use Rattle.rules.specs.Limits.{statement_within, catalogue_within, names_beyond_ascii}

-- "A refusal answers its number": or the answer itself, whose image is then written
pub data Outcome (A : Type 0) : Type 0 where
  refuses : ℕ → Outcome A
  answers : A → Outcome A

abbrev pub next : {A B : Type 0} → Outcome A → (A → Outcome B) → Outcome B
next (refuses k) f = refuses k
next (answers a) f = f a

-- 1 to 4
abbrev pub class_no : Class → ℕ
class_no SchemaMismatch = 1
class_no ConstraintViolation = 2
class_no UnsupportedSql = 3
class_no InvalidArgument = 4

abbrev pub heard : {A : Type 0} → Answer A → Outcome A
heard (given a) = answers a
heard (refused r) = refuses (class_no r.class)

-- what was read of some bytes, and how many bytes they were
pub record Read (A : Type 0) : Type 0 where
  pub value : A
  pub size : ℕ

-- ---- binding

-- both images are there and within the limits, and no name of the statement is beyond ASCII: 5, 6, 7, 8
abbrev pub received : Option (Read Statement) → Option (Read Catalogue) → Outcome (Statement × Catalogue)
received none c = refuses 5
received (some s) none = refuses 6
received (some s) (some c) =
    cond (not (statement_within s.size s.value && catalogue_within c.size c.value)) (refuses 7)
    (cond (names_beyond_ascii s.value) (refuses 8) (answers (s.value, c.value)))

-- then 1 to 4, first found
unfoldable pub judged_statement : Option (Read Statement) → Option (Read Catalogue) → Outcome BoundStatement
judged_statement s c = next (received s c) (λ p. heard (analyze p.1 p.0))

-- then 9: "the answer is longer than the output". `size` is the number of bytes of an answer's image
abbrev pub fitted : {A : Type 0} → (A → ℕ) → ℕ → Outcome A → Outcome A
fitted size room (refuses k) = refuses k
fitted size room (answers a) = cond (leb (size a) room) (answers a) (refuses 9)

unfoldable pub bind_outcome : (BoundStatement → ℕ) → ℕ → Option (Read Statement) → Option (Read Catalogue) → Outcome BoundStatement
bind_outcome size room s c = fitted size room (judged_statement s c)

-- ---- running: "it tests all of binding's but 9, then 12, 10, 11, 9"

-- an UPDATE by 01's dispatch: its table, its assignments and its condition
pub record Running : Type 0 where
  pub table : TableSchema
  pub assignments : List Assignment
  pub condition : Expr

abbrev pub running : Answer TableSchema → Option Expr → List Assignment → Option Running
running (refused r) e changes = none
running (given t) none changes = none
running (given t) (some e) changes = some (record { table = t; assignments = changes; condition = e })

abbrev pub update_of : Catalogue → Kind → Option Running
update_of cat (create_table c) = none
update_of cat (insert i) = none
update_of cat (query q) = none
update_of cat (update u) = running (resolve_direct_table cat u.table) u.condition u.assignments
update_of cat (delete d) = none
update_of cat (begin marked) = none
update_of cat (commit chain) = none
update_of cat (rollback chain savepoint) = none
update_of cat (show_tables marked) = none
update_of cat other_kind = none

unfoldable pub runnable : Catalogue → Statement → Option Running
runnable cat s = cond (is_show_transactions s.raw) none (update_of cat s.kind)

-- 12: "a run is asked of a bound statement that is no UPDATE"
abbrev pub asked : Option Running → Outcome Running
asked none = refuses 12
asked (some r) = answers r

-- 10: "the row bytes are no row obeying the bound table"
abbrev pub obeying : TableSchema → Option Row → Outcome Row
obeying t none = refuses 10
obeying t (some row) = cond (row_obeys t row) (answers row) (refuses 10)

-- 11: "arithmetic fault". (`no_rule` never happens to a statement that binds.)
abbrev pub worked_out : Worked Row → Outcome Row
worked_out (worked row) = answers row
worked_out fault = refuses 11
worked_out no_rule = refuses 11

abbrev pub ran_on : Option Row → Running → Outcome Row
ran_on row r = next (obeying r.table row) (λ old. worked_out (update_row r.table r.condition r.assignments old))

unfoldable pub ran_statement : Option (Read Statement) → Option (Read Catalogue) → Option Row → Outcome Row
ran_statement s c row =
    next (received s c) (λ p. next (heard (analyze p.1 p.0)) (λ b. next (asked (runnable p.1 p.0)) (ran_on row)))

unfoldable pub run_outcome : (Row → ℕ) → ℕ → Option (Read Statement) → Option (Read Catalogue) → Option Row → Outcome Row
run_outcome size room s c row = fitted size room (ran_statement s c row)
