-- Demand 3 whole, on bytes, in its own words, of whatever a caller of `bind` and of `run` hears. `Proved.antt` proves it.
-- "Take an UPDATE (by 01's dispatch) of one known table, with a WHERE, at least one assignment, no unsupported clause, within the limits,
-- clear of number 8 and with room for each answer. It binds exactly if some marking of its expressions with types and may-be-null meets 01's
-- rule at every node, the WHERE is BOOL, and the targets are plain distinct columns outside the key, each given a fitting value, none that
-- may be null where the column forbids it. No second marking exists. Run on a row that obeys the table, it faults exactly where 01's value
-- rules do, else yields the row they name, which obeys the table too."
-- Assumes nothing: these are definitions.
use Rattle.std.specs.Prelude.{◌≡◌, true, ◌↔◌, List, ◌++◌, ℕ, length, drop}
use Rattle.std.proofs.Math.Option.{some}
use Rattle.rules.specs.Tables.{TableSchema, Catalogue}
use Rattle.rules.specs.Statements.{Expr, Update, Statement}
use Rattle.rules.specs.Obeys.{Obeys, UpdateObeys}
use Rattle.rules.specs.Marking.{Marking}
use Rattle.rules.specs.Rows.{Row, row_obeys}
use Rattle.rules.specs.Evaluate.{worked, fault, update_row}
use Rattle.rules.specs.Heard.{Read, judged_statement, ran_statement}
use Rattle.rules.specs.Demand.{Taken, Room}
use Rattle.image_row.specs.Layout as row
use Rattle.op_received.specs.Entry.{read_statement, read_catalogue, bound_size, row_size, bind_bytes, run_bytes}
use Rattle.op_reply.specs.Leaves.{Reply, Leaves}

-- ---- what a caller hears: the contracts of `op_bind::bind` and `op_run::run`

-- the output held o and holds o', and k is the reply
abbrev pub BindReplies : (s c o : List ℕ) → Reply → List ℕ → Type 0
BindReplies s c o k o' = Leaves (bind_bytes s c (length o)) o k o'

abbrev pub RunReplies : (s c r o : List ℕ) → Reply → List ℕ → Type 0
RunReplies s c r o k o' = Leaves (run_bytes s c r (length o)) o k o'

-- "with room for each answer"
abbrev pub RoomToBind : (s c o : List ℕ) → Type 0
RoomToBind s c o = Room (judged_statement (read_statement s) (read_catalogue c)) bound_size (length o)

abbrev pub RoomToRun : (s c r o : List ℕ) → Type 0
RoomToRun s c r o = Room (ran_statement (read_statement s) (read_catalogue c) (row.decode r)) row_size (length o)

-- ---- the demand

-- "Take an UPDATE ..": s and c are the images of it and of its catalogue, u its parts, t its table, w its condition
pub record TakenBytes (s c : List ℕ) (u : Update) (t : TableSchema) (w : Expr) : Type 0 where
  pub statement : Read Statement
  pub catalogue : Read Catalogue
  pub is_statement : read_statement s ≡ some statement
  pub is_catalogue : read_catalogue c ≡ some catalogue
  pub taken : Taken statement catalogue u t w

-- "else yields the row they name, which obeys the table too": its image at the front of the output, and the bytes behind it stay
pub record Yields (t : TableSchema) (w : Expr) (u : Update) (old : Row) (o : List ℕ) (k : Reply) (o' : List ℕ) : Type 0 where
  pub new : Row
  pub named : update_row t w u.assignments old ≡ worked new
  pub answered : k.refusal ≡ 0
  pub long : k.length ≡ length (row.encode new)
  pub image : o' ≡ row.encode new ++ drop (length (row.encode new)) o
  pub obeys : row_obeys t new ≡ true

pub record Runs (t : TableSchema) (w : Expr) (u : Update) (old : Row) (o : List ℕ) (k : Reply) (o' : List ℕ) : Type 0 where
  -- "it faults exactly where 01's value rules do"
  pub faults : (k.refusal ≡ 11) ↔ (update_row t w u.assignments old ≡ fault)
  pub else_yields : (k.refusal ≡ 11 → ⊥) → Yields t w u old o k o'

pub record Kept (s c : List ℕ) (u : Update) (t : TableSchema) (w : Expr) : Type 0 where
  -- "It binds exactly if .."
  pub binds : (o o' : List ℕ) (k : Reply) → RoomToBind s c o → BindReplies s c o k o' → ((k.refusal ≡ 0) ↔ UpdateObeys t u.assignments w)
  -- "No second marking exists."
  pub one_marking : (e : Expr) (x y : Marking) → Obeys t e x → Obeys t e y → x ≡ y
  -- "Run on a row that obeys the table, ..": r is the image of the row
  pub runs : (r o o' : List ℕ) (k : Reply) (old : Row) → UpdateObeys t u.assignments w → row.decode r ≡ some old → row_obeys t old ≡ true
      → RoomToRun s c r o → RunReplies s c r o k o' → Runs t w u old o k o'

abbrev pub Demand : Type 0
Demand = (s c : List ℕ) (u : Update) (t : TableSchema) (w : Expr) → TakenBytes s c u t w → Kept s c u t w
