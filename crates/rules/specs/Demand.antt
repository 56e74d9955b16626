-- Demand 3, in its own words, over plain values. `proofs/Theorems/Demand.antt` proves it.
-- "Take an UPDATE (by 01's dispatch) of one known table, with a WHERE, at least one assignment, no unsupported clause, within the limits,
-- clear of number 8 and with room for each answer. It binds exactly if some marking of its expressions with types and may-be-null meets 01's
-- rule at every node, the WHERE is BOOL, and the targets are plain distinct columns outside the key, each given a fitting value, none that
-- may be null where the column forbids it. No second marking exists. Run on a row that obeys the table, it faults exactly where 01's value
-- rules do, else yields the row they name, which obeys the table too."
-- Assumes nothing: these are definitions.
use Rattle.std.specs.Prelude.{◌≡◌, true, false, ◌⊎◌, ◌↔◌, ℕ, ◌≤◌}
use Rattle.std.proofs.Math.Option.{some}
use Rattle.rules.specs.Lists.{is_empty}
use Rattle.rules.specs.Tables.{TableSchema, Catalogue, table_by_name}
use Rattle.rules.specs.Statements.{Name, plain, direct, Expr, Update, update, Statement}
use Rattle.rules.specs.Bound.{BoundStatement}
use Rattle.rules.specs.Names.{canonical}
use Rattle.rules.specs.Trimmed.{is_show_transactions}
use Rattle.rules.specs.Obeys.{Obeys, UpdateObeys}
use Rattle.rules.specs.Marking.{Marking}
use Rattle.rules.specs.Rows.{Row, row_obeys}
use Rattle.rules.specs.Evaluate.{worked, fault, update_row}
use Rattle.rules.specs.Limits.{statement_within, catalogue_within, names_beyond_ascii}
use Rattle.rules.specs.Heard.{Read, Outcome, refuses, answers, judged_statement, bind_outcome, ran_statement, run_outcome}

-- the UPDATE that is taken: its parts u, its table t and its condition w
pub record Taken (s : Read Statement) (c : Read Catalogue) (u : Update) (t : TableSchema) (w : Expr) : Type 0 where
  pub not_show_transactions : is_show_transactions s.value.raw ≡ false
  pub is_update : s.value.kind ≡ update u
  pub name : Name
  pub one_table : u.table ≡ record { joins = false; relation = direct false (plain name) }
  pub known_table : table_by_name c.value (canonical name) ≡ some t
  pub has_where : u.condition ≡ some w
  pub has_assignment : is_empty u.assignments ≡ false
  pub no_from : u.from ≡ false
  pub no_returning : u.returning ≡ false
  pub no_conflict : u.conflict ≡ false
  pub statement_is_within : statement_within s.size s.value ≡ true
  pub catalogue_is_within : catalogue_within c.size c.value ≡ true
  pub clear_of_eight : names_beyond_ascii s.value ≡ false

-- an outcome that answers
abbrev pub Answers : {A : Type 0} → Outcome A → Type 0
Answers {A} o = (a : A) × (o ≡ answers a)

-- room for the answer, if there is one: `size` is the number of bytes of its image
abbrev pub Room : {A : Type 0} → Outcome A → (A → ℕ) → ℕ → Type 0
Room {A} o size room = (a : A) → o ≡ answers a → size a ≤ room

module _ (s : Read Statement) (c : Read Catalogue) (u : Update) (t : TableSchema) (w : Expr) where
  -- "It binds exactly if .."
  abbrev pub BindsExactly : (BoundStatement → ℕ) → ℕ → Type 0
  BindsExactly size room =
      Room (judged_statement (some s) (some c)) size room → (Answers (bind_outcome size room (some s) (some c)) ↔ UpdateObeys t u.assignments w)

  -- "No second marking exists."
  abbrev pub OneMarking : Type 0
  OneMarking = (e : Expr) (x y : Marking) → Obeys t e x → Obeys t e y → x ≡ y

  -- "it faults exactly where 01's value rules do, else yields the row they name, which obeys the table too"
  pub record Runs (size : Row → ℕ) (room : ℕ) (row : Row) : Type 0 where
    pub faults : (run_outcome size room (some s) (some c) (some row) ≡ refuses 11) ↔ (update_row t w u.assignments row ≡ fault)
    pub yields : (new : Row) → (run_outcome size room (some s) (some c) (some row) ≡ answers new) ↔ (update_row t w u.assignments row ≡ worked new)
    pub obeys : (new : Row) → run_outcome size room (some s) (some c) (some row) ≡ answers new → row_obeys t new ≡ true
    pub nothing_else : (run_outcome size room (some s) (some c) (some row) ≡ refuses 11) ⊎ Answers (run_outcome size room (some s) (some c) (some row))

  -- "Run on a row that obeys the table, .."
  abbrev pub RunsExactly : (Row → ℕ) → ℕ → Type 0
  RunsExactly size room =
      UpdateObeys t u.assignments w → (row : Row) → row_obeys t row ≡ true → Room (ran_statement (some s) (some c) (some row)) size room
      → Runs size room row

-- the demand
abbrev pub Demand : Type 0
Demand =
    (s : Read Statement) (c : Read Catalogue) (u : Update) (t : TableSchema) (w : Expr) → Taken s c u t w
    → ((size : BoundStatement → ℕ) (room : ℕ) → BindsExactly s c u t w size room)
    × OneMarking s c u t w
    × ((size : Row → ℕ) (room : ℕ) → RunsExactly s c u t w size room)
