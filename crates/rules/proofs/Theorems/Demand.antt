-- Demand 3, proved: an UPDATE binds exactly if it obeys, no second marking exists, and it runs exactly as 01's value rules say.
-- Assumes nothing.
use Rattle.std.specs.Prelude.{◌≡◌, true, ◌↔◌, ◌⊎◌, ℕ}
use Rattle.std.proofs.Common.{◌∙◌, ap, inl, inr}
use Rattle.std.proofs.Math.Option.{some}
use Rattle.rules.specs.Tables.{TableSchema, Catalogue}
use Rattle.rules.specs.Statements.{Expr, Update, Statement}
use Rattle.rules.specs.Names.{simple_name}
use Rattle.rules.specs.Obeys.{UpdateObeys}
use Rattle.rules.specs.Analyze.{relation_name, resolve_direct_table}
use Rattle.rules.specs.Rows.{Row, row_obeys}
use Rattle.rules.specs.Evaluate.{Worked, worked, fault, update_row}
use Rattle.rules.specs.Heard.{Read, refuses, answers, runnable, worked_out, ran_statement, run_outcome}
use Rattle.rules.specs.Demand.{Taken, Answers, RunsExactly, Demand}
use Rattle.rules.proofs.Theorems.Marked.{unique}
use Rattle.rules.proofs.Theorems.Steps.{roomy}
use Rattle.rules.proofs.Theorems.Update.{update_exactly, taken_analyzed, binds_exactly}
use Rattle.rules.proofs.Theorems.HasMark.{FaultsOr}
use Rattle.rules.proofs.Theorems.Values.{comes_to}
use Rattle.rules.proofs.Theorems.Rows.{update_obeys}

-- ---- what a caller hears of a row that was worked out, where it is a fault or a row

module _ {w : Worked Row} {P : Row → Type 0} where
  heard_fault : FaultsOr w P → (worked_out w ≡ refuses 11) ↔ (w ≡ fault)
  heard_fault (inl e) = (λ h. e, ap worked_out)
  heard_fault (inr p) = (λ h. cc, ap worked_out)

  heard_row : FaultsOr w P → (new : Row) → (worked_out w ≡ answers new) ↔ (w ≡ worked new)
  heard_row (inl e) new = (λ h. cc, ap worked_out)
  heard_row (inr p) new = (λ h. cc, ap worked_out)

  heard_either : FaultsOr w P → (worked_out w ≡ refuses 11) ⊎ Answers (worked_out w)
  heard_either (inl e) = inl (ap worked_out e)
  heard_either (inr p) = inr (p.0, ap worked_out p.1)

-- ---- the run of the UPDATE that is taken

module _ {s : Read Statement} {c : Read Catalogue} {u : Update} {t : TableSchema} {w : Expr} (taken : Taken s c u t w) where
  -- it is not refused before the row is worked out
  taken_ran : UpdateObeys t u.assignments w → (row : Row) → row_obeys t row ≡ true
      → ran_statement (some s) (some c) (some row) ≡ worked_out (update_row t w u.assignments row)
  unfolding ran_statement runnable resolve_direct_table relation_name simple_name
  taken_ran o row obeys =
      let b = (update_exactly t u.assignments w).1 o in
      rw (
        taken.statement_is_within,
        taken.catalogue_is_within,
        taken.clear_of_eight,
        taken_analyzed taken,
        b.1,
        taken.not_show_transactions,
        taken.is_update,
        taken.one_table,
        taken.known_table,
        taken.has_where,
        obeys,
      )

-- "Run on a row that obeys the table, it faults exactly where 01's value rules do, else yields the row they name, which obeys the table too."
pub runs_exactly : (s : Read Statement) (c : Read Catalogue) (u : Update) (t : TableSchema) (w : Expr) → Taken s c u t w
    → (size : Row → ℕ) (room : ℕ) → RunsExactly s c u t w size room
unfolding run_outcome
runs_exactly s c u t w taken size room o row obeys h =
    let e : run_outcome size room (some s) (some c) (some row) ≡ worked_out (update_row t w u.assignments row) =
    roomy size room (ran_statement (some s) (some c) (some row)) h ∙ taken_ran taken o row obeys in
    let r = update_obeys t row obeys o in
    record {
      faults = rw e (heard_fault r);
      yields = λ new. rw e (heard_row r new);
      obeys = λ new a. comes_to r ((heard_row r new).0 (rw e at a));
      nothing_else = rw e (heard_either r);
    }

-- Demand 3.
pub demand : Demand
demand s c u t w taken = (binds_exactly s c u t w taken, (λ e x y p q. unique t p q), runs_exactly s c u t w taken)
