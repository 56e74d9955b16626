-- What `run_bytes` answers, case by case, as the code finds out: what binding refuses but 9, then 12; the rest is told of the row (`run_update`).
-- Assumes nothing.
use Rattle.std.specs.Prelude.{◌≡◌, false, List, ℕ}
use Rattle.std.proofs.Math.Path.{refl, ap}
use Rattle.std.proofs.Common.{sym, ◌∙◌, true≢false}
use Rattle.std.proofs.Math.Option.{Option, none, some}
use Rattle.bytes_bundle.specs.Bundle.{is_there}
use Rattle.image_row.specs.Layout as row-layout
use Rattle.rules.specs.declared.Refusal.{Refusal}
use Rattle.rules.specs.Tables.{Catalogue}
use Rattle.rules.specs.Statements.{Statement}
use Rattle.rules.specs.Bound.{BoundStatement}
use Rattle.rules.specs.Answers.{Answer, given, refused}
use Rattle.rules.specs.Analyze.{analyze}
use Rattle.rules.specs.Heard.{Outcome, refuses, answers, next, class_no, heard, received, fitted, Running, runnable, asked, ran_on, ran_statement, run_outcome}
use Rattle.op_reply.specs.Leaves.{refusal}
use Rattle.op_received.specs.Entry.{read_statement, read_catalogue, row_size, run_bytes}
use Rattle.op_received.specs.Told.{told_of_both}
use Rattle.op_received.specs.Received.{Received}
use Rattle.run_update.specs.OnRow.{row_bytes, update_bytes}

-- a statement that was received and is bound
pub record BoundBy (s c : List ℕ) : Type 0 where
  pub both : Received s c
  pub value : BoundStatement
  pub gives : analyze both.tables both.value ≡ given value

-- ---- the statement

module _ (s c r : List ℕ) (room : ℕ) where
  -- from each of its steps on
  abbrev from_asked : Option Running → Outcome (List ℕ)
  from_asked o = row_bytes (fitted row_size room (next (asked o) (ran_on (row-layout.decode r))))

  abbrev from_bound : Option Running → Answer BoundStatement → Outcome (List ℕ)
  from_bound o a = row_bytes (fitted row_size room (next (heard a) (λ b. next (asked o) (ran_on (row-layout.decode r)))))

  abbrev from_received : Outcome (Statement × Catalogue) → Outcome (List ℕ)
  from_received o =
      row_bytes (fitted row_size room (next o (λ p. next (heard (analyze p.1 p.0)) (λ b. next (asked (runnable p.1 p.0)) (ran_on (row-layout.decode r))))))

  run_is : run_bytes s c r room ≡ from_received (received (read_statement s) (read_catalogue c))
  unfolding run_bytes run_outcome ran_statement
  run_is = refl

  -- 5 to 8
  pub run_refused_before : {k : ℕ} → k ≡ told_of_both s c → (k ≡ 0 → ⊥) → run_bytes s c r room ≡ refuses k
  unfolding told_of_both
  run_refused_before {k} e n = run_is ∙ go (received (read_statement s) (read_catalogue c)) e
    where
      go : (o : Outcome (Statement × Catalogue)) → k ≡ refusal o → from_received o ≡ refuses k
      go (refuses j) e = ap refuses (sym e)
      go (answers p) e = absurd (n e)

  module _ (h : Received s c) where
    run_received : run_bytes s c r room ≡ from_bound (runnable h.tables h.value) (analyze h.tables h.value)
    run_received = run_is ∙ ap from_received h.asked

    -- 1 to 4
    pub run_refused_by_rule : {q : Refusal} → analyze h.tables h.value ≡ refused q → run_bytes s c r room ≡ refuses (class_no q.class)
    run_refused_by_rule e = run_received ∙ ap (from_bound (runnable h.tables h.value)) e

  module _ (b : BoundBy s c) where
    abbrev change : Option Running
    change = runnable b.both.tables b.both.value

    run_bound : run_bytes s c r room ≡ from_asked change
    run_bound = run_received b.both ∙ ap (from_bound change) b.gives

    -- 12
    pub run_no_update : is_there change ≡ false → run_bytes s c r room ≡ refuses 12
    run_no_update e = run_bound ∙ go change e
      where
        go : (o : Option Running) → is_there o ≡ false → from_asked o ≡ refuses 12
        go none e = refl
        go (some u) e = absurd (true≢false e)

    -- an UPDATE over its table
    pub run_update : {u : Running} → change ≡ some u → run_bytes s c r room ≡ update_bytes u r room
    unfolding update_bytes
    run_update e = run_bound ∙ ap from_asked e
