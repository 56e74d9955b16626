-- Number 11: on a statement that binds, working out its new row faults or gives a row; there is always a rule. So 11 is an arithmetic fault.
-- Assumes nothing.
use Rattle.std.specs.Prelude.{◌≡◌, Bool, true, false, cond, ◌↔◌, ◌⊎◌, ℕ}
use Rattle.std.proofs.Common.{inl, inr, arith}
use Rattle.std.proofs.Math.Logic.Iff
use Rattle.std.proofs.Math.Option.{Option, none, some, none-ne-some, some-injective}
use Rattle.rules.specs.declared.Class.TheVariants.{UnsupportedSql, InvalidArgument}
use Rattle.rules.specs.Lists.{is_empty}
use Rattle.rules.specs.Answers.{given}
use Rattle.rules.specs.Tables.{Catalogue}
use Rattle.rules.specs.Statements.{Kind, create_table, insert, query, update, delete, begin, commit, rollback, show_tables, other_kind, Statement}
use Rattle.rules.specs.Bound.{BoundStatement, bound_show_transactions}
use Rattle.rules.specs.Trimmed.{is_show_transactions}
use Rattle.rules.specs.Analyze.{resolve_direct_table, analyze_update, analyze_kind, analyze}
use Rattle.rules.specs.Rows.{Row}
use Rattle.rules.specs.Evaluate.{Worked, fault, no_rule}
use Rattle.rules.specs.Obeys.{UpdateObeys}
use Rattle.rules.specs.Heard.{refuses, Read, Running, update_of, runnable, run_outcome}
use Rattle.rules.proofs.Theorems.Steps.{step, step_found, step_past}
use Rattle.rules.proofs.Theorems.Update.{update_exactly}
use Rattle.rules.proofs.Theorems.HasMark.{FaultsOr}
use Rattle.rules.proofs.Theorems.Rows.{update_obeys}
use Rattle.rules.proofs.Theorems.Order.{Asked, Obeying, changed, eleven_exactly}

abbrev RunningObeys : Running → Type 0
RunningObeys r = UpdateObeys r.table r.assignments r.condition

not_running : {r : Running} → none ≡ some r → RunningObeys r
not_running {r} h = absurd (none-ne-some r h)

kind_obeys : (cat : Catalogue) (k : Kind) (b : BoundStatement) (r : Running) → analyze_kind cat k ≡ given b → update_of cat k ≡ some r → RunningObeys r
unfolding analyze_kind analyze_update
kind_obeys cat (create_table c) b r h e = not_running e
kind_obeys cat (insert i) b r h e = not_running e
kind_obeys cat (query q) b r h e = not_running e
kind_obeys cat (update u) b r h e =
    step_past u.from UnsupportedSql _ h
    (λ e₁ h₁.
    step_past u.returning UnsupportedSql _ h₁
    (λ e₂ h₂.
    step_past u.conflict UnsupportedSql _ h₂
    (λ e₃ h₃.
    step_past (is_empty u.assignments) InvalidArgument _ h₃
    (λ e₄ h₄.
    step (resolve_direct_table cat u.table) _ h₄
    (λ t table h₅.
    step_found u.condition UnsupportedSql _ h₅
    (λ w condition h₆.
    let is : record { table = t; assignments = u.assignments; condition = w } ≡ r = some-injective _ r (rw (table, condition) at e) in
    rw (← is) ((update_exactly t u.assignments w).0 (b, h₆))))))))
kind_obeys cat (delete d) b r h e = not_running e
kind_obeys cat (begin marked) b r h e = not_running e
kind_obeys cat (commit chain) b r h e = not_running e
kind_obeys cat (rollback chain savepoint) b r h e = not_running e
kind_obeys cat (show_tables marked) b r h e = not_running e
kind_obeys cat other_kind b r h e = not_running e

-- an UPDATE that binds obeys
pub runnable_obeys : (cat : Catalogue) (s : Statement) (b : BoundStatement) (r : Running) → analyze cat s ≡ given b → runnable cat s ≡ some r → RunningObeys r
unfolding analyze runnable
runnable_obeys cat s b r = go (is_show_transactions s.raw)
  where
    go : (shown : Bool) → cond shown (given bound_show_transactions) (analyze_kind cat s.kind) ≡ given b → cond shown none (update_of cat s.kind) ≡ some r
        → RunningObeys r
    go true h e = not_running e
    go false h e = kind_obeys cat s.kind b r h e

fault_only : {P : Row → Type 0} (w : Worked Row) → FaultsOr w P → (w ≡ fault) ⊎ (w ≡ no_rule) → w ≡ fault
fault_only w f (inl e) = e
fault_only w (inl e) (inr n) = e
fault_only w (inr p) (inr n) = let z : ◌≡◌ {A = ℕ} 0 1 = cc in absurd (omega arith)

module _ (size : Row → ℕ) (room : ℕ) (s : Option (Read Statement)) (c : Option (Read Catalogue)) (row : Option Row) where
  -- 11: "arithmetic fault", and none of 1 to 8, 12 and 10
  pub eleven_is_fault : (run_outcome size room s c row ≡ refuses 11) ↔ ((r : Running) × Asked s c r × ((x : Row) × Obeying r.table row x × (changed r x ≡ fault)))
  eleven_is_fault = Iff.trans (eleven_exactly size room s c row) (
    λ h.
        let a = h.1 in
        let o = h.2 in
        let u = runnable_obeys a.accepted.1 a.accepted.0 a.bound h.0 a.binds a.runs in
        (h.0, a, (o.0, o.1, fault_only (changed h.0 o.0) (update_obeys h.0.table o.0 o.1.1 u) o.2)),
    λ h. (h.0, h.1, (h.2.0, h.2.1, inl h.2.2)),
  )
