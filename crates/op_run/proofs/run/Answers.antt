-- `op_run::run` meets its contract: each return is one case of the answer.
use mathlib.Core.Path.{sym, ap, ◌∙◌}
use Prim.Native.Nat.{ℕ}
use Rattle.std.proofs.Common.{refl}
use Rattle.std.proofs.lemmas.Result.{err_from_is_err_and}
use Rattle.bytes_bundle.specs.Held.{is_held}
use Rattle.image_bound.specs.Layout.{bound_statement}
use Rattle.bind_table.specs.Steps.{sized_is, sized_off}
use Rattle.bind_statement.specs.Within.{statement_within_lem}
use Rattle.op_reply.specs.Leaves.{reply, never_zero, leaves_as_it_was}
use Rattle.op_received.specs.Received.{Received, both_received}
use Rattle.op_run.specs.Runs.{run_refused_before, run_refused_by_rule}
use Rattle.op_run.proofs.run.Goals.{In_ok-received}
use Rattle.op_run.proofs.run.Goals as goal

pub returns-in_err-received : goal.returns-in_err-received
returns-in_err-received c =
    let p = err_from_is_err_and c.from_residual.result c.from_residual.ensures.1 in
    let e = c.in_err-received in
    rw (p.1, p.2) (leaves_as_it_was (run_refused_before _ _ _ _ e.ensures (never_zero e.field-0.0)) refl)

-- once both are received
taken : (c : In_ok-received) → Received c.args.statement.now c.args.catalogue.now
taken c = both_received _ _ (sym c.in_ok-received.ensures)

pub analyze-requires : goal.analyze-requires
analyze-requires c = let h = taken (goal.at.analyze-requires c).In_ok-received in (is_held h.lists, statement_within_lem h.holds h.within)

pub run_bound-requires : goal.run_bound-requires
run_bound-requires c =
    let h = taken (goal.at.run_bound-requires c).In_ok-received in
    let z = sized_is bound_statement (c.analyze.ensures h.tables h.value h.lists h.holds) c.in_ok-analyze.was in
    record { both = h; value = z.value; gives = z.gives }

pub returns : goal.returns
returns c = c.run_bound.ensures

pub returns-in_err-analyze : goal.returns-in_err-analyze
returns-in_err-analyze c =
    let h = taken (goal.at.returns-in_err-analyze c).In_ok-received in
    let e = sized_off bound_statement (c.analyze.ensures h.tables h.value h.lists h.holds) c.in_err-analyze.was in
    let p = err_from_is_err_and c.from_residual-in_err-analyze.result c.from_residual-in_err-analyze.ensures.1 in
    rw p.1 (leaves_as_it_was (run_refused_by_rule _ _ _ _ h e) (ap (λ (k : ℕ). reply k 0) p.2))
