-- `op_bind::bind` meets its contract: each return is one case of the answer.
use mathlib.Core.Path.{sym, ap, ◌∙◌}
use Prim.Native.Nat.{ℕ}
use Rattle.std.proofs.Common.{refl}
use Rattle.std.proofs.lemmas.Result.{err_from_is_err_and}
use Rattle.bytes_bundle.specs.Held.{is_held}
use Rattle.image_bound.specs.Layout.{bound_statement}
use Rattle.bind_table.specs.Steps.{sized_off}
use Rattle.bind_statement.specs.Within.{statement_within_lem}
use Rattle.op_reply.specs.Leaves.{reply, never_zero, leaves_as_it_was}
use Rattle.op_received.specs.Received.{Received, both_received}
use Rattle.op_put.specs.Binds.{refused_before, refused_by_rule}
use Rattle.op_bind.proofs.bind.Goals.{In_ok-received}
use Rattle.op_bind.proofs.bind.Goals as goal

pub returns-in_err-received : goal.returns-in_err-received
returns-in_err-received c =
    let p = err_from_is_err_and c.from_residual.result c.from_residual.ensures.1 in
    let e = c.in_err-received in
    rw (p.1, p.2) (leaves_as_it_was (refused_before _ _ _ e.ensures (never_zero e.field-0.0)) refl)

-- once both are received
taken : (c : In_ok-received) → Received c.args.statement.now c.args.catalogue.now
taken c = both_received _ _ (sym c.in_ok-received.ensures)

pub analyze-requires : goal.analyze-requires
analyze-requires c = let h = taken (goal.at.analyze-requires c).In_ok-received in (is_held h.lists, statement_within_lem h.holds h.within)

pub put-requires : goal.put-requires
put-requires c =
    let h = taken (goal.at.put-requires c).In_ok-received in
    record { both = h; is = sym c.in_ok-size.was ∙ c.analyze.ensures h.tables h.value h.lists h.holds }

pub returns-in_err-size : goal.returns-in_err-size
returns-in_err-size c =
    let h = taken (goal.at.returns-in_err-size c).In_ok-received in
    let e = sized_off bound_statement (c.analyze.ensures h.tables h.value h.lists h.holds) c.in_err-size.was in
    let p = err_from_is_err_and c.from_residual-in_err-size.result c.from_residual-in_err-size.ensures.1 in
    rw p.1 (leaves_as_it_was (refused_by_rule _ _ _ h e) (ap (λ (k : ℕ). reply k 0) p.2))
