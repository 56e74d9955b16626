-- `op_received::received` meets its contract: what is told of both is joined of what is told of each.
use Rattle.std.proofs.Common.{◌≡◌, ℕ, refl, ◌∙◌}
use Rattle.std.proofs.lemmas.Result.{err_from_is_err_and}
use Rattle.bytes_bundle.specs.Held.{held}
use Rattle.op_reply.specs.Leaves.{never_zero}
use Rattle.op_received.specs.Told.{there, absent_first, catalogue_next, statement_last}
use Rattle.op_received.proofs.received.Goals as goal

pub returns-in_err-is_statement : goal.returns-in_err-is_statement
returns-in_err-is_statement c =
    let p = err_from_is_err_and c.from_residual.result c.from_residual.ensures.1 in
    rw (p.1, p.2) (absent_first c.args.s.now c.args.c.now c.in_err-is_statement.ensures (never_zero c.in_err-is_statement.field-0.0))

pub returns-in_err-read_catalogue : goal.returns-in_err-read_catalogue
returns-in_err-read_catalogue c =
    let r = c.from_residual-in_err-read_catalogue in
    let p = err_from_is_err_and r.result r.ensures.1 in
    let e = c.in_err-read_catalogue in
    rw (p.1, p.2) (held (there c.args.s.now c.in_ok-is_statement.ensures) (λ v h. catalogue_next c.args.s.now c.args.c.now h e.ensures (never_zero e.field-0.0)))

pub returns : goal.returns
returns c =
    held (there c.args.s.now c.in_ok-is_statement.ensures) (λ v h.
    c.judged.ensures v h ∙ statement_last c.args.s.now c.args.c.now h c.in_ok-read_catalogue.ensures (let z : ◌≡◌ {A = ℕ} 0 0 = refl in z))
