-- `op_received::read_statement` meets its contract: no statement, or what is told of one.
use Rattle.std.proofs.Common.{◌∙◌}
use Rattle.std.proofs.lemmas.Result.{err_from_is_err_and}
use Rattle.bytes_bundle.specs.Held.{held}
use Rattle.op_reply.specs.Leaves.{never_zero}
use Rattle.op_received.specs.Told.{there, absent_told, judged_told}
use Rattle.op_received.proofs.read_statement.Goals as goal

pub returns-in_err-is_statement : goal.returns-in_err-is_statement
returns-in_err-is_statement c =
    let p = err_from_is_err_and c.from_residual.result c.from_residual.ensures.1 in
    rw (p.1, p.2) (absent_told c.args.s.now c.in_err-is_statement.ensures (never_zero c.in_err-is_statement.field-0.0))

pub returns : goal.returns
returns c = held (there c.args.s.now c.in_ok-is_statement.ensures) (λ v h. c.judged.ensures v h ∙ judged_told c.args.s.now h)
