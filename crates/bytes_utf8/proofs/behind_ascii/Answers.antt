-- `bytes_utf8::behind_ascii` meets its contract.
use Rattle.std.proofs.Common.{◌∙◌, arith}
use Rattle.bytes_utf8.proofs.Behind.{behind_one}
use Rattle.bytes_utf8.proofs.behind_ascii.Goals as goal

pub loop-rest-preserved : goal.loop-rest-preserved
loop-rest-preserved c =
    let l = c.loop-rest in
    let one = behind_one l.rest.now (omega arith) c.if-is_ascii.ensures in
    (one.0 ∙ l.invariant.0, omega (arith, one.1))
