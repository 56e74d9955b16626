-- `bytes_utf8::behind_more_ascii` meets its contract.
use Rattle.std.proofs.Common.{◌∙◌, arith}
use Rattle.bytes_utf8.proofs.Behind.{behind_one}
use Rattle.bytes_utf8.proofs.behind_more_ascii.Goals as goal

pub returns-in-len1-up-clause-same : goal.returns-in-len1-up-clause-same
returns-in-len1-up-clause-same c =
    let one = behind_one c.args.s.now (omega arith) c.if-is_ascii.ensures in
    c.behind_ascii.ensures.same ∙ one.0
