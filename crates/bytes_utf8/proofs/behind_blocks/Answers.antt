-- `bytes_utf8::behind_blocks` meets its contract.
use Rattle.std.proofs.Common.{sym, ap, ◌∙◌, arith}
use Rattle.bytes_utf8.specs.Decide.{is_utf8}
use Rattle.bytes_utf8.proofs.Behind.{behind_block}
use Rattle.bytes_utf8.proofs.behind_blocks.Goals as goal

pub loop-block-preserved : goal.loop-block-preserved
loop-block-preserved g c =
    let l = c.loop-block in
    let parts = c.in-Some.ensures.cases in
    let e = rw parts.0 at (sym c.if-is_ascii_block.ensures) in
    (ap is_utf8 parts.1 ∙ behind_block _ _ e ∙ l.invariant.0, omega (arith, parts.2))
