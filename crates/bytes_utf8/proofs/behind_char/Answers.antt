-- `bytes_utf8::behind_char` meets its contract.
use Rattle.std.proofs.Common.{◌∙◌, arith}
use Rattle.bytes_utf8.proofs.Behind.{behind_one, behind_two, behind_three, behind_four, not_two, not_three, not_four, taken}
use Rattle.bytes_utf8.proofs.behind_char.Goals as goal

pub returns-in-len1-up : goal.returns-in-len1-up
returns-in-len1-up c =
    let one = behind_one c.args.s.now (omega arith) c.if-is_ascii.ensures in
    let more = c.behind_more_ascii.ensures in
    (more.same ∙ one.0, omega (arith, more.within, one.1))

pub returns-in-len2-up : goal.returns-in-len2-up
returns-in-len2-up c =
    let s = c.args.s.now in
    taken s c.two.result _ _ c.two.ensures c.then_some.ensures (behind_two s (omega arith))
    (not_two s c.if-is_ascii.ensures (omega arith) (omega arith))

pub returns-in-len3-up : goal.returns-in-len3-up
returns-in-len3-up c =
    let s = c.args.s.now in
    taken s c.three.result _ _ c.three.ensures c.then_some-in-len3-up.ensures (behind_three s (omega arith))
    (not_three s c.if-is_ascii.ensures (omega arith) (omega arith) (omega arith))

pub returns-in-len4-up : goal.returns-in-len4-up
returns-in-len4-up c =
    let s = c.args.s.now in
    taken s c.four.result _ _ c.four.ensures c.then_some-in-len4-up.ensures (behind_four s (omega arith))
    (not_four s c.if-is_ascii.ensures (omega arith) (omega arith))
