-- `image_statement::content_ok` meets its contract: each answer is that of `content_ok` after the same tests.
use mathlib.Core.Path.{sym, ◌∙◌}
use native.Mathlib.Omega.{arith}
use Rattle.image_expression.specs.Reader.{content_falls, content_outside, content_text, content_plain}
use Rattle.image_expression.proofs.reader.content_ok.Goals as goal

pub returns-then-to-from : goal.returns-then-to-from
returns-then-to-from c =
    let a = c.args in
    sym (content_falls a.s.now a.i (omega arith))

pub returns-then-bytes_behind-to : goal.returns-then-bytes_behind-to
returns-then-bytes_behind-to c =
    let a = c.args in
    sym (content_outside a.s.now a.i (omega arith) (omega arith))

pub returns-then-kind-lt4 : goal.returns-then-kind-lt4
returns-then-kind-lt4 c =
    let a = c.args in
    c.is_utf8.ensures ∙ rw c.text.ensures (sym (content_text a.s.now a.i (omega arith) (omega arith) (omega arith)))

pub returns : goal.returns
returns c =
    let a = c.args in
    rw (c.start-from.ensures.0, c.end-to.ensures.0) (sym (content_plain a.s.now a.i (omega arith) (omega arith) (omega arith)))
