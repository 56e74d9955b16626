-- `layout::start` meets its contract: a content starts where the one before it ends.
use mathlib.Core.Path.{sym, ◌∙◌}
use native.Mathlib.Omega.{arith}
use Rattle.image_expression.specs.Place.{start_at}
use Rattle.image_expression.specs.Layout.{start_next}
use Rattle.image_expression.proofs.layout.start.Goals as goal

pub returns-then-i-eq0 : goal.returns-then-i-eq0
unfolding start_at
returns-then-i-eq0 c = (rw c.if-i-eq0.true, omega arith)

pub returns : goal.returns
returns c =
    let a = c.args in
    (c.end.ensures.0 ∙ sym (start_next a.s.now a.i (omega arith)), c.end.ensures.1)
