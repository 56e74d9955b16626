-- `layout::text` meets its contract, by the definition of `node_at`.
use native.Mathlib.Omega.{arith}
use Rattle.image_expression.specs.Place.{behind}
use Rattle.image_expression.specs.Layout.{text_part}
use Rattle.image_expression.proofs.layout.text.Goals as goal

pub slice_bounds-result-end : goal.slice_bounds-result-end
unfolding behind
slice_bounds-result-end c = omega arith

pub returns : goal.returns
returns c =
    text_part c.args.s.now c.args.i _ _ _ c.count.ensures.0 c.start.ensures.0 c.end.ensures.0
