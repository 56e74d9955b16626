-- `layout::span` meets its contract, by the definition of `node_at`.
use Rattle.image_expression.specs.Place.{node_at}
use Rattle.image_expression.proofs.layout.span.Goals as goal

pub returns : goal.returns
unfolding node_at
returns c = (c.two.ensures.is, c.two.ensures.fits)
