-- `layout::count` meets its contract, by the definition of `node_count`.
use Rattle.image_expression.specs.Place.{node_count}
use Rattle.image_expression.proofs.layout.count.Goals as goal

pub returns : goal.returns
unfolding node_count
returns c = (c.two.ensures.is, c.two.ensures.fits)
