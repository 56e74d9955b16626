-- `layout::end` meets its contract, by the definition of `end_at`.
use Rattle.image_expression.specs.Place.{end_at}
use Rattle.image_expression.proofs.layout.end.Goals as goal

pub returns : goal.returns
unfolding end_at
returns c = (c.two.ensures.is, c.two.ensures.fits)
