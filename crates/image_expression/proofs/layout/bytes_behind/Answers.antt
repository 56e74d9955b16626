-- `layout::bytes_behind` meets its contract, by the definition of `behind`.
use Rattle.image_expression.specs.Place.{behind}
use Rattle.image_expression.proofs.layout.bytes_behind.Goals as goal

pub returns : goal.returns
unfolding behind
returns c = rw c.count.ensures.0
