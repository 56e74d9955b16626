-- `layout::kind` meets its contract, by the definition of `node_at`.
use mathlib.Core.Path.{refl}
use Rattle.image_expression.specs.Place.{node_at}
use Rattle.image_expression.proofs.layout.kind.Goals as goal

pub returns : goal.returns
unfolding node_at
returns c = refl
