-- `image_bound::bundles::put_head3` meets its contract: four writes, one behind the other.
use Rattle.bytes_wire.specs.Sets.{then}
use Rattle.image_bound.specs.Bundles.{head3}
use Rattle.image_bound.proofs.bundles.put_head3.Goals as goal

pub returns : goal.returns
unfolding head3
returns c = search (then)
