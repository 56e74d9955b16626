-- `image_bound::bundles::put_head2` meets its contract: three writes, one behind the other.
use Rattle.bytes_wire.specs.Sets.{then}
use Rattle.image_bound.specs.Bundles.{head2}
use Rattle.image_bound.proofs.bundles.put_head2.Goals as goal

pub returns : goal.returns
unfolding head2
returns c = search (then)
