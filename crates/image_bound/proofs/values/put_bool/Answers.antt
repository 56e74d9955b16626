-- `image_bound::values::put_bool` meets its contract: two writes, one behind the other.
use Rattle.bytes_wire.specs.Sets.{then}
use Rattle.image_bound.specs.Written.{spelt}
use Rattle.image_bound.specs.Spelt.{bool_spelt}
use Rattle.image_bound.proofs.values.put_bool.Goals as goal

pub returns : goal.returns
returns c = spelt (bool_spelt _) (search (then))
