-- `image_bound::fields::put_type_and_null` meets its contract: two writes, one behind the other.
use Rattle.bytes_wire.specs.Sets.{then}
use Rattle.image_bound.proofs.fields.put_type_and_null.Goals as goal

pub returns : goal.returns
returns c = search (then)
