-- `image_bound::fields::put_marks` meets its contract: two writes, one behind the other.
use Rattle.bytes_wire.specs.Sets.{then}
use Rattle.image_bound.proofs.fields.put_marks.Goals as goal

pub returns : goal.returns
returns c = search (then)
