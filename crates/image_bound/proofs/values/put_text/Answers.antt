-- `image_bound::values::put_text` meets its contract: two writes, one behind the other.
use Rattle.bytes_wire.specs.Sets.{then}
use Rattle.image_bound.specs.Written.{spelt}
use Rattle.image_bound.specs.Spelt.{text_spelt}
use Rattle.image_bound.proofs.values.put_text.Goals as goal

pub returns : goal.returns
returns c = spelt (text_spelt _) (search (then))
