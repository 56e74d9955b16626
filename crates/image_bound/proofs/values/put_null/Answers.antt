-- `image_bound::values::put_null` meets its contract: a NULL is its code.
use Rattle.image_bound.specs.Written.{spelt}
use Rattle.image_bound.specs.Spelt.{null_spelt}
use Rattle.image_bound.proofs.values.put_null.Goals as goal

pub returns : goal.returns
returns c = spelt null_spelt (search)
