-- `image_bound::values::null_len` meets its contract.
use mathlib.Core.Path.{refl, sym}
use Rattle.image_bound.specs.Spelt.{null_length}
use Rattle.image_bound.proofs.values.null_len.Goals as goal

pub returns : goal.returns
returns c = (refl, sym null_length)
