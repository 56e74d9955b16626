-- `image_bound::values::bool_len` meets its contract.
use mathlib.Core.Path.{refl, sym}
use Rattle.image_bound.specs.Spelt.{bool_length}
use Rattle.image_bound.proofs.values.bool_len.Goals as goal

pub returns : goal.returns
returns c = (refl, λ b. sym (bool_length b))
