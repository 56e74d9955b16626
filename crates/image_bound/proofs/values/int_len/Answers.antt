-- `image_bound::values::int_len` meets its contract.
use mathlib.Core.Path.{refl, sym}
use Rattle.image_bound.specs.Spelt.{int_length}
use Rattle.image_bound.proofs.values.int_len.Goals as goal

pub returns : goal.returns
returns c = (refl, λ z. sym (int_length z))
