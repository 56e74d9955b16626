-- `image_bound::values::text_len` meets its contract.
use native.Mathlib.Omega.{arith}
use mathlib.Core.Path.{refl}
use Rattle.image_bound.specs.Spelt.{text_length}
use Rattle.image_bound.proofs.values.text_len.Goals as goal

pub returns : goal.returns
returns c = (refl, λ s h. omega (arith, h, text_length s))
