-- `image_value::bool_of` meets its contract.
use native.Mathlib.Omega.{arith}
use Rattle.image_value.specs.Values.{bool_has, bool_wide}
use Rattle.image_value.proofs.bool_of.Goals as goal

pub bounds-v-1 : goal.bounds-v-1
bounds-v-1 c = omega (arith, bool_wide c.requires)

pub returns : goal.returns
returns c = λ b h. (bool_has _ b h).1
