-- `image_value::type_code` meets its contract.
use native.Mathlib.Omega.{arith}
use Rattle.image_value.specs.Values.{value_code, value_wide}
use Rattle.image_value.proofs.type_code.Goals as goal

pub bounds-v-0 : goal.bounds-v-0
bounds-v-0 c = omega (arith, value_wide c.requires)

pub returns : goal.returns
returns c = λ x h. value_code _ x h
