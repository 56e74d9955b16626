-- `image_select::from_code` meets its contract.
use native.Mathlib.Omega.{arith}
use Rattle.image_select.specs.Held.{from_has, from_wide}
use Rattle.image_select.proofs.from_code.Goals as goal

pub bounds-f-0 : goal.bounds-f-0
bounds-f-0 c = omega (arith, from_wide c.requires)

pub returns : goal.returns
returns c = λ v h. (from_has _ v h).code
