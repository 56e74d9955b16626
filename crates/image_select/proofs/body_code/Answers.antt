-- `image_select::body_code` meets its contract.
use native.Mathlib.Omega.{arith}
use Rattle.image_select.specs.Held.{body_has, body_wide}
use Rattle.image_select.proofs.body_code.Goals as goal

pub bounds-b-0 : goal.bounds-b-0
bounds-b-0 c = omega (arith, body_wide c.requires)

pub returns : goal.returns
returns c = λ v h. (body_has _ v h).code
