-- `image_update::target_code` meets its contract.
use native.Mathlib.Omega.{arith}
use Rattle.image_update.specs.Held.{target_has, target_wide}
use Rattle.image_update.proofs.target_code.Goals as goal

pub bounds-t-0 : goal.bounds-t-0
bounds-t-0 c = omega (arith, target_wide c.requires)

pub returns : goal.returns
returns c = λ v h. (target_has _ v h).code
