-- `image_delete::from_code` meets its contract.
use native.Mathlib.Omega.{arith}
use Rattle.image_delete.specs.Held.{delete_from_has, delete_from_wide}
use Rattle.image_delete.proofs.from_code.Goals as goal

pub bounds-f-0 : goal.bounds-f-0
bounds-f-0 c = omega (arith, delete_from_wide c.requires)

pub returns : goal.returns
returns c = λ v h. (delete_from_has _ v h).code
