-- `image_select::item_code` meets its contract.
use native.Mathlib.Omega.{arith}
use Rattle.image_select.specs.Held.{item_has, item_wide}
use Rattle.image_select.proofs.item_code.Goals as goal

pub bounds-i-0 : goal.bounds-i-0
bounds-i-0 c = omega (arith, item_wide c.requires)

pub returns : goal.returns
returns c = λ v h. (item_has _ v h).code
