-- `image_parts::names::object_name_code` meets its contract.
use native.Mathlib.Omega.{arith}
use Rattle.image_parts.specs.NamesHeld.{object_name_has, object_name_wide}
use Rattle.image_parts.proofs.names.object_name_code.Goals as goal

pub bounds-o-0 : goal.bounds-o-0
bounds-o-0 c = omega (arith, object_name_wide c.requires)

pub returns : goal.returns
returns c = λ v h. (object_name_has _ v h).code
