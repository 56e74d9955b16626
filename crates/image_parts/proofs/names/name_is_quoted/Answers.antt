-- `image_parts::names::name_is_quoted` meets its contract.
use native.Mathlib.Omega.{arith}
use Rattle.image_parts.specs.NamesHeld.{name_has, name_wide}
use Rattle.image_parts.proofs.names.name_is_quoted.Goals as goal

pub bounds-n-0 : goal.bounds-n-0
bounds-n-0 c = omega (arith, name_wide c.requires)

pub returns : goal.returns
returns c = λ v h. (name_has _ v h).quoted
