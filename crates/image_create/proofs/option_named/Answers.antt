-- `image_create::option_named` meets its contract.
use native.Mathlib.Omega.{arith}
use Rattle.image_create.specs.Held.{option_wide, option_has}
use Rattle.image_create.proofs.option_named.Goals as goal

pub bounds-o-0 : goal.bounds-o-0
bounds-o-0 c = omega (arith, option_wide c.requires)

pub returns : goal.returns
returns c = λ v h. (option_has c.args.o.now v h).named
