-- `image_create::is_primary_key` meets its contract.
use native.Mathlib.Omega.{arith}
use Rattle.image_create.specs.Held.{constraint_wide, constraint_has}
use Rattle.image_create.proofs.is_primary_key.Goals as goal

pub bounds-c-0 : goal.bounds-c-0
bounds-c-0 c = omega (arith, constraint_wide c.requires)

pub returns : goal.returns
returns c = λ v h. (constraint_has c.args.c.now v h).code
