-- `image_create::key_marked` meets its contract.
use native.Mathlib.Omega.{arith}
use mathlib.Core.Path.{refl}
use Rattle.rules.specs.Statements.{primary_key}
use Rattle.image_create.specs.Held.{key_wide, constraint_has}
use Rattle.image_create.proofs.key_marked.Goals as goal

pub bounds-c-1 : goal.bounds-c-1
bounds-c-1 c = omega (arith, key_wide c.requires)

pub returns : goal.returns
returns c = λ m names h. ((constraint_has c.args.c.now (primary_key m names) h).key m names refl).mark
