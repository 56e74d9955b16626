-- `image_create::option_kind` meets its contract.
use native.Mathlib.Omega.{arith}
use Rattle.image_create.specs.Held.{option_wide, option_has}
use Rattle.image_create.proofs.option_kind.Goals as goal

pub bounds-o-1 : goal.bounds-o-1
bounds-o-1 c = omega (arith, option_wide c.requires)

pub returns : goal.returns
returns c = λ v h. (option_has c.args.o.now v h).kind
