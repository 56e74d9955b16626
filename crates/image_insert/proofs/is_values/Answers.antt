-- `image_insert::is_values` meets its contract.
use native.Mathlib.Omega.{arith}
use Rattle.image_insert.specs.Held.{body_wide, body_has}
use Rattle.image_insert.proofs.is_values.Goals as goal

pub bounds-b-0 : goal.bounds-b-0
bounds-b-0 c = omega (arith, body_wide c.requires)

pub returns : goal.returns
returns c = λ v h. (body_has c.args.b.now v h).code
