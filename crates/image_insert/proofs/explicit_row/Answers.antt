-- `image_insert::explicit_row` meets its contract.
use native.Mathlib.Omega.{arith}
use mathlib.Core.Path.{refl}
use Rattle.rules.specs.Statements.{values}
use Rattle.image_insert.specs.Held.{values_wide, body_has}
use Rattle.image_insert.proofs.explicit_row.Goals as goal

pub bounds-b-1 : goal.bounds-b-1
bounds-b-1 c = omega (arith, values_wide c.requires)

pub returns : goal.returns
returns c = λ m rows h. ((body_has c.args.b.now (values m rows) h).given m rows refl).mark
