-- `run_position::put_given` meets its contract.
use mathlib.Core.Path.{ap}
use native.Mathlib.Omega.{arith}
use lib.ListN.{length}
use Rattle.image_bound.specs.Written.{spelt}
use Rattle.image_value.specs.Parts.{value}
use Rattle.rules.specs.Bound.{Value}
use Rattle.run_position.specs.Drawing.{comes_some, comes_value}
use Rattle.run_position.proofs.put_given.Goals as goal

pub unwrap-w-requires : goal.unwrap-w-requires
unwrap-w-requires c = let g = c.requires.1 in comes_some c.work_out.result c.work_out.ensures.comes (record { worth = g.worth; comes = g.comes })

pub put_worth-requires : goal.put_worth-requires
put_worth-requires c =
    let g = c.requires.1 in
    omega (arith, g.room, ap (λ (v : Value). length (value.write v)) (comes_value c.work_out.result c.work_out.ensures.comes c.unwrap-w.ensures g.comes))

pub returns : goal.returns
returns c = λ u d. spelt (ap value.write (comes_value c.work_out.result c.work_out.ensures.comes c.unwrap-w.ensures d)) c.put_worth.ensures
