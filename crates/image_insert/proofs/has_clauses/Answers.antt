-- `image_insert::has_clauses` meets its contract.
use native.Mathlib.Omega.{arith}
use Rattle.image_insert.specs.Held.{source_wide, source_has}
use Rattle.image_insert.proofs.has_clauses.Goals as goal

pub bounds-s-0 : goal.bounds-s-0
bounds-s-0 c = omega (arith, source_wide c.requires)

pub returns : goal.returns
returns c = λ v h. (source_has c.args.s.now v h).mark
