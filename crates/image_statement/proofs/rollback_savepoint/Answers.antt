-- `image_statement::rollback_savepoint` meets its contract.
use native.Mathlib.Omega.{arith}
use Rattle.image_statement.specs.Held.{two_marks_lem, marks_wide}
use Rattle.image_statement.proofs.rollback_savepoint.Goals as goal

pub bounds-b-1 : goal.bounds-b-1
bounds-b-1 c = omega (arith, marks_wide c.requires)

pub returns : goal.returns
returns c = λ m n h. (two_marks_lem c.args.b.now m n h).second
