-- `image_statement::rollback_chain` meets its contract.
use native.Mathlib.Omega.{arith}
use Rattle.image_statement.specs.Held.{two_marks_lem, marks_wide}
use Rattle.image_statement.proofs.rollback_chain.Goals as goal

pub bounds-b-0 : goal.bounds-b-0
bounds-b-0 c = omega (arith, marks_wide c.requires)

pub returns : goal.returns
returns c = λ m n h. (two_marks_lem c.args.b.now m n h).first
