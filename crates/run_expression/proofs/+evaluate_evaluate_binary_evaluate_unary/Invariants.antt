-- The cycle {evaluate, evaluate_binary, evaluate_unary} meets its contracts, and ends: `evaluate` at i calls the others at i, and they call
-- `evaluate` below i, so that the measure is 2i for them and 2i + 1 for `evaluate`. What each node comes to is in `Steps`.
use Prim.Native.Nat.{◌+◌, ◌*◌}
use Rattle.run_expression.proofs.+evaluate_evaluate_binary_evaluate_unary.Given as goal

abbrev pub decreases-evaluate : goal.decreases-evaluate
decreases-evaluate l = 2 * l.i + 1

abbrev pub decreases-evaluate_binary : goal.decreases-evaluate_binary
decreases-evaluate_binary l = 2 * l.i

abbrev pub decreases-evaluate_unary : goal.decreases-evaluate_unary
decreases-evaluate_unary l = 2 * l.i
