-- The cycle {mark, mark_binary, mark_null_test, mark_unary} meets its contracts, and ends: `mark` at i calls the others at i, and they call
-- `mark` below i, so that the measure is 2i for them and 2i + 1 for `mark`. What each node's answer is made of is in `Steps`.
use Prim.Native.Nat.{◌+◌, ◌*◌}
use Rattle.bind_expression.proofs.+mark_mark_binary_mark_null_test_mark_unary.Given as goal

abbrev pub decreases-mark : goal.decreases-mark
decreases-mark l = 2 * l.i + 1

abbrev pub decreases-mark_binary : goal.decreases-mark_binary
decreases-mark_binary l = 2 * l.i

abbrev pub decreases-mark_null_test : goal.decreases-mark_null_test
decreases-mark_null_test l = 2 * l.i

abbrev pub decreases-mark_unary : goal.decreases-mark_unary
decreases-mark_unary l = 2 * l.i
