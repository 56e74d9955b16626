-- The cycle {write, write_binary, write_null_test, write_unary} meets its contracts, and ends: `write` at i calls the others at i, and they call
-- `write` below i, so that the measure is 2i for them and 2i + 1 for `write`. What each node's bytes are made of is in `Steps`.
use Prim.Native.Nat.{◌+◌, ◌*◌}
use Rattle.write_expression.proofs.+write_write_binary_write_null_test_write_unary.Given as goal

abbrev pub decreases-write : goal.decreases-write
decreases-write l = 2 * l.i + 1

abbrev pub decreases-write_binary : goal.decreases-write_binary
decreases-write_binary l = 2 * l.i

abbrev pub decreases-write_null_test : goal.decreases-write_null_test
decreases-write_null_test l = 2 * l.i

abbrev pub decreases-write_unary : goal.decreases-write_unary
decreases-write_unary l = 2 * l.i
