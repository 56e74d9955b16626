-- `nodes::signs_number` meets its contract.
use borrow.Author.Tests.{lt-ltb, le-ltb}
use Rattle.write_expression.proofs.nodes.signs_number.Goals as goal

pub returns-then-k-ge14 : goal.returns-then-k-ge14
returns-then-k-ge14 c = rw (le-ltb _ _ c.if-k-ge14.true)

pub returns : goal.returns
returns c = rw (lt-ltb _ _ c.if-k-ge14.false, c.kind.ensures)
