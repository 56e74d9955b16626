-- `bind_literal::insert_literal` meets its contract: an operator of two operands is no literal.
use mathlib.Core.Path.{ap}
use Rattle.std.specs.Prelude.{Err}
use Rattle.bind_literal.specs.Scalars.{two_tells, last_tells, known}
use Rattle.bind_literal.proofs.insert_literal.Goals as goal

pub returns-then-k-ge16 : goal.returns-then-k-ge16
returns-then-k-ge16 c =
    let a = c.args in
    last_tells (known c.type_inv.e)
    (rw c.nodes-last.ensures at (two_tells a.e.now _ _ c.kind-k.ensures c.if-k-ge16.true (ap Err c.into.ensures)))
