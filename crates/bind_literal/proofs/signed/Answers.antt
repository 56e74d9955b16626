-- `bind_literal::signed` meets its contract.
use Rattle.image_expression.specs.Laws.{last_operand}
use Rattle.bind_literal.specs.Scalars.{known}
use Rattle.bind_literal.proofs.signed.Goals as goal

pub overflow_sub-below : goal.overflow_sub-below
overflow_sub-below c = (last_operand (known c.type_inv.e) c.requires.0 c.args.k c.requires.1.0 c.requires.1.1.0).0
