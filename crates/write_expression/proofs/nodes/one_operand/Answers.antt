-- `nodes::one_operand` meets its contract.
use Rattle.write_expression.specs.Fine.{unary_below}
use Rattle.write_expression.proofs.nodes.one_operand.Goals as goal

pub unary_operator-requires : goal.unary_operator-requires
unary_operator-requires c = (c.requires.0.0, unary_below c.args.k c.args.m c.requires.0.1 c.requires.1)
