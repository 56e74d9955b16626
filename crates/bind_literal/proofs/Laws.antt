-- What the functions of this crate are proved by: what the nodes' kinds tell, and where the last node and an operand are.
-- Assumes nothing.
use Rattle.image_expression.specs.Laws.{some_node, last_operand}
use Rattle.bind_literal.specs.Scalars.{integer_is, integer_bad, leaf_tells, leaf_other, sign_tells, no_sign_tells, last_tells, image, last_node, known, text_short}

pub ruleset numbers = (integer_is, integer_bad)

pub ruleset leaves = (leaf_tells, leaf_other)

pub ruleset signs = (sign_tells, no_sign_tells, last_operand, known)

pub ruleset wholes = (last_tells, image, last_node, some_node, text_short, known)
