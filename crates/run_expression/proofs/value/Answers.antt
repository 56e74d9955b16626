-- `run_expression::value` meets its contract: the root is the last node.
use Rattle.run_expression.proofs.Places.{known, root}
use Rattle.run_expression.proofs.Steps.{whole}
use Rattle.run_expression.proofs.value.Goals as goal

pub overflow_sub-nodes : goal.overflow_sub-nodes
overflow_sub-nodes c = (root (known c.type_inv.e) c.requires _ c.nodes.ensures).0

pub evaluate-requires : goal.evaluate-requires
evaluate-requires c = (root (known c.type_inv.e) c.requires _ c.nodes.ensures).1

pub returns-clause-comes : goal.returns-clause-comes
returns-clause-comes c = whole c.args.t.now c.args.e.now c.args.r.now (known c.type_inv.e) _ c.nodes.ensures _ c.evaluate.ensures.works
