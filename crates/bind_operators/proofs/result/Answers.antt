-- `bind_operators::result` meets its contract.
use Rattle.rules.specs.Marking.{operator_rule}
use Rattle.bind_operators.proofs.Table.{table_at}
use Rattle.bind_operators.proofs.result.Goals as goal

pub returns : goal.returns
unfolding operator_rule
returns c =
    let a = c.args in
    table_at a.o a.left a.right _ _ _
