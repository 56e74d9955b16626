-- `counts::bound_nodes` meets its contract. The invariant: the nodes passed are counted.
use Rattle.write_expression.specs.Counts.{Counting}
use Rattle.write_expression.proofs.counts.bound_nodes.Given as goal

abbrev pub invariant-loop-i : goal.invariant-loop-i
invariant-loop-i l = Counting l.e l.n l.sum l.i
