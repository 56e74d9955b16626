-- `counts::bound_nodes` meets its contract. The invariant: the nodes passed are counted.
use native.Mathlib.Omega.{arith}
use Rattle.image_expression.specs.Place.{node_at}
use Rattle.write_expression.specs.Counts.{weight_few, counting, counting_node, counting_few, counting_on, counting_all}
use Rattle.write_expression.proofs.Known.{known}
use Rattle.write_expression.proofs.counts.bound_nodes.Goals as goal

pub loop-i-init : goal.loop-i-init
loop-i-init c = counting c.requires c.nodes-n.ensures

pub own_nodes-sum-requires : goal.own_nodes-sum-requires
own_nodes-sum-requires c = counting_node c.loop-i.invariant c.loop-i-test.true

pub overflow_add-sum : goal.overflow_add-sum
overflow_add-sum c =
    let l = c.loop-i in
    let e = c.args.e.now in
    omega (arith, counting_few l.invariant, c.own_nodes-sum.ensures, weight_few (node_at e) l.i)

pub loop-i-preserved : goal.loop-i-preserved
loop-i-preserved c = counting_on c.loop-i.invariant c.loop-i-test.true c.own_nodes-sum.ensures

pub returns : goal.returns
returns c =
    let k = c.loop-i.invariant in
    record { few = omega (arith, counting_few k, k.here, k.count); told = counting_all (known c.type_inv.e) k c.loop-i-test.false }
