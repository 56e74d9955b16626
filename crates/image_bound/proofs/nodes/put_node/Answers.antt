-- `image_bound::nodes::put_node` meets its contract: four writes, one behind the other.
use Rattle.bytes_wire.specs.Sets.{then}
use Rattle.image_bound.specs.Nodes.{node_bytes}
use Rattle.image_bound.proofs.nodes.put_node.Goals as goal

pub returns : goal.returns
unfolding node_bytes
returns c =
    then (then c.put_byte-a.ensures c.put_marks-b.ensures) (then c.put-c.ensures c.put.ensures)
