-- `nodes::put_root` meets its contract.
use mathlib.Core.Path.{refl}
use Rattle.write_expression.specs.Rows.{rooted}
use Rattle.write_expression.proofs.nodes.put_root.Goals as goal

pub returns : goal.returns
returns c = rooted refl c.put_node.ensures
