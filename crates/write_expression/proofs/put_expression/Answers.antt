-- `put_expression` meets its contract: the count, the rows and the contents, one behind the other.
use native.Mathlib.Omega.{arith}
use Rattle.bytes_wire.specs.Le.{Bytes}
use Rattle.image_expression.specs.Laws.{some_node}
use Rattle.write_expression.proofs.Known.{known}
use Rattle.write_expression.proofs.Whole.{image, count_room, rows_room, root_writable, result_room, wrote_whole}
use Rattle.write_expression.proofs.put_expression.Goals as goal

pub bound_nodes-n-requires : goal.bound_nodes-n-requires
bound_nodes-n-requires c = image c.requires

pub put_count-rows-requires : goal.put_count-rows-requires
put_count-rows-requires c =
    let w = c.requires in
    let y : Bytes c.args.e.now = known c.type_inv.e in
    let n = c.bound_nodes-n.ensures in
    count_room w y n.few n.told

pub overflow_mul-content : goal.overflow_mul-content
overflow_mul-content c =
    let w = c.requires in
    let y : Bytes c.args.e.now = known c.type_inv.e in
    let n = c.bound_nodes-n.ensures in
    omega (arith, rows_room w y n.few n.told c.put_count-rows.ensures)

pub overflow_add-content : goal.overflow_add-content
overflow_add-content c =
    let w = c.requires in
    let y : Bytes c.args.e.now = known c.type_inv.e in
    let n = c.bound_nodes-n.ensures in
    omega (arith, rows_room w y n.few n.told c.put_count-rows.ensures)

pub nodes-last-requires : goal.nodes-last-requires
nodes-last-requires c = image c.requires

pub overflow_sub-last : goal.overflow_sub-last
overflow_sub-last c =
    let y : Bytes c.args.e.now = known c.type_inv.e in
    omega (arith, c.nodes-last.ensures, some_node y (image c.requires))

pub write-r-requires : goal.write-r-requires
write-r-requires c =
    let w = c.requires in
    let y : Bytes c.args.e.now = known c.type_inv.e in
    let n = c.bound_nodes-n.ensures in
    root_writable w y n.few n.told c.put_count-rows.ensures c.nodes-last.ensures

pub overflow_add-result : goal.overflow_add-result
overflow_add-result c =
    let w = c.requires in
    let y : Bytes c.args.e.now = known c.type_inv.e in
    let n = c.bound_nodes-n.ensures in
    omega (arith, result_room w y n.few n.told c.put_count-rows.ensures c.nodes-last.ensures c.write-r.ensures)

pub returns : goal.returns
returns c v x b h g z =
    let w = c.requires in
    let y : Bytes c.args.e.now = known c.type_inv.e in
    let n = c.bound_nodes-n.ensures in
    wrote_whole w y n.few n.told c.put_count-rows.ensures c.nodes-last.ensures c.write-r.ensures b (record { schema = v; holds = h; tree = x; reads = g; bound = z })
