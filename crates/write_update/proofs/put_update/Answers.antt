-- `write_update::put_update` meets its contract: the code, the three parts, and the head in front of them.
use native.Mathlib.Omega.{arith}
use Rattle.bind_where.specs.Short.{known}
use Rattle.write_update.specs.Whole.{code_room, ref_room, list_ready, filter_ready, ends, wrote_update}
use Rattle.write_update.proofs.put_update.Goals as goal

pub put_byte-head-requires : goal.put_byte-head-requires
put_byte-head-requires c = omega (arith, code_room c.requires)

pub put_table-second-requires : goal.put_table-second-requires
put_table-second-requires c = ref_room c.requires c.put_byte-head.ensures

pub put_assignments-third-requires : goal.put_assignments-third-requires
put_assignments-third-requires c = list_ready c.requires c.put_byte-head.ensures c.put_table-second.ensures

pub put_expression-end-requires : goal.put_expression-end-requires
put_expression-end-requires c =
    filter_ready c.requires c.put_byte-head.ensures c.put_table-second.ensures c.put_assignments-third.ensures (known c.type_inv.w)

pub overflow_sub-second : goal.overflow_sub-second
overflow_sub-second c = (ends c.requires c.put_byte-head.ensures c.put_table-second.ensures c.put_assignments-third.ensures c.put_expression-end.ensures).1

pub overflow_sub-third : goal.overflow_sub-third
overflow_sub-third c = (ends c.requires c.put_byte-head.ensures c.put_table-second.ensures c.put_assignments-third.ensures c.put_expression-end.ensures).2

pub overflow_sub-end : goal.overflow_sub-end
overflow_sub-end c = (ends c.requires c.put_byte-head.ensures c.put_table-second.ensures c.put_assignments-third.ensures c.put_expression-end.ensures).3

pub put_head3-requires : goal.put_head3-requires
put_head3-requires c =
    let p = c.requires in
    let e = ends p c.put_byte-head.ensures c.put_table-second.ensures c.put_assignments-third.ensures c.put_expression-end.ensures in
    omega (arith, e.0, e.4, code_room p)

pub returns : goal.returns
returns c =
    wrote_update c.requires c.put_byte-head.ensures c.put_table-second.ensures c.put_assignments-third.ensures c.put_expression-end.ensures c.put_head3.ensures
