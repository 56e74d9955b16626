-- `write_delete::put_delete` meets its contract: the table, the filter behind it, and last what stands before both.
use native.Mathlib.Omega.{arith}
use Rattle.image_bound.specs.Beside.{wrote_long}
use Rattle.bind_where.specs.Filters.{filter_given}
use Rattle.bind_where.specs.Short.{known}
use Rattle.write_delete.specs.Writes.{room_for_table, room_for_filter, room_for_head, delete_wrote}
use Rattle.write_delete.proofs.put_delete.Goals as goal

pub put_table-filter-requires : goal.put_table-filter-requires
put_table-filter-requires c = room_for_table c.requires

pub put_expression-end-requires : goal.put_expression-end-requires
put_expression-end-requires c =
    let w = c.requires in
    room_for_filter w (c.put_table-filter.ensures w.schema w.holds) (known c.type_inv.e)

pub overflow_sub-filter : goal.overflow_sub-filter
overflow_sub-filter c =
    let w = c.requires in
    let a = c.put_table-filter.ensures w.schema w.holds in
    let b = c.put_expression-end.ensures w.schema w.tree w.filter w.holds w.reads (filter_given w.schema w.tree w.bound) in
    let r = room_for_head w a b in
    omega (arith, r.0, r.1)

pub overflow_sub-end : goal.overflow_sub-end
overflow_sub-end c =
    let w = c.requires in
    let a = c.put_table-filter.ensures w.schema w.holds in
    let b = c.put_expression-end.ensures w.schema w.tree w.filter w.holds w.reads (filter_given w.schema w.tree w.bound) in
    let r = room_for_head w a b in
    omega (arith, r.0, r.1)

pub put_head2-requires : goal.put_head2-requires
put_head2-requires c =
    let w = c.requires in
    let a = c.put_table-filter.ensures w.schema w.holds in
    let b = c.put_expression-end.ensures w.schema w.tree w.filter w.holds w.reads (filter_given w.schema w.tree w.bound) in
    let r = room_for_head w a b in
    omega (arith, r.2)

pub put_byte-requires : goal.put_byte-requires
put_byte-requires c =
    let w = c.requires in
    let a = c.put_table-filter.ensures w.schema w.holds in
    let b = c.put_expression-end.ensures w.schema w.tree w.filter w.holds w.reads (filter_given w.schema w.tree w.bound) in
    let r = room_for_head w a b in
    omega (arith, r.2, wrote_long c.put_head2.ensures)

pub returns : goal.returns
returns c = λ v x b hv hx h.
    delete_wrote v b (c.put_table-filter.ensures v hv) (c.put_expression-end.ensures v x b hv hx (filter_given v x h)) c.put_head2.ensures
    c.put_byte.ensures
