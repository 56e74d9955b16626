-- `write_select::put_select` meets its contract: the table, the columns, the filter, and last what stands before them.
use native.Mathlib.Omega.{arith}
use Rattle.image_bound.specs.Beside.{wrote_long}
use Rattle.write_select.specs.Writes.{room_for_table, room_for_columns, room_for_filter, room_for_head, select_wrote}
use Rattle.write_select.proofs.put_select.Goals as goal

pub put_table-columns-requires : goal.put_table-columns-requires
put_table-columns-requires c = room_for_table c.requires

pub items_of-requires : goal.items_of-requires
items_of-requires c = c.requires.within.is

pub put_projection-filter-requires : goal.put_projection-filter-requires
put_projection-filter-requires c =
    let w = c.requires in
    room_for_columns w (c.put_table-columns.ensures w.schema w.holds) c.items_of.result.now c.items_of.ensures

pub condition_of-requires : goal.condition_of-requires
condition_of-requires c = c.requires.within.is

pub put_filter-end-requires : goal.put_filter-end-requires
put_filter-end-requires c =
    let w = c.requires in
    let a = c.put_table-columns.ensures w.schema w.holds in
    let b = c.put_projection-filter.ensures w.schema w.value.items w.columns w.holds (c.items_of.ensures w.value w.reads) w.projects in
    room_for_filter w a b c.condition_of.result.now c.condition_of.ensures

pub overflow_sub-columns : goal.overflow_sub-columns
overflow_sub-columns c =
    let w = c.requires in
    let a = c.put_table-columns.ensures w.schema w.holds in
    let b = c.put_projection-filter.ensures w.schema w.value.items w.columns w.holds (c.items_of.ensures w.value w.reads) w.projects in
    let d = c.put_filter-end.ensures w.schema w.value.condition w.filter w.holds (c.condition_of.ensures w.value w.reads) w.filters in
    let r = room_for_head w a b d in
    omega (arith, r.0, r.1, r.2)

pub overflow_sub-filter : goal.overflow_sub-filter
overflow_sub-filter c =
    let w = c.requires in
    let a = c.put_table-columns.ensures w.schema w.holds in
    let b = c.put_projection-filter.ensures w.schema w.value.items w.columns w.holds (c.items_of.ensures w.value w.reads) w.projects in
    let d = c.put_filter-end.ensures w.schema w.value.condition w.filter w.holds (c.condition_of.ensures w.value w.reads) w.filters in
    let r = room_for_head w a b d in
    omega (arith, r.0, r.1, r.2)

pub overflow_sub-end : goal.overflow_sub-end
overflow_sub-end c =
    let w = c.requires in
    let a = c.put_table-columns.ensures w.schema w.holds in
    let b = c.put_projection-filter.ensures w.schema w.value.items w.columns w.holds (c.items_of.ensures w.value w.reads) w.projects in
    let d = c.put_filter-end.ensures w.schema w.value.condition w.filter w.holds (c.condition_of.ensures w.value w.reads) w.filters in
    let r = room_for_head w a b d in
    omega (arith, r.0, r.1, r.2)

pub put_head3-requires : goal.put_head3-requires
put_head3-requires c =
    let w = c.requires in
    let a = c.put_table-columns.ensures w.schema w.holds in
    let b = c.put_projection-filter.ensures w.schema w.value.items w.columns w.holds (c.items_of.ensures w.value w.reads) w.projects in
    let d = c.put_filter-end.ensures w.schema w.value.condition w.filter w.holds (c.condition_of.ensures w.value w.reads) w.filters in
    let r = room_for_head w a b d in
    omega (arith, r.3)

pub put_byte-requires : goal.put_byte-requires
put_byte-requires c =
    let w = c.requires in
    let a = c.put_table-columns.ensures w.schema w.holds in
    let b = c.put_projection-filter.ensures w.schema w.value.items w.columns w.holds (c.items_of.ensures w.value w.reads) w.projects in
    let d = c.put_filter-end.ensures w.schema w.value.condition w.filter w.holds (c.condition_of.ensures w.value w.reads) w.filters in
    let r = room_for_head w a b d in
    omega (arith, r.3, wrote_long c.put_head3.ensures)

pub returns : goal.returns
returns c = λ v x cs f hv hx p h.
    select_wrote v cs f (c.put_table-columns.ensures v hv) (c.put_projection-filter.ensures v x.items cs hv (c.items_of.ensures x hx) p)
    (c.put_filter-end.ensures v x.condition f hv (c.condition_of.ensures x hx) h) c.put_head3.ensures c.put_byte.ensures
