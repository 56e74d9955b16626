-- `bind_select::select_size` meets its contract.
use native.Mathlib.Omega.{arith}
use Rattle.bytes_format.proofs.Formats.{list_of}
use Rattle.image_bound.specs.Columns.{bound_column_ref}
use Rattle.image_bound.specs.Layout.{bound_statement}
use Rattle.bind_table.specs.Steps.{sized_given, sized_handed, sized_is, sized_off}
use Rattle.bind_select.specs.Selects.{Filter, unprojected, unfiltered, filtered, selected_length}
use Rattle.bind_select.specs.Within.{select_items, select_condition}
use Rattle.bind_select.proofs.select_size.Goals as goal

pub items_of-requires : goal.items_of-requires
items_of-requires c = c.requires.1.is

pub projection_size-requires : goal.projection_size-requires
projection_size-requires c = let p = c.requires in (p.0, select_items p.1 c.items_of.result.now c.items_of.ensures)

pub condition_of-requires : goal.condition_of-requires
condition_of-requires c = c.requires.1.is

pub filter_if_there-requires : goal.filter_if_there-requires
filter_if_there-requires c = let p = c.requires in (p.0, select_condition p.1 c.condition_of.result.now c.condition_of.ensures)

pub table_size-requires : goal.table_size-requires
table_size-requires c = c.requires.0

pub overflow_add-result : goal.overflow_add-result
overflow_add-result c = omega (arith, c.table_size.ensures.few)

pub overflow_add-result-2 : goal.overflow_add-result-2
overflow_add-result-2 c = omega (arith, c.table_size.ensures.few, c.in_ok-projection.ensures.few)

pub overflow_add-result-3 : goal.overflow_add-result-3
overflow_add-result-3 c =
    omega (arith, c.table_size.ensures.few, c.in_ok-projection.ensures.few, c.in_ok-filter.ensures.few)

pub returns : goal.returns
returns c = λ v x hv h.
    let p = sized_is (list_of 4 bound_column_ref) (c.projection_size.ensures.told v x.items hv (c.items_of.ensures x h)) c.in_ok-projection.was in
    let f = sized_is Filter (c.filter_if_there.ensures.told v x.condition hv (c.condition_of.ensures x h)) c.in_ok-filter.was in
    sized_given bound_statement (filtered v x p.gives f.gives) (selected_length v p.value f.value (c.table_size.ensures.told v hv) p.long f.long)

pub returns-in_err-filter : goal.returns-in_err-filter
returns-in_err-filter c = λ v x hv h.
    let p = sized_is (list_of 4 bound_column_ref) (c.projection_size.ensures.told v x.items hv (c.items_of.ensures x h)) c.in_ok-projection.was in
    sized_handed bound_statement c.from_residual-in_err-filter.ensures.1
    (unfiltered v x p.gives (sized_off Filter (c.filter_if_there.ensures.told v x.condition hv (c.condition_of.ensures x h)) c.in_err-filter.was))

pub returns-in_err-projection : goal.returns-in_err-projection
returns-in_err-projection c = λ v x hv h.
    sized_handed bound_statement c.from_residual.ensures.1
    (unprojected v x (sized_off (list_of 4 bound_column_ref) (c.projection_size.ensures.told v x.items hv (c.items_of.ensures x h)) c.in_err-projection.was))
