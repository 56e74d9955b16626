-- `bind_update::update_size` meets its contract.
use native.Mathlib.Omega.{arith}
use Rattle.image_bound.specs.Expression.{bound_expression}
use Rattle.image_bound.specs.Layout as layout
use Rattle.image_bound.specs.Layout.{bound_statement}
use Rattle.bytes_format.proofs.Formats.{list_of}
use Rattle.bind_table.specs.Steps.{sized_given, sized_handed, sized_is, sized_off}
use Rattle.bind_update.specs.Updated.{table_unassigned, table_unfiltered, table_updated, updated_length}
use Rattle.bind_update.proofs.update_size.Goals as goal

pub overflow_add-result-2 : goal.overflow_add-result-2
overflow_add-result-2 c = omega (arith, c.table_size.ensures.few, c.in_ok-assigned.ensures.few)

pub overflow_add-result-3 : goal.overflow_add-result-3
overflow_add-result-3 c =
    omega (arith, c.table_size.ensures.few, c.in_ok-assigned.ensures.few, c.in_ok-filter.ensures.few)

pub returns : goal.returns
returns c = λ v xs x hv hs hx.
    let a = sized_is (list_of 4 layout.assignment) (c.assignments_size.ensures.told v xs hv hs) c.in_ok-assigned.was in
    let f = sized_is bound_expression (c.filter_size.ensures.told v x hv hx) c.in_ok-filter.was in
    sized_given bound_statement (table_updated v xs x a.gives f.gives) (updated_length v a.value f.value (c.table_size.ensures.told v hv) a.long f.long)

pub returns-in_err-filter : goal.returns-in_err-filter
returns-in_err-filter c = λ v xs x hv hs hx.
    let a = sized_is (list_of 4 layout.assignment) (c.assignments_size.ensures.told v xs hv hs) c.in_ok-assigned.was in
    sized_handed bound_statement c.from_residual-in_err-filter.ensures.1 (table_unfiltered v xs x a.gives (sized_off bound_expression (c.filter_size.ensures.told v x hv hx) c.in_err-filter.was))

pub returns-in_err-assigned : goal.returns-in_err-assigned
returns-in_err-assigned c = λ v xs x hv hs hx.
    sized_handed bound_statement c.from_residual.ensures.1 (table_unassigned v xs x (sized_off (list_of 4 layout.assignment) (c.assignments_size.ensures.told v xs hv hs) c.in_err-assigned.was))
