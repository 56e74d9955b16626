-- `write_select::put_filter` meets its contract.
use mathlib.Core.Path.{ap}
use Rattle.image_bound.specs.Written.{spelt}
use Rattle.bind_where.specs.Filters.{filter_given}
use Rattle.bind_where.specs.Short.{known}
use Rattle.bind_where.specs.There.{There, absent, present, there_is, there_reads}
use Rattle.bind_select.specs.Selects.{Filter}
use Rattle.write_select.specs.Writes.{unfiltered_wrote, filter_there, filter_ready}
use Rattle.write_select.proofs.put_filter.Goals.{Else-not-has_condition}
use Rattle.write_select.proofs.put_filter.Goals as goal

-- past the test there is a condition
there : (c : Else-not-has_condition) → There c.args.e.now
there c = present c.args.e.now c.has_condition.ensures c.requires.short.is (c.if-not-has_condition.false)

pub returns-then-not-has_condition : goal.returns-then-not-has_condition
returns-then-not-has_condition c = λ v o x hv ho h.
    unfiltered_wrote v (absent c.args.e.now c.has_condition.ensures (c.if-not-has_condition.true) o ho) h

pub put_expression-requires : goal.put_expression-requires
put_expression-requires c = filter_ready c.requires (there (goal.at.put_expression-requires c).Else-not-has_condition) (known c.type_inv.e)

pub returns : goal.returns
returns c = λ v o x hv ho h.
    let w = there (goal.at.returns c).Else-not-has_condition in
    let g = filter_there v w.value (there_is w o ho) h in
    spelt (ap Filter.write g.is) (c.put_expression.ensures v w.value g.value hv (there_reads w) (filter_given v w.value g.bound))
