-- `bind_delete::delete_size` meets its contract.
use Rattle.image_bound.specs.Expression.{bound_expression}
use Rattle.image_bound.specs.Layout.{bound_statement}
use Rattle.bind_where.specs.There.{There, absent, present, there_is, there_reads, there_short}
use Rattle.bind_table.specs.Steps.{sized_given, sized_refused, sized_handed, sized_is, sized_off}
use Rattle.bind_delete.specs.Deletes.{no_condition, unfiltered, filtered, deleted_length}
use Rattle.bind_delete.proofs.delete_size.Goals.{Else-not-has_condition}
use Rattle.bind_delete.proofs.delete_size.Goals as goal

-- past the test there is a condition
there : (c : Else-not-has_condition) → There c.args.e.now
there c = present c.args.e.now c.has_condition.ensures c.requires.1.is (c.if-not-has_condition.false)

pub returns-then-not-has_condition : goal.returns-then-not-has_condition
returns-then-not-has_condition c = λ v o hv h.
    let e = c.args.e.now in
    sized_refused bound_statement (no_condition v o (absent e c.has_condition.ensures (c.if-not-has_condition.true) o h))

pub filter_size-requires : goal.filter_size-requires
filter_size-requires c =
    let p = c.requires in
    (p.0, there_short (there (goal.at.filter_size-requires c).Else-not-has_condition) p.1)

pub returns-in_err-n : goal.returns-in_err-n
returns-in_err-n c = λ v o hv h.
    let w = there (goal.at.returns-in_err-n c).Else-not-has_condition in
    sized_handed bound_statement c.from_residual.ensures.1
    (unfiltered v o (there_is w o h) (sized_off bound_expression (c.filter_size.ensures.told v w.value hv (there_reads w)) c.in_err-n.was))

pub returns : goal.returns
returns c = λ v o hv h.
    let w = there (goal.at.returns c).Else-not-has_condition in
    let s = sized_is bound_expression (c.filter_size.ensures.told v w.value hv (there_reads w)) c.in_ok-n.was in
    sized_given bound_statement (filtered v o (there_is w o h) s.gives) (deleted_length v s.value (c.table_size.ensures.told v hv) s.long)
