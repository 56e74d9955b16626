-- `bind_select::filter_if_there` meets its contract.
use mathlib.Core.Path.{refl, ◌∙◌}
use native.Mathlib.Omega.{arith}
use Rattle.bind_where.specs.There.{There, absent, present, there_is, there_reads, there_short}
use Rattle.bind_table.specs.Steps.{sized_given}
use Rattle.bind_select.specs.Selects.{Filter, filter_absent, filter_sized}
use Rattle.bind_select.proofs.filter_if_there.Goals.{Else-not-has_condition}
use Rattle.bind_select.proofs.filter_if_there.Goals as goal

-- past the test there is a condition
there : (c : Else-not-has_condition) → There c.args.e.now
there c = present c.args.e.now c.has_condition.ensures c.requires.1.is (c.if-not-has_condition.false)

pub returns-then-not-has_condition : goal.returns-then-not-has_condition
returns-then-not-has_condition c =
    let e = c.args.e.now in record { few = omega arith; told = λ v o hv h. sized_given Filter (filter_absent v o (absent e c.has_condition.ensures (c.if-not-has_condition.true) o h)) refl }

pub filter_size-requires : goal.filter_size-requires
filter_size-requires c = let p = c.requires in (p.0, there_short (there (goal.at.filter_size-requires c).Else-not-has_condition) p.1)

pub returns : goal.returns
returns c =
    let w = there (goal.at.returns c).Else-not-has_condition in record { few = c.filter_size.ensures.few; told = λ v o hv h. c.filter_size.ensures.told v w.value hv (there_reads w) ∙ filter_sized v o (there_is w o h) }
