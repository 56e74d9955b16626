-- `bind_statement::transactions::analyze_rollback` meets its contract: AND CHAIN, then TO SAVEPOINT.
use mathlib.Core.Path.{sym, ◌∙◌}
use Rattle.image_bound.specs.Layout.{bound_statement}
use Rattle.image_bound.specs.Sizes.{rollback_length}
use Rattle.bind_table.specs.Steps.{test_on, test_off, sized_given, sized_refused}
use Rattle.rules.specs.Answers.{given}
use Rattle.rules.specs.Bound.{bound_rollback}
use Rattle.rules.specs.declared.Class.TheVariants.{UnsupportedSql}
use Rattle.bind_statement.specs.Dispatch.{unmarked, rollback_rule}
use Rattle.bind_statement.proofs.transactions.analyze_rollback.Goals as goal

pub returns-then-rollback_chain : goal.returns-then-rollback_chain
returns-then-rollback_chain c = λ cat m n h.
    sized_refused bound_statement
    (rollback_rule cat m n ∙ test_off UnsupportedSql (unmarked n bound_rollback) (sym (c.rollback_chain.ensures m n h) ∙ c.if-rollback_chain.true))

pub returns-then-rollback_savepoint : goal.returns-then-rollback_savepoint
returns-then-rollback_savepoint c = λ cat m n h.
    sized_refused bound_statement
    (rollback_rule cat m n ∙ test_on UnsupportedSql (unmarked n bound_rollback) (sym (c.rollback_chain.ensures m n h) ∙ c.if-rollback_chain.false)
    ∙ test_off UnsupportedSql (given bound_rollback) (sym (c.rollback_savepoint.ensures m n h) ∙ c.if-rollback_savepoint.true))

pub returns : goal.returns
returns c = λ cat m n h.
    sized_given bound_statement
    (rollback_rule cat m n ∙ test_on UnsupportedSql (unmarked n bound_rollback) (sym (c.rollback_chain.ensures m n h) ∙ c.if-rollback_chain.false)
    ∙ test_on UnsupportedSql (given bound_rollback) (sym (c.rollback_savepoint.ensures m n h) ∙ c.if-rollback_savepoint.false))
    (sym rollback_length)
