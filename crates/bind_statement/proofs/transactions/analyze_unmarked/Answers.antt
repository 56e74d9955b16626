-- `bind_statement::transactions::analyze_unmarked` meets its contract.
use mathlib.Core.Path.{sym, ◌∙◌}
use Rattle.image_bound.specs.Layout.{bound_statement}
use Rattle.bind_table.specs.Steps.{test_on, test_off, sized_given, sized_refused}
use Rattle.rules.specs.Answers.{given}
use Rattle.rules.specs.declared.Class.TheVariants.{UnsupportedSql}
use Rattle.bind_statement.proofs.transactions.analyze_unmarked.Goals as goal

pub returns-then-is_marked : goal.returns-then-is_marked
returns-then-is_marked c = λ m v h l.
    sized_refused bound_statement (test_off UnsupportedSql (given v) (sym (c.is_marked.ensures m h) ∙ c.if-is_marked.true))

pub returns : goal.returns
returns c = λ m v h l.
    sized_given bound_statement (test_on UnsupportedSql (given v) (sym (c.is_marked.ensures m h) ∙ c.if-is_marked.false)) (sym l)
