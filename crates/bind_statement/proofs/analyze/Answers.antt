-- `bind_statement::analyze` meets its contract.
use mathlib.Core.Path.{sym, ap, ◌∙◌}
use Rattle.image_bound.specs.Layout.{bound_statement}
use Rattle.image_bound.specs.Sizes.{show_transactions_length}
use Rattle.bind_table.specs.Steps.{sized_given, sized_as}
use Rattle.rules.specs.Trimmed.{is_show_transactions}
use Rattle.bind_statement.specs.Dispatch.{shows_transactions, goes_by_kind}
use Rattle.bind_statement.proofs.analyze.Goals as goal

pub returns-then-is_show_transactions : goal.returns-then-is_show_transactions
returns-then-is_show_transactions c = λ cat v hc h.
    let r = c.is_show_transactions in
    sized_given bound_statement
    (shows_transactions cat v (sym (r.ensures ∙ ap is_show_transactions (c.raw_of.ensures v h)) ∙ c.if-is_show_transactions.true))
    (sym show_transactions_length)

pub returns : goal.returns
returns c = λ cat v hc h.
    let r = c.is_show_transactions in
    sized_as bound_statement
    (goes_by_kind cat v (sym (r.ensures ∙ ap is_show_transactions (c.raw_of.ensures v h)) ∙ c.if-is_show_transactions.false))
    (c.analyze_kind.ensures cat v hc h)
