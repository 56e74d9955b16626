-- `text_names::same_but_case` meets its contract.
use Rattle.std.proofs.Common.{rules}
use Rattle.text_names.proofs.Laws.{told_folded}
use Rattle.text_names.proofs.same_but_case.Goals as goal

pub returns : goal.returns
returns c = search (rules, told_folded)
