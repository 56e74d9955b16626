-- `text_trim::trim_back` meets its contract.
use Rattle.text_trim.proofs.Laws.{left_done}
use Rattle.text_trim.proofs.trim_back.Goals as goal

pub returns : goal.returns
returns c = left_done _ _ _ _ c.loop-rest.invariant (c.in_default.ensures)
