-- `statement_limits::names::is_name_within` meets its contract.
use Rattle.rules.specs.Limits.{name_within}
use mathlib.Core.Path.{ap}
use Rattle.statement_limits.proofs.names.is_name_within.Goals as goal

pub returns : goal.returns
returns c = λ v h. ap name_within (c.name_text-text.ensures v h)
