-- `catalogue_limits::is_column_within` meets its contract.
use Rattle.rules.specs.Limits.{name_within}
use mathlib.Core.Path.{ap}
use Rattle.catalogue_limits.proofs.is_column_within.Goals as goal

pub returns : goal.returns
returns c = λ v h. ap name_within (c.column_name-name.ensures v h)
