-- `bind_expression::run_len` meets its contract.
use mathlib.Core.Path.{ap}
use native.Mathlib.Omega.{arith}
use Rattle.bind_expression.specs.declared.Measured.{Measured}
use Rattle.bind_expression.specs.Small.{run_length}
use Rattle.bind_expression.proofs.run_len.Goals as goal

pub returns : goal.returns
returns c b e = omega (arith, run_length b, ap (λ (x : Measured). x.size) e, c.count_len.ensures.0)
