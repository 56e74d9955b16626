-- `run_position::kept_len` meets its contract.
use mathlib.Core.Path.{ap}
use lib.ListN.{length}
use Rattle.bind_where.specs.Short.{known}
use Rattle.run_position.specs.Drawing.{kept_bytes}
use Rattle.run_position.proofs.kept_len.Goals as goal

pub returns : goal.returns
returns c = λ u h. ap length (kept_bytes (known c.type_inv.p) h)
