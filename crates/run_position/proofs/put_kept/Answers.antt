-- `run_position::put_kept` meets its contract.
use mathlib.Core.Path.{ap}
use native.Mathlib.Omega.{arith}
use lib.ListN.{length}
use Rattle.image_bound.specs.Written.{spelt}
use Rattle.bind_where.specs.Short.{known}
use Rattle.run_position.specs.Drawing.{kept_bytes}
use Rattle.run_position.proofs.put_kept.Goals as goal

pub put_all-requires : goal.put_all-requires
put_all-requires c =
    let p = c.requires in
    omega (arith, p.room, ap length (kept_bytes (known c.type_inv.p) p.holds))

pub returns : goal.returns
returns c = λ u h. spelt (kept_bytes (known c.type_inv.p) h) c.put_all.ensures
