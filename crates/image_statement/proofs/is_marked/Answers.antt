-- `image_statement::is_marked` meets its contract.
use native.Mathlib.Omega.{arith}
use Rattle.bytes_bundle.specs.Values.{lone_mark}
use Rattle.image_statement.specs.Held.{mark_wide}
use Rattle.image_statement.proofs.is_marked.Goals as goal

pub bounds-b-0 : goal.bounds-b-0
bounds-b-0 c = omega (arith, mark_wide c.requires)

pub returns : goal.returns
returns c = λ m h. (lone_mark c.args.b.now h).is
