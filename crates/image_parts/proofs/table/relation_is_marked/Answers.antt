-- `image_parts::table::relation_is_marked` meets its contract.
use native.Mathlib.Omega.{arith}
use Rattle.image_parts.specs.NamesHeld.{direct_has, direct_wide}
use Rattle.image_parts.proofs.table.relation_is_marked.Goals as goal

pub bounds-s-1 : goal.bounds-s-1
bounds-s-1 c = omega (arith, direct_wide c.requires)

pub returns : goal.returns
returns c = λ m n h. (direct_has _ m n h).mark
