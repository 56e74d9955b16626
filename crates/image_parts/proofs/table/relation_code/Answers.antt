-- `image_parts::table::relation_code` meets its contract.
use native.Mathlib.Omega.{arith}
use Rattle.image_parts.specs.NamesHeld.{relation_has, relation_wide}
use Rattle.image_parts.proofs.table.relation_code.Goals as goal

pub bounds-s-0 : goal.bounds-s-0
bounds-s-0 c = omega (arith, relation_wide c.requires)

pub returns : goal.returns
returns c = λ v h. (relation_has _ v h).code
