-- `image_parts::table::has_joins` meets its contract.
use native.Mathlib.Omega.{arith}
use Rattle.image_parts.specs.NamesHeld.{table_has, table_wide}
use Rattle.image_parts.proofs.table.has_joins.Goals as goal

pub bounds-t-0 : goal.bounds-t-0
bounds-t-0 c = omega (arith, table_wide c.requires)

pub returns : goal.returns
returns c = λ v h. (table_has _ v h).mark
