-- `image_parts::table::relation_of` meets its contract.
use native.Mathlib.Omega.{arith}
use Rattle.bytes_bundle.specs.Held.{same}
use Rattle.image_parts.specs.NamesHeld.{table_has, table_wide}
use Rattle.image_parts.specs.Layout.{relation}
use Rattle.image_parts.proofs.table.relation_of.Goals as goal

pub behind-requires : goal.behind-requires
behind-requires c = omega (arith, table_wide c.requires)

pub returns : goal.returns
returns c = λ v h. same relation c.behind.ensures (table_has _ v h).behind
