-- `image_select::table_of` meets its contract.
use native.Mathlib.Omega.{arith}
use Rattle.bytes_bundle.specs.Held.{same}
use Rattle.rules.specs.Statements.{one}
use Rattle.image_select.specs.Held.{from_has, from_wide}
use Rattle.image_parts.specs.Layout.{table_with_joins}
use Rattle.image_select.proofs.table_of.Goals as goal

pub behind-requires : goal.behind-requires
behind-requires c = omega (arith, from_wide c.requires)

pub returns : goal.returns
returns c = λ x h. same table_with_joins c.behind.ensures (from_has _ (one x) h).content
