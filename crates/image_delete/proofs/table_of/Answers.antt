-- `image_delete::table_of` meets its contract.
use native.Mathlib.Omega.{arith}
use Rattle.bytes_bundle.specs.Held.{same}
use Rattle.rules.specs.Statements.{one, from}
use Rattle.image_delete.specs.Held.{delete_from_has, delete_from_wide}
use Rattle.image_parts.specs.Layout.{table_with_joins}
use Rattle.image_delete.proofs.table_of.Goals as goal

pub behind-requires : goal.behind-requires
behind-requires c = omega (arith, delete_from_wide c.requires)

pub returns : goal.returns
returns c = λ x h. same table_with_joins c.behind.ensures (delete_from_has _ (from (one x)) h).content
