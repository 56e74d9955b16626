-- `image_select::column_of` meets its contract.
use native.Mathlib.Omega.{arith}
use Rattle.bytes_bundle.specs.Held.{same}
use Rattle.rules.specs.Statements.{column}
use Rattle.image_select.specs.Held.{item_has, item_wide}
use Rattle.image_parts.specs.Layout.{name}
use Rattle.image_select.proofs.column_of.Goals as goal

pub behind-requires : goal.behind-requires
behind-requires c = omega (arith, item_wide c.requires)

pub returns : goal.returns
returns c = λ x h. same name c.behind.ensures (item_has _ (column x) h).content
