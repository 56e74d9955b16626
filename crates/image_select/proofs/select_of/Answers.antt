-- `image_select::select_of` meets its contract.
use native.Mathlib.Omega.{arith}
use Rattle.bytes_bundle.specs.Held.{same}
use Rattle.rules.specs.Statements.{plain_select}
use Rattle.image_select.specs.Held.{body_has, body_wide}
use Rattle.image_parts.specs.Layout.{select}
use Rattle.image_select.proofs.select_of.Goals as goal

pub behind-requires : goal.behind-requires
behind-requires c = omega (arith, body_wide c.requires)

pub returns : goal.returns
returns c = λ x h. same select c.behind.ensures (body_has _ (plain_select x) h).content
