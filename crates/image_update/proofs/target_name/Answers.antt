-- `image_update::target_name` meets its contract.
use native.Mathlib.Omega.{arith}
use Rattle.bytes_bundle.specs.Held.{same}
use Rattle.rules.specs.Statements.{target}
use Rattle.image_update.specs.Held.{target_has, target_wide}
use Rattle.image_parts.specs.Layout.{object_name}
use Rattle.image_update.proofs.target_name.Goals as goal

pub behind-requires : goal.behind-requires
behind-requires c = omega (arith, target_wide c.requires)

pub returns : goal.returns
returns c = λ x h. same object_name c.behind.ensures (target_has _ (target x) h).content
