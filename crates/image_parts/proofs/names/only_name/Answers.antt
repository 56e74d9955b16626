-- `image_parts::names::only_name` meets its contract.
use native.Mathlib.Omega.{arith}
use Rattle.bytes_bundle.specs.Held.{same}
use Rattle.rules.specs.Statements.{plain}
use Rattle.image_parts.specs.NamesHeld.{object_name_has, object_name_wide}
use Rattle.image_parts.specs.Layout.{name}
use Rattle.image_parts.proofs.names.only_name.Goals as goal

pub behind-requires : goal.behind-requires
behind-requires c = omega (arith, object_name_wide c.requires)

pub returns : goal.returns
returns c = λ x h. same name c.behind.ensures (object_name_has _ (plain x) h).content
