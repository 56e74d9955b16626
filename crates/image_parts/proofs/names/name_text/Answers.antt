-- `image_parts::names::name_text` meets its contract.
use native.Mathlib.Omega.{arith}
use mathlib.Core.Path.{◌∙◌}
use Rattle.image_parts.specs.NamesHeld.{name_has, name_wide}
use Rattle.image_parts.proofs.names.name_text.Goals as goal

pub behind-requires : goal.behind-requires
behind-requires c = omega (arith, name_wide c.requires)

pub returns : goal.returns
returns c = λ v h. c.behind.ensures ∙ (name_has _ v h).text
