-- `image_update::has_from` meets its contract.
use native.Mathlib.Omega.{arith}
use mathlib.Core.Path.{◌∙◌}
use Rattle.image_update.specs.Held.{update_has, update_wide}
use Rattle.image_update.proofs.has_from.Goals as goal

pub mark_in-requires : goal.mark_in-requires
mark_in-requires c = omega (arith, update_wide c.requires)

pub returns : goal.returns
returns c = λ v h. c.mark_in.ensures ∙ (update_has _ v h).marks.from
