-- `image_select::has_features` meets its contract.
use native.Mathlib.Omega.{arith}
use mathlib.Core.Path.{◌∙◌}
use Rattle.image_select.specs.Held.{select_has, select_marks}
use Rattle.image_select.proofs.has_features.Goals as goal

pub mark_in-requires : goal.mark_in-requires
mark_in-requires c = omega (arith, select_marks c.requires)

pub returns : goal.returns
returns c = λ v h. c.mark_in.ensures ∙ (select_has _ v h).features.is
