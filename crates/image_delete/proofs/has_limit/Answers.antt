-- `image_delete::has_limit` meets its contract.
use native.Mathlib.Omega.{arith}
use mathlib.Core.Path.{◌∙◌}
use Rattle.image_delete.specs.Held.{delete_has, delete_wide}
use Rattle.image_delete.proofs.has_limit.Goals as goal

pub mark_in-requires : goal.mark_in-requires
mark_in-requires c = omega (arith, delete_wide c.requires)

pub returns : goal.returns
returns c = λ v h. c.mark_in.ensures ∙ (delete_has _ v h).marks.limit
