-- `image_select::body_of` meets its contract.
use native.Mathlib.Omega.{arith}
use Rattle.bytes_bundle.specs.Held.{same}
use Rattle.image_select.specs.Held.{query_has, query_wide}
use Rattle.image_parts.specs.Layout.{query_body}
use Rattle.image_select.proofs.body_of.Goals as goal

pub behind-requires : goal.behind-requires
behind-requires c = omega (arith, query_wide c.requires)

pub returns : goal.returns
returns c = λ v h. same query_body c.behind.ensures (query_has _ v h).behind
