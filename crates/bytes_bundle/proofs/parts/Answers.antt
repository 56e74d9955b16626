-- `bytes_bundle::parts` meets its contract.
use native.Mathlib.Omega.{arith}
use mathlib.Core.Path.{sym, ◌∙◌}
use Rattle.bytes_bundle.proofs.Places.{sized, parts_count}
use Rattle.bytes_bundle.proofs.parts.Goals as goal

pub get-requires : goal.get-requires
get-requires c = omega (arith, (sized c.requires.1).room)

pub returns : goal.returns
returns c = c.get.ensures.is ∙ sym (parts_count c.requires.1)
