-- `bytes_utf8::is_utf8` meets its contract.
use Rattle.std.proofs.Common.{arith, ◌∙◌}
use Rattle.std.proofs.lemmas.Bool.Decides.{nat_tests}
use Rattle.bytes_utf8.proofs.Behind.{nothing}
use Rattle.bytes_utf8.proofs.is_utf8.Goals as goal

pub returns : goal.returns
returns c = nothing c.loop-rest.rest.now (grind (arith, nat_tests)) ∙ c.loop-rest.invariant.0
