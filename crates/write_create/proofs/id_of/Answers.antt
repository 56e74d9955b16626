-- `write_create::id_of` meets its contract.
use mathlib.Core.Path.{subst}
use native.Mathlib.Omega.{arith}
use Rattle.rules.specs.Names.{canonical}
use Rattle.bind_create.specs.Keys.{FindsColumn}
use Rattle.write_create.proofs.Ids.{place_few, place_id, no_place}
use Rattle.write_create.proofs.id_of.Goals as goal

pub overflow_add-result : goal.overflow_add-result
overflow_add-result c = omega (arith, place_few c.requires.0 c.requires.1 c.column_called.ensures c.in-Some.is)

pub returns-in-Some : goal.returns-in-Some
returns-in-Some c = λ cs w x h k e.
    place_id cs (canonical w) (subst (FindsColumn cs (canonical w)) c.in-Some.is (c.column_called.ensures cs w h k)) e

pub returns-in-None : goal.returns-in-None
returns-in-None c = λ cs w x h k e.
    absurd (no_place (subst (FindsColumn cs (canonical w)) c.in-None.is (c.column_called.ensures cs w h k)) e)
