-- `write_create::one_id` meets its contract.
use native.Mathlib.Omega.{arith}
use lib.ListN.{replicate}
use Rattle.rules.specs.Names.{canonical}
use Rattle.bind_create.specs.Defined.{schemas}
use Rattle.write_create.proofs.Ids.{one_id}
use Rattle.write_create.proofs.one_id.Goals as goal

pub returns : goal.returns
returns c = λ cs w l h k e. one_id (schemas 0 cs) (canonical w) (replicate 64 (record { 0 = 0 })) e (omega arith) (λ x f. c.id_of.ensures cs w x h k f)
