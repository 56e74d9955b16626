-- `image_select::has_clauses` meets its contract.
use native.Mathlib.Omega.{arith}
use Rattle.image_select.specs.Held.{query_has, query_wide}
use Rattle.image_select.proofs.has_clauses.Goals as goal

pub bounds-q-0 : goal.bounds-q-0
bounds-q-0 c = omega (arith, query_wide c.requires)

pub returns : goal.returns
returns c = λ v h. (query_has _ v h).mark
