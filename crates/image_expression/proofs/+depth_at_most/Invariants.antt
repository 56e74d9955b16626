-- `depth_at_most` meets its contract, and ends: the budget falls with each call and with each turn of the loop. The invariant: the answer for the
-- node reached, within what is left of the budget, is the answer asked for (`Asks`).
use Rattle.image_expression.proofs.Deep.{Asks}
use Rattle.image_expression.proofs.+depth_at_most.Given as goal

abbrev pub invariant-loop-left : goal.invariant-loop-left
invariant-loop-left l = Asks l.s l.i l.budget l.node l.left

abbrev pub decreases-loop-left : goal.decreases-loop-left
decreases-loop-left l = l.left

abbrev pub decreases-depth_at_most : goal.decreases-depth_at_most
decreases-depth_at_most l = l.budget
