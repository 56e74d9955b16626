-- `statement_limits::entries::is_assignment_within` meets its contract.
use Rattle.statement_limits.specs.Joined.{decided_on, decided_off}
use Rattle.statement_limits.specs.Within.{assignment_within_lem}
use Rattle.statement_limits.proofs.entries.is_assignment_within.Goals as goal

pub returns-then-is_target_within : goal.returns-then-is_target_within
returns-then-is_target_within c = λ v h.
    decided_on (c.is_target_within.ensures v.target (c.target_of.ensures v h)) (assignment_within_lem v) c.if-is_target_within.true
    (c.is_expression_within.ensures v.value (c.value_of.ensures v h))

pub returns-else-is_target_within : goal.returns-else-is_target_within
returns-else-is_target_within c = λ v h. decided_off (c.is_target_within.ensures v.target (c.target_of.ensures v h)) (assignment_within_lem v) c.if-is_target_within.false
