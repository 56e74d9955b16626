-- `statement_limits::deletes::is_delete_within` meets its contract.
use Rattle.statement_limits.specs.Joined.{decided_on, decided_off}
use Rattle.statement_limits.specs.Within.{delete_within}
use Rattle.statement_limits.proofs.deletes.is_delete_within.Goals as goal

pub returns-then-is_from_within : goal.returns-then-is_from_within
returns-then-is_from_within c = λ v h.
    decided_on (c.is_from_within.ensures v.from (c.from_of.ensures v h)) (delete_within v) c.if-is_from_within.true
    (c.is_condition_within.ensures v.condition (c.condition_of.ensures v h))

pub returns-else-is_from_within : goal.returns-else-is_from_within
returns-else-is_from_within c = λ v h. decided_off (c.is_from_within.ensures v.from (c.from_of.ensures v h)) (delete_within v) c.if-is_from_within.false
