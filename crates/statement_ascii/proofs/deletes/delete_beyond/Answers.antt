-- `statement_ascii::deletes::delete_beyond` meets its contract.
use Rattle.statement_ascii.specs.Beyond.{or_stop, or_on}
use Rattle.rules.specs.Limits.{gather, if_there, expression_names, delete_names, held_by_delete}
use Rattle.statement_ascii.proofs.deletes.delete_beyond.Goals as goal

pub returns-then-from_beyond : goal.returns-then-from_beyond
unfolding held_by_delete
returns-then-from_beyond c = λ v h.
    or_stop (delete_names v.from) (gather expression_names (if_there v.condition)) (c.from_beyond.ensures v.from (c.from_of.ensures v h)) c.if-from_beyond.true

pub returns-else-from_beyond : goal.returns-else-from_beyond
unfolding held_by_delete
returns-else-from_beyond c = λ v h.
    or_on (delete_names v.from) (gather expression_names (if_there v.condition)) (c.from_beyond.ensures v.from (c.from_of.ensures v h)) c.if-from_beyond.false
    (c.condition_beyond.ensures v.condition (c.condition_of.ensures v h))
