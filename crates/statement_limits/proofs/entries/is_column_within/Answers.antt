-- `statement_limits::entries::is_column_within` meets its contract.
use Rattle.std.proofs.Common.{sym, ap, ◌∙◌}
use Rattle.bytes_bundle.specs.Held.{list_count}
use Rattle.image_parts.specs.Layout.{option}
use Rattle.rules.specs.Limits.{at_most}
use Rattle.statement_limits.specs.Joined.{decided_on, decided_off}
use Rattle.statement_limits.specs.Within.{column_within_lem}
use Rattle.statement_limits.proofs.entries.is_column_within.Goals as goal

pub returns-then-is_name_within : goal.returns-then-is_name_within
returns-then-is_name_within c = λ v h.
    decided_on (c.is_name_within.ensures v.name (c.column_name.ensures v h)) (column_within_lem v) c.if-is_name_within.true
    (ap (at_most 64) (c.parts.ensures ∙ sym (list_count option c.options.result.now (c.options.ensures v h))))

pub returns-else-is_name_within : goal.returns-else-is_name_within
returns-else-is_name_within c = λ v h. decided_off (c.is_name_within.ensures v.name (c.column_name.ensures v h)) (column_within_lem v) c.if-is_name_within.false
