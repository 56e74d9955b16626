-- `bind_insert_columns::is_needed` meets its contract.
use mathlib.Core.Path.{sym, ap, ◌∙◌}
use mathlib.Core.Bool.{not}
use Rattle.rules.specs.Lookup.{in_key}
use Rattle.bind_insert_columns.specs.declared.Need.{Need}
use Rattle.bind_insert_columns.specs.Columns.{needed}
use Rattle.bind_insert_columns.proofs.is_needed.Goals as goal

pub returns-in-Key : goal.returns-in-Key
returns-in-Key c = λ v w ht hw. c.in_key.ensures v ht ∙ ap (in_key v) (c.column_id.ensures w hw) ∙ sym (ap (λ (k : Need). needed k v w) c.in-Key.is)

pub returns-in-NotNull : goal.returns-in-NotNull
returns-in-NotNull c = λ v w ht hw. ap not (c.column_nullable.ensures w hw) ∙ sym (ap (λ (k : Need). needed k v w) c.in-NotNull.is)
