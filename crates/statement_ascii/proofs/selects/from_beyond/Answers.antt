-- `statement_ascii::selects::from_beyond` meets its contract.
use Rattle.statement_ascii.specs.Beyond.{Beyond}
use Rattle.bytes_bundle.specs.Looks.{Inside, inside_is, inside_says}
use Rattle.statement_limits.specs.Cases.{no_table, table_inside}
use Rattle.rules.specs.Limits.{table_names, from_names}
use Rattle.image_parts.specs.Layout.{table_with_joins, select_from}
use mathlib.Core.Path.{sym, ap, ◌∙◌}
use Rattle.statement_ascii.proofs.selects.from_beyond.Goals.{After-table_of}
use Rattle.statement_ascii.proofs.selects.from_beyond.Goals as goal

inner : (c : After-table_of) → Inside select_from table_with_joins from_names table_names c.args.f.now c.table_of.result.now
inner c = table_inside (λ v h. sym (c.from_code.ensures v h) ∙ c.if-from_code-ne1.false) c.table_of.ensures

pub returns-then-from_code-ne1 : goal.returns-then-from_code-ne1
returns-then-from_code-ne1 c = λ v h. sym (ap Beyond (no_table v (λ e. c.if-from_code-ne1.true (c.from_code.ensures v h ∙ e))))

pub table_beyond-requires : goal.table_beyond-requires
table_beyond-requires c = inside_is (inner (goal.at.table_beyond-requires c).After-table_of) c.requires

pub returns : goal.returns
returns c = inside_says (inner (goal.at.returns c).After-table_of) Beyond c.table_beyond.ensures
