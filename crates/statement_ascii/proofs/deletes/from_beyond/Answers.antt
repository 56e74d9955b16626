-- `statement_ascii::deletes::from_beyond` meets its contract.
use Rattle.statement_ascii.specs.Beyond.{Beyond}
use Rattle.bytes_bundle.specs.Looks.{Inside, inside_is, inside_says}
use Rattle.statement_limits.specs.Cases.{no_delete_table, delete_table_inside}
use Rattle.rules.specs.Limits.{table_names, delete_names}
use Rattle.image_parts.specs.Layout.{table_with_joins, delete_from}
use mathlib.Core.Path.{sym, ap, ◌∙◌}
use Rattle.statement_ascii.proofs.deletes.from_beyond.Goals.{After-table_of}
use Rattle.statement_ascii.proofs.deletes.from_beyond.Goals as goal

inner : (c : After-table_of) → Inside delete_from table_with_joins delete_names table_names c.args.f.now c.table_of.result.now
inner c = delete_table_inside (λ v h. sym (c.from_code.ensures v h) ∙ c.if-from_code-ne2.false) c.table_of.ensures

pub returns-then-from_code-ne2 : goal.returns-then-from_code-ne2
returns-then-from_code-ne2 c = λ v h. sym (ap Beyond (no_delete_table v (λ e. c.if-from_code-ne2.true (c.from_code.ensures v h ∙ e))))

pub table_beyond-requires : goal.table_beyond-requires
table_beyond-requires c = inside_is (inner (goal.at.table_beyond-requires c).After-table_of) c.requires

pub returns : goal.returns
returns c = inside_says (inner (goal.at.returns c).After-table_of) Beyond c.table_beyond.ensures
