-- `statement_limits::deletes::is_from_within` meets its contract.
use Rattle.bytes_bundle.specs.Looks.{Inside, inside_is, inside_says}
use Rattle.image_expression.specs.Names.{Within}
use Rattle.statement_limits.specs.Cases.{no_delete_table, delete_table_inside}
use Rattle.rules.specs.Limits.{table_names, delete_names}
use Rattle.rules.specs.Lists.{all}
use Rattle.image_parts.specs.Layout.{table_with_joins, delete_from}
use mathlib.Core.Path.{sym, ap, ◌∙◌}
use Rattle.statement_limits.proofs.deletes.is_from_within.Goals.{After-table_of}
use Rattle.statement_limits.proofs.deletes.is_from_within.Goals as goal

inner : (c : After-table_of) → Inside delete_from table_with_joins delete_names table_names c.args.f.now c.table_of.result.now
inner c = delete_table_inside (λ v h. sym (c.from_code.ensures v h) ∙ c.if-from_code-ne2.false) c.table_of.ensures

pub returns-then-from_code-ne2 : goal.returns-then-from_code-ne2
returns-then-from_code-ne2 c = λ v h. sym (ap (all Within) (no_delete_table v (λ e. c.if-from_code-ne2.true (c.from_code.ensures v h ∙ e))))

pub is_table_within-requires : goal.is_table_within-requires
is_table_within-requires c = inside_is (inner (goal.at.is_table_within-requires c).After-table_of) c.requires

pub returns : goal.returns
returns c = inside_says (inner (goal.at.returns c).After-table_of) (all Within) c.is_table_within.ensures
