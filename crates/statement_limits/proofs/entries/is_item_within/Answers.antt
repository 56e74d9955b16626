-- `statement_limits::entries::is_item_within` meets its contract.
use Rattle.statement_limits.specs.Within.{item_within}
use Rattle.bytes_bundle.specs.Looks.{Inside, inside_is, inside_says}
use Rattle.image_expression.specs.Names.{Within}
use Rattle.statement_limits.specs.Cases.{no_column, column_inside}
use Rattle.rules.specs.Limits.{item_names}
use Rattle.rules.specs.Lists.{all}
use Rattle.image_parts.specs.Layout.{name, item}
use mathlib.Core.Bool.{and-true}
use mathlib.Core.List.{[], ◌∷◌}
use mathlib.Core.Path.{sym, ap, ◌∙◌}
use Rattle.statement_limits.proofs.entries.is_item_within.Goals.{After-column_of}
use Rattle.statement_limits.proofs.entries.is_item_within.Goals as goal

inner : (c : After-column_of) → Inside item name item_names (λ n. n ∷ []) c.args.i.now c.column_of.result.now
inner c = column_inside (λ v h. sym (c.item_code.ensures v h) ∙ c.if-item_code-ne2.false) c.column_of.ensures

pub returns-then-item_code-ne2 : goal.returns-then-item_code-ne2
unfolding item_within
returns-then-item_code-ne2 c = λ v h. sym (ap (all Within) (no_column v (λ e. c.if-item_code-ne2.true (c.item_code.ensures v h ∙ e))))

pub is_name_within-requires : goal.is_name_within-requires
is_name_within-requires c = inside_is (inner (goal.at.is_name_within-requires c).After-column_of) c.requires

pub returns : goal.returns
unfolding item_within
returns c = inside_says (inner (goal.at.returns c).After-column_of) (all Within) (λ n h. c.is_name_within.ensures n h ∙ sym (and-true (Within n)))
