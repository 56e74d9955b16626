-- `statement_ascii::selects::item_beyond` meets its contract.
use Rattle.statement_ascii.specs.Beyond.{Beyond, beyond_one}
use Rattle.bytes_bundle.specs.Looks.{Inside, inside_is, inside_says}
use Rattle.statement_limits.specs.Cases.{no_column, column_inside}
use Rattle.rules.specs.Limits.{item_names}
use Rattle.image_parts.specs.Layout.{name, item}
use mathlib.Core.List.{[], ◌∷◌}
use mathlib.Core.Path.{sym, ap, ◌∙◌}
use Rattle.statement_ascii.proofs.selects.item_beyond.Goals.{After-column_of}
use Rattle.statement_ascii.proofs.selects.item_beyond.Goals as goal

inner : (c : After-column_of) → Inside item name item_names (λ n. n ∷ []) c.args.i.now c.column_of.result.now
inner c = column_inside (λ v h. sym (c.item_code.ensures v h) ∙ c.if-item_code-ne2.false) c.column_of.ensures

pub returns-then-item_code-ne2 : goal.returns-then-item_code-ne2
returns-then-item_code-ne2 c = λ v h. sym (ap Beyond (no_column v (λ e. c.if-item_code-ne2.true (c.item_code.ensures v h ∙ e))))

pub name_beyond-requires : goal.name_beyond-requires
name_beyond-requires c = inside_is (inner (goal.at.name_beyond-requires c).After-column_of) c.requires

pub returns : goal.returns
returns c = inside_says (inner (goal.at.returns c).After-column_of) Beyond (λ n h. c.name_beyond.ensures n h ∙ sym (beyond_one n))
