-- `statement_limits::names::is_object_name_within` meets its contract.
use Rattle.bytes_bundle.specs.Looks.{Inside, inside_is, inside_says}
use Rattle.image_expression.specs.Names.{Within}
use Rattle.statement_limits.specs.Cases.{no_name, name_inside}
use Rattle.rules.specs.Limits.{object_names}
use Rattle.rules.specs.Lists.{all}
use Rattle.image_parts.specs.Layout.{name, object_name}
use mathlib.Core.Bool.{and-true}
use mathlib.Core.List.{[], ◌∷◌}
use mathlib.Core.Path.{sym, ap, ◌∙◌}
use Rattle.statement_limits.proofs.names.is_object_name_within.Goals.{After-only_name}
use Rattle.statement_limits.proofs.names.is_object_name_within.Goals as goal

inner : (c : After-only_name) → Inside object_name name object_names (λ n. n ∷ []) c.args.o.now c.only_name.result.now
inner c = name_inside (λ v h. sym (c.object_name_code.ensures v h) ∙ c.if-object_name_code-ne1.false) c.only_name.ensures

pub returns-then-object_name_code-ne1 : goal.returns-then-object_name_code-ne1
returns-then-object_name_code-ne1 c = λ v h. sym (ap (all Within) (no_name v (λ e. c.if-object_name_code-ne1.true (c.object_name_code.ensures v h ∙ e))))

pub is_name_within-requires : goal.is_name_within-requires
is_name_within-requires c = inside_is (inner (goal.at.is_name_within-requires c).After-only_name) c.requires

pub returns : goal.returns
returns c = inside_says (inner (goal.at.returns c).After-only_name) (all Within) (λ n h. c.is_name_within.ensures n h ∙ sym (and-true (Within n)))
