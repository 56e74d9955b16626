-- `statement_ascii::named::object_name_beyond` meets its contract.
use Rattle.statement_ascii.specs.Beyond.{Beyond, beyond_one}
use Rattle.bytes_bundle.specs.Looks.{Inside, inside_is, inside_says}
use Rattle.statement_limits.specs.Cases.{no_name, name_inside}
use Rattle.rules.specs.Limits.{object_names}
use Rattle.image_parts.specs.Layout.{name, object_name}
use mathlib.Core.List.{[], ◌∷◌}
use mathlib.Core.Path.{sym, ap, ◌∙◌}
use Rattle.statement_ascii.proofs.named.object_name_beyond.Goals.{After-only_name}
use Rattle.statement_ascii.proofs.named.object_name_beyond.Goals as goal

inner : (c : After-only_name) → Inside object_name name object_names (λ n. n ∷ []) c.args.o.now c.only_name.result.now
inner c = name_inside (λ v h. sym (c.object_name_code.ensures v h) ∙ c.if-object_name_code-ne1.false) c.only_name.ensures

pub returns-then-object_name_code-ne1 : goal.returns-then-object_name_code-ne1
returns-then-object_name_code-ne1 c = λ v h. sym (ap Beyond (no_name v (λ e. c.if-object_name_code-ne1.true (c.object_name_code.ensures v h ∙ e))))

pub name_beyond-requires : goal.name_beyond-requires
name_beyond-requires c = inside_is (inner (goal.at.name_beyond-requires c).After-only_name) c.requires

pub returns : goal.returns
returns c = inside_says (inner (goal.at.returns c).After-only_name) Beyond (λ n h. c.name_beyond.ensures n h ∙ sym (beyond_one n))
