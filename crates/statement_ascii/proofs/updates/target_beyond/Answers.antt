-- `statement_ascii::updates::target_beyond` meets its contract.
use Rattle.statement_ascii.specs.Beyond.{Beyond}
use Rattle.bytes_bundle.specs.Looks.{Inside, inside_is, inside_says}
use Rattle.statement_limits.specs.Cases.{no_target, target_inside}
use Rattle.rules.specs.Limits.{object_names, target_names}
use Rattle.image_parts.specs.Layout.{object_name, assignment_target}
use mathlib.Core.Path.{sym, ap, ◌∙◌}
use Rattle.statement_ascii.proofs.updates.target_beyond.Goals.{After-target_name}
use Rattle.statement_ascii.proofs.updates.target_beyond.Goals as goal

inner : (c : After-target_name) → Inside assignment_target object_name target_names object_names c.args.t.now c.target_name.result.now
inner c = target_inside (λ v h. sym (c.target_code.ensures v h) ∙ c.if-target_code-ne1.false) c.target_name.ensures

pub returns-then-target_code-ne1 : goal.returns-then-target_code-ne1
returns-then-target_code-ne1 c = λ v h. sym (ap Beyond (no_target v (λ e. c.if-target_code-ne1.true (c.target_code.ensures v h ∙ e))))

pub object_name_beyond-requires : goal.object_name_beyond-requires
object_name_beyond-requires c = inside_is (inner (goal.at.object_name_beyond-requires c).After-target_name) c.requires

pub returns : goal.returns
returns c = inside_says (inner (goal.at.returns c).After-target_name) Beyond c.object_name_beyond.ensures
