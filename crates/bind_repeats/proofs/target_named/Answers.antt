-- `bind_repeats::target_named` meets its contract.
use mathlib.Core.Path.{sym, ◌∙◌}
use Rattle.bind_repeats.proofs.Same.{named_none, is_inside, named_inside, no_target, in_target}
use Rattle.bind_repeats.proofs.target_named.Goals as goal

pub returns-then-target_code-eq0 : goal.returns-then-target_code-eq0
returns-then-target_code-eq0 c = named_none c.no_name.ensures (λ v h. no_target v (sym (c.target_code.ensures v h) ∙ c.if-target_code-eq0.true))

pub object_name-requires : goal.object_name-requires
object_name-requires c = is_inside (in_target c.target_code.ensures c.if-target_code-eq0.false c.target_name.ensures) c.requires

pub returns : goal.returns
returns c = named_inside (in_target c.target_code.ensures c.if-target_code-eq0.false c.target_name.ensures) c.object_name.ensures
