-- `bind_repeats::object_name` meets its contract.
use mathlib.Core.Path.{sym, ◌∙◌}
use Rattle.bind_repeats.proofs.Same.{named_none, named_there, no_object, in_object}
use Rattle.bind_repeats.proofs.object_name.Goals as goal

pub returns-then-object_name_code-eq0 : goal.returns-then-object_name_code-eq0
returns-then-object_name_code-eq0 c = named_none c.no_name.ensures (λ v h. no_object v (sym (c.object_name_code.ensures v h) ∙ c.if-object_name_code-eq0.true))

pub returns : goal.returns
returns c = named_there (in_object c.object_name_code.ensures c.if-object_name_code-eq0.false c.only_name.ensures)
