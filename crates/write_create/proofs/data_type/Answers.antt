-- `write_create::data_type` meets its contract.
use mathlib.Core.Path.{sym, ◌∙◌}
use Rattle.write_create.proofs.Columns.{type_text, type_bool, type_int}
use Rattle.write_create.proofs.data_type.Goals as goal

pub returns-then-code-eq1 : goal.returns-then-code-eq1
returns-then-code-eq1 c = λ v h. type_text v.ty (sym (c.type_code-code.ensures v h) ∙ c.if-code-eq1.true)

pub returns-then-code-eq2 : goal.returns-then-code-eq2
returns-then-code-eq2 c = λ v h. type_bool v.ty (sym (c.type_code-code.ensures v h) ∙ c.if-code-eq2.true)

pub returns : goal.returns
returns c = λ v h.
    let k = c.type_code-code.ensures v h in
    type_int v.ty (λ e. c.if-code-eq1.false (k ∙ e)) (λ e. c.if-code-eq2.false (k ∙ e))
