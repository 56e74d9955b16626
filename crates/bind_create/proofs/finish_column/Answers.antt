-- `bind_create::finish_column` meets its contract.
use mathlib.Core.Path.{sym, ap, ◌∙◌}
use Rattle.bind_options.specs.Steps.{state_of}
use Rattle.std.specs.Prelude.{Ok}
use Rattle.bind_create.specs.Keys.{has_key, inlined}
use Rattle.bind_create.proofs.Columns.{finish_null, finish_second, finish_type, finish_fine}
use Rattle.bind_create.proofs.finish_column.Goals as goal

pub returns-then-is_refused_key : goal.returns-then-is_refused_key
returns-then-is_refused_key c = λ v h.
    let a = c.args in
    sym (ap (inlined a.i a.key) (finish_null (has_key a.key) (state_of a.state) v (sym c.is_refused_key.ensures ∙ c.if-is_refused_key.true)))

pub returns-then-is_second : goal.returns-then-is_second
returns-then-is_second c = λ v h.
    let a = c.args in
    sym (ap (inlined a.i a.key) (finish_second (has_key a.key) (state_of a.state) v (sym c.is_refused_key.ensures ∙ c.if-is_refused_key.false)
    (sym c.is_second.ensures ∙ c.if-is_second.true)))

pub returns-then-type_code-eq3 : goal.returns-then-type_code-eq3
returns-then-type_code-eq3 c = λ v h.
    let a = c.args in
    sym (ap (inlined a.i a.key) (finish_type (has_key a.key) (state_of a.state) v (sym c.is_refused_key.ensures ∙ c.if-is_refused_key.false)
    (sym c.is_second.ensures ∙ c.if-is_second.false) (sym (c.type_code.ensures v h) ∙ c.if-type_code-eq3.true)))

pub returns : goal.returns
returns c = λ v h.
    let a = c.args in
    ap Ok c.inline_key.ensures
    ∙ sym (ap (inlined a.i a.key) (finish_fine (has_key a.key) (state_of a.state) v (sym c.is_refused_key.ensures ∙ c.if-is_refused_key.false)
    (sym c.is_second.ensures ∙ c.if-is_second.false) (λ e. c.if-type_code-eq3.false (c.type_code.ensures v h ∙ e))))
