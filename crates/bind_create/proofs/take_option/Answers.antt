-- `bind_create::take_option` meets its contract.
use mathlib.Core.Path.{sym, ◌∙◌}
use Rattle.bind_options.specs.Steps.{state_of}
use Rattle.bind_create.proofs.Columns.{kind_null, kind_not_null, kind_key, option_named, option_is, option_other}
use Rattle.bind_create.proofs.take_option.Goals as goal

pub returns-then-option_named : goal.returns-then-option_named
returns-then-option_named c = λ v h. sym (option_named (state_of c.args.state) v (sym (c.option_named.ensures v h) ∙ c.if-option_named.true))

pub returns-then-kind-eq0 : goal.returns-then-kind-eq0
returns-then-kind-eq0 c = λ v h. c.null.ensures ∙ sym (option_is (state_of c.args.state) v (sym (c.option_named.ensures v h) ∙ c.if-option_named.false) (kind_null v.kind (sym (c.option_kind-kind.ensures v h) ∙ c.if-kind-eq0.true)))

pub returns-then-kind-eq1 : goal.returns-then-kind-eq1
returns-then-kind-eq1 c = λ v h. c.not_null.ensures ∙ sym (option_is (state_of c.args.state) v (sym (c.option_named.ensures v h) ∙ c.if-option_named.false) (kind_not_null v.kind (sym (c.option_kind-kind.ensures v h) ∙ c.if-kind-eq1.true)))

pub returns-then-kind-eq2 : goal.returns-then-kind-eq2
returns-then-kind-eq2 c = λ v h. c.key.ensures ∙ sym (option_is (state_of c.args.state) v (sym (c.option_named.ensures v h) ∙ c.if-option_named.false) (kind_key v.kind (sym (c.option_kind-kind.ensures v h) ∙ c.if-kind-eq2.true)))

pub returns : goal.returns
returns c = λ v h.
    let k = c.option_kind-kind.ensures v h in
    sym (option_other (state_of c.args.state) v (sym (c.option_named.ensures v h) ∙ c.if-option_named.false) (λ e. c.if-kind-eq0.false (k ∙ e)) (λ e. c.if-kind-eq1.false (k ∙ e)) (λ e. c.if-kind-eq2.false (k ∙ e)))
