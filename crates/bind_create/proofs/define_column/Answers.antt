-- `bind_create::define_column` meets its contract.
use mathlib.Core.Path.{sym, ap, ◌∙◌}
use Rattle.bytes_bundle.specs.Held.{held, is_held}
use Rattle.bytes_format.proofs.Formats.{list_of}
use Rattle.bind_options.specs.Steps.{step_of}
use Rattle.image_parts.specs.Layout.{option}
use Rattle.bind_create.specs.Keys.{has_key, inlined}
use Rattle.bind_create.proofs.Columns.{judge_collation, judge_repeated, judge_options, judge_finish}
use Rattle.bind_table.specs.Steps.{handed_on}
use Rattle.bind_create.proofs.define_column.Goals as goal

pub returns-then-collation : goal.returns-then-collation
returns-then-collation c = λ v h.
    let a = c.args in
    sym (ap (inlined a.i a.key) (judge_collation a.repeated (has_key a.key) v (sym (c.collation.ensures v h) ∙ c.if-collation.true)))

pub returns-then-repeated : goal.returns-then-repeated
returns-then-repeated c = λ v h.
    let a = c.args in
    sym (ap (inlined a.i a.key) (judge_repeated a.repeated (has_key a.key) v (sym (c.collation.ensures v h) ∙ c.if-collation.false) c.if-repeated.true))

pub take_options-requires : goal.take_options-requires
take_options-requires c = held c.requires (λ v h. is_held {f = list_of 2 option} (c.options.ensures v h))

pub returns : goal.returns
returns c = λ v h.
    let a = c.args in
    c.finish_column.ensures v h
    ∙ sym (ap (inlined a.i a.key) (judge_finish a.repeated (has_key a.key) v (sym (c.collation.ensures v h) ∙ c.if-collation.false) c.if-repeated.false
    (sym (c.take_options.ensures v.options (c.options.ensures v h)) ∙ ap step_of c.in_ok-state.was)))

pub returns-in_err-state : goal.returns-in_err-state
returns-in_err-state c = λ v h.
    let a = c.args in
    handed_on c.from_residual.ensures.1 ∙ sym (ap (inlined a.i a.key) (judge_options a.repeated (has_key a.key) v (sym (c.collation.ensures v h) ∙ c.if-collation.false) c.if-repeated.false
    (sym (c.take_options.ensures v.options (c.options.ensures v h)) ∙ ap step_of c.in_err-state.was)))
