-- `write_create::may_be_null` meets its contract.
use mathlib.Core.Path.{sym, ap, ◌∙◌}
use Rattle.bytes_bundle.specs.Held.{held, is_held}
use Rattle.bytes_format.proofs.Formats.{list_of}
use Rattle.bind_options.specs.Steps.{step_of}
use Rattle.rules.specs.Answers.{Answer}
use Rattle.rules.specs.Analyze.{OptionState}
use Rattle.image_parts.specs.Layout.{option}
use Rattle.bind_create.specs.Defined.{stated, may_be_null}
use Rattle.write_create.proofs.may_be_null.Goals as goal

pub take_options-requires : goal.take_options-requires
take_options-requires c = held c.requires (λ v h. is_held {f = list_of 2 option} (c.options.ensures v h))

pub returns-in-Ok : goal.returns-in-Ok
returns-in-Ok c = λ v h.
    c.nullable.ensures ∙ ap (λ (a : Answer OptionState). may_be_null (stated a)) (sym (ap step_of c.in-Ok.is) ∙ c.take_options.ensures v.options (c.options.ensures v h))

pub returns-in-Err : goal.returns-in-Err
returns-in-Err c = λ v h.
    ap (λ (a : Answer OptionState). may_be_null (stated a)) (sym (ap step_of c.in-Err.is) ∙ c.take_options.ensures v.options (c.options.ensures v h))
