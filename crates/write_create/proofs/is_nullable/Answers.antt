-- `write_create::is_nullable` meets its contract.
use mathlib.Core.Path.{◌∙◌}
use Rattle.rules.specs.Analyze.{no_options, options}
use Rattle.bind_create.specs.Defined.{stated, may_be_null}
use Rattle.write_create.proofs.Columns.{in_key_lem, out_of_key}
use Rattle.write_create.proofs.is_nullable.Goals as goal

pub returns-then-in_key : goal.returns-then-in_key
returns-then-in_key c = λ v h. in_key_lem (may_be_null (stated (options no_options v.options))) c.if-in_key.true

pub returns : goal.returns
returns c = λ v h. c.may_be_null.ensures v h ∙ out_of_key (may_be_null (stated (options no_options v.options))) c.if-in_key.false
