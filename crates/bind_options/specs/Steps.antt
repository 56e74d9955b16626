-- The declared state and step as the rules' state and answer.
-- Assumes nothing: these are definitions.
use Rattle.std.specs.Prelude.{Bool, true, false, Result, Ok, Err}
use Rattle.std.proofs.Math.Option.{Option, none, some}
use Rattle.rules.specs.declared.Class.{Class}
use Rattle.rules.specs.Answers.{Answer, given, refuse}
use Rattle.rules.specs.Analyze as analyze
use Rattle.bind_options.specs.declared.Nullability.{Nullability}
use Rattle.bind_options.specs.declared.Nullability.TheVariants.{Unsaid, Null, NotNull}
use Rattle.bind_options.specs.declared.OptionState.{OptionState}

abbrev pub nullability_of : Nullability → Option Bool
nullability_of Unsaid = none
nullability_of Null = some true
nullability_of NotNull = some false

abbrev pub state_of : OptionState → analyze.OptionState
state_of s = record { nullability = nullability_of s.nullability; key = s.key }

abbrev pub step_of : Result OptionState Class → Answer analyze.OptionState
step_of (Ok s) = given (state_of s)
step_of (Err k) = refuse k
