-- What the rules say of number text, in the words of this crate.
-- Assumes nothing: these are definitions.
use Rattle.std.specs.Prelude.{Bool, ℤ, Option as Answer, Some, None}
use Rattle.std.proofs.Math.Option.{Option, none, some}
use Rattle.rules.specs.Lists.{Text}
use Rattle.rules.specs.Numbers.{unsigned_text, ranged}

abbrev pub told : Option ℤ → Answer ℤ
told (some z) = Some z
told none = None

-- the same of a text that is digits alone, with its sign given
abbrev pub in_range_of : Option ℤ → Option ℤ
in_range_of (some z) = ranged z
in_range_of none = none

abbrev pub digits_literal : Bool → Text → Option ℤ
digits_literal minus s = in_range_of (unsigned_text minus s)
