-- What the rules say of exact integers, in the words of this crate.
-- Assumes nothing: these are definitions.
use Rattle.std.specs.Prelude.{ℤ, Option as Answer, Some, None}
use Rattle.std.proofs.Math.Option.{Option, none, some}
use Rattle.rules.specs.Numbers.{ranged}

abbrev pub told_exact : Option ℤ → Answer ℤ
told_exact (some z) = Some z
told_exact none = None

-- a number, or none where it is out of the range
abbrev pub exact : ℤ → Answer ℤ
exact z = told_exact (ranged z)
