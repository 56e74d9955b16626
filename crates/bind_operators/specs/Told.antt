-- A rule's verdict as the code answers it: the same two cases.
-- Assumes nothing: these are definitions.
use Rattle.std.specs.Prelude.{Result, Ok, Err}
use Rattle.rules.specs.declared.Class.{Class}
use Rattle.rules.specs.Answers.{Verdict, fine, flaw}

abbrev pub told : {A : Type 0} → Verdict A → Result A Class
told (fine a) = Ok a
told (flaw k) = Err k
