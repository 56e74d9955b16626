-- The rules' values by what their columns ask of them, and the one verdict that asks only whether NULL is allowed.
-- Assumes nothing: these are definitions.
use Rattle.std.specs.Prelude.{Bool, cond, Result, Ok, Err}
use Rattle.rules.specs.declared.Class.{Class}
use Rattle.rules.specs.declared.Class.TheVariants.{ConstraintViolation}
use Rattle.rules.specs.Bound.{Value}
use Rattle.bind_fits.specs.declared.ValueKind.{ValueKind}
use Rattle.bind_fits.specs.declared.ValueKind.TheVariants as kind

abbrev pub kind_of : Value → ValueKind
kind_of (Value.int z) = kind.Int
kind_of (Value.text s) = kind.Text
kind_of (Value.bool b) = kind.Bool
kind_of Value.null = kind.Null

-- NULL, or what may be NULL, given to a column that is nullable or not
abbrev pub null_fit : Bool → Result Unit Class
null_fit nullable = cond nullable (Ok tt) (Err ConstraintViolation)
