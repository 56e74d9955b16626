-- What it is for a value to have a mark, and for what is worked out to come to a value or fault.
-- Assumes nothing: these are definitions.
use Rattle.std.specs.Prelude.{◌≡◌, Bool, true, ◌⊎◌, ℤ}
use Rattle.rules.specs.declared.ExpressionType.{ExpressionType}
use Rattle.rules.specs.declared.ExpressionType.TheVariants as type
use Rattle.rules.specs.declared.Mark.{Mark}
use Rattle.rules.specs.Lists.{Text}
use Rattle.rules.specs.Bound.{Value, int, text, bool, null}
use Rattle.rules.specs.Numbers.{in_range}
use Rattle.rules.specs.Evaluate.{Worked, worked, fault}

-- a value's type: an INT is in 64 signed bits. NULL has none, and no value is of type NULL
pub data OfType : ExpressionType → Value → Type 0 where
  an_int : {z : ℤ} → in_range z ≡ true → OfType type.Int (int z)
  a_text : {s : Text} → OfType type.Text (text s)
  a_bool : {b : Bool} → OfType type.Bool (bool b)

-- a value has a mark: it is of the mark's type, or it is NULL and the mark says that it may be
pub data HasMark (m : Mark) : Value → Type 0 where
  of_type : {v : Value} → OfType m.ty v → HasMark m v
  may_be_null_lem : m.nullable ≡ true → HasMark m null

-- it faults, or comes to something of which P holds: `no_rule` is neither
abbrev pub FaultsOr : {A : Type 0} → Worked A → (A → Type 0) → Type 0
FaultsOr {A} w P = (w ≡ fault) ⊎ ((a : A) × (w ≡ worked a) × P a)
