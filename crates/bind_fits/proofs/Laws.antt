-- The fit of a value by the tests in the order in which they are made, and that of a literal by its kind.
-- Assumes nothing.
use mathlib.Core.Path.{◌≡◌, refl}
use mathlib.Core.Bool.{Bool, true, false, cond, not}
use Rattle.std.specs.Prelude.{Ok, Err}
use Rattle.rules.specs.declared.Class.TheVariants.{SchemaMismatch, ConstraintViolation}
use Rattle.rules.specs.declared.DataType.{DataType}
use Rattle.rules.specs.declared.DataType.TheVariants as data-type
use Rattle.rules.specs.declared.ExpressionType.{ExpressionType}
use Rattle.rules.specs.declared.ExpressionType.TheVariants as type
use Rattle.rules.specs.declared.Mark.{Mark}
use Rattle.rules.specs.Answers.{Verdict, fine, flaw}
use Rattle.rules.specs.Bound.{Value, BoundColumnRef}
use Rattle.rules.specs.Lookup.{expression_type}
use Rattle.rules.specs.Marking.{is}
use Rattle.rules.specs.Fits.{fit}
use Rattle.rules.specs.Analyze.{same_type, typed_fit, value_fit}
use Rattle.bind_operators.specs.Told.{told}
use Rattle.bind_fits.specs.declared.ValueKind.{ValueKind}
use Rattle.bind_fits.specs.declared.ValueKind.TheVariants as kind
use Rattle.bind_fits.specs.Told.{kind_of, null_fit}

pub null_told : (n : Bool) → null_fit n ≡ told (cond n (fine tt) (flaw ConstraintViolation))
null_told true = refl
null_told false = refl

may_be_told : (n : Bool) → null_fit n ≡ told (cond (not n) (flaw ConstraintViolation) (fine tt))
may_be_told true = refl
may_be_told false = refl

-- ---- by the mark m, to a column c of the type w

module _ (m : Mark) (c : BoundColumnRef) where
  pub fit_null : is m.ty type.Null ≡ true → null_fit c.nullable ≡ told (fit m c)
  unfolding fit
  fit_null e = rw e (null_told c.nullable)

module _ (m : Mark) (c : BoundColumnRef) {w : ExpressionType} (known : w ≡ expression_type c.ty) (e : is m.ty type.Null ≡ false) where
  pub fit_other : is m.ty w ≡ false → Err SchemaMismatch ≡ told (fit m c)
  unfolding fit
  fit_other f = rw (e, ← known, f)

  pub fit_may_be : is m.ty w ≡ true → m.nullable ≡ true → null_fit c.nullable ≡ told (fit m c)
  unfolding fit
  fit_may_be f n = rw (e, ← known, f, n) (may_be_told c.nullable)

  pub fit_never : is m.ty w ≡ true → m.nullable ≡ false → Ok tt ≡ told (fit m c)
  unfolding fit
  fit_never f n = rw (e, ← known, f, n)

-- ---- by the kind of a literal

abbrev pub kind_fit : ValueKind → DataType → Bool → Verdict Unit
kind_fit kind.Int t n = typed_fit (same_type t data-type.Int)
kind_fit kind.Text t n = typed_fit (same_type t data-type.Text)
kind_fit kind.Bool t n = typed_fit (same_type t data-type.Bool)
kind_fit kind.Null t n = cond n (fine tt) (flaw ConstraintViolation)

-- of a value and of its column the rule asks only the kind, the type and whether NULL is allowed
pub kind_told : (v : Value) (c : BoundColumnRef) → value_fit v c ≡ kind_fit (kind_of v) c.ty c.nullable
unfolding value_fit
kind_told (Value.int z) c = refl
kind_told (Value.text s) c = refl
kind_told (Value.bool b) c = refl
kind_told Value.null c = refl
