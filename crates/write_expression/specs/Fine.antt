-- A rule that is known to be fine has a mark, and the code's ruling tells it.
-- Assumes nothing.
use Rattle.std.specs.Prelude.{◌≡◌, refl, Bool, true, false, cond, ◌&&◌, ◌||◌, ℕ, ◌<◌, Result, Ok, IsOk}
use Rattle.std.proofs.Common.{◌∙◌, sym, ap, ap₂, subst, arith}
use Rattle.std.proofs.Math.Decide.{dec_lt}
use Rattle.rules.specs.declared.Class.{Class}
use Rattle.rules.specs.declared.Class.TheVariants.{SchemaMismatch, UnsupportedSql}
use Rattle.rules.specs.declared.ExpressionType.{ExpressionType}
use Rattle.rules.specs.declared.ExpressionType.TheVariants as type
use Rattle.rules.specs.declared.BoundBinaryOperator.{BoundBinaryOperator}
use Rattle.rules.specs.declared.BoundBinaryOperator.TheVariants as op
use Rattle.rules.specs.declared.Mark.{Mark}
use Rattle.rules.specs.Answers.{Verdict, fine, flaw}
use Rattle.rules.specs.Lookup.{mark}
use Rattle.rules.specs.Marking.{is, two_of, equality, ordering, unary_rule, operator_rule, typed, binary_rule}
use Rattle.rules.specs.Statements.{Binary, binary}
use Rattle.rules.proofs.Theorems.Answered.{never_fine}
use Rattle.image_expression.specs.Place.{un_of, bin_of}
use Rattle.bind_operators.specs.Told.{told}

pub record IsFine (u : Verdict Mark) : Type 0 where
  pub mark : Mark
  pub is : u ≡ fine mark

pub granted : (u : Verdict Mark) {v : Result Mark Class} → v ≡ told u → IsFine u → IsOk v
granted (fine m) e f = rw e refl
granted (flaw k) e f = absurd (never_fine f.is)

pub granted_fine : (u : Verdict Mark) {v : Result Mark Class} {m : Mark} → v ≡ told u → v ≡ Ok m → u ≡ fine m
granted_fine (fine n) e g = cc
granted_fine (flaw k) e g = absurd (let z : ◌≡◌ {A = ℕ} 0 1 = cc in omega arith)

-- 15 and 29 are operators that no rule is fine with
pub unary_below : (k : ℕ) (m : Mark) → k < 16 → IsFine (unary_rule (un_of k) m) → k < 15
unfolding un_of unary_rule
unary_below k m h f = go (dec_lt k 15)
  where
    go : Dec (k < 15) → k < 15
    go (yes l) = l
    go (no n) = let e : k ≡ 15 = omega arith in absurd (never_fine (rw e at f.is))

pub ruled_below : (k : ℕ) (a b : Mark) → k < 30 → IsFine (binary_rule (bin_of k) a b) → k < 29
unfolding bin_of binary_rule
ruled_below k a b h f = go (dec_lt k 29)
  where
    go : Dec (k < 29) → k < 29
    go (yes l) = l
    go (no n) = let e : k ≡ 29 = omega arith in absurd (never_fine (rw e at f.is))

-- ---- two operands: the type that an operator gives wherever its rule is fine

abbrev pub result_type : BoundBinaryOperator → ExpressionType
result_type op.Add = type.Int
result_type op.Subtract = type.Int
result_type op.Multiply = type.Int
result_type op.Divide = type.Int
result_type op.Modulo = type.Int
result_type op.Equal = type.Bool
result_type op.NotEqual = type.Bool
result_type op.GreaterThan = type.Bool
result_type op.GreaterThanOrEqual = type.Bool
result_type op.LessThan = type.Bool
result_type op.LessThanOrEqual = type.Bool
result_type op.And = type.Bool
result_type op.Or = type.Bool

-- a verdict that gives this type or none
abbrev Yields : ExpressionType → Verdict ExpressionType → Type 0
Yields t v = (u : ExpressionType) → v ≡ fine u → u ≡ t

yields_if : (t : ExpressionType) (k : Class) (c : Bool) → Yields t (cond c (fine t) (flaw k))
yields_if t k true = λ u h. cc
yields_if t k false = λ u h. absurd (never_fine h)

yields_unless : (t : ExpressionType) (k : Class) (c : Bool) (v : Verdict ExpressionType) → Yields t v → Yields t (cond c (flaw k) v)
yields_unless t k true v y = λ u h. absurd (never_fine h)
yields_unless t k false v y = y

yields_two : (t a b : ExpressionType) → Yields t (two_of t a b)
yields_two t a b = yields_if t SchemaMismatch (is a t && is b t)

yields_equal : (a b : ExpressionType) → Yields type.Bool (equality a b)
yields_equal a b =
    yields_unless type.Bool UnsupportedSql (is a type.Null || is b type.Null) (cond (is a b) (fine type.Bool) (flaw SchemaMismatch))
    (yields_if type.Bool SchemaMismatch (is a b))

yields_ordered : (a b : ExpressionType) → Yields type.Bool (ordering a b)
yields_ordered a b =
    yields_unless type.Bool UnsupportedSql (is a type.Null || is b type.Null)
    (cond (is a b && (is a type.Int || is a type.Text)) (fine type.Bool) (flaw SchemaMismatch))
    (yields_if type.Bool SchemaMismatch (is a b && (is a type.Int || is a type.Text)))

rule_yields : (o : BoundBinaryOperator) (a b : ExpressionType) → Yields (result_type o) (operator_rule o a b)
unfolding operator_rule
rule_yields op.Add a b = yields_two type.Int a b
rule_yields op.Subtract a b = yields_two type.Int a b
rule_yields op.Multiply a b = yields_two type.Int a b
rule_yields op.Divide a b = yields_two type.Int a b
rule_yields op.Modulo a b = yields_two type.Int a b
rule_yields op.Equal a b = yields_equal a b
rule_yields op.NotEqual a b = yields_equal a b
rule_yields op.GreaterThan a b = yields_ordered a b
rule_yields op.GreaterThanOrEqual a b = yields_ordered a b
rule_yields op.LessThan a b = yields_ordered a b
rule_yields op.LessThanOrEqual a b = yields_ordered a b
rule_yields op.And a b = yields_two type.Bool a b
rule_yields op.Or a b = yields_two type.Bool a b

typed_fine : (t : ExpressionType) (v : Verdict ExpressionType) (n : Bool) → Yields t v → IsFine (typed v n) → typed v n ≡ fine (mark t n)
typed_fine t (fine u) n y f = ap (λ (x : ExpressionType). fine (mark x n)) (y u refl)
typed_fine t (flaw k) n y f = absurd (never_fine f.is)

operator_fine : (o : BoundBinaryOperator) (a b : Mark) → IsFine (binary_rule (binary o) a b)
    → binary_rule (binary o) a b ≡ fine (mark (result_type o) (a.nullable || b.nullable))
unfolding binary_rule
operator_fine o a b f = typed_fine (result_type o) (operator_rule o a.ty b.ty) (a.nullable || b.nullable) (rule_yields o a.ty b.ty) f

pub result_fine : (o : BoundBinaryOperator) (w : Binary) (a b : Mark) (t : ExpressionType) (n : Bool) → binary o ≡ w → t ≡ result_type o
    → n ≡ (a.nullable || b.nullable) → IsFine (binary_rule w a b) → binary_rule w a b ≡ fine (mark t n)
result_fine o w a b t n p e g f =
    subst (λ (x : Binary). IsFine (binary_rule x a b) → binary_rule x a b ≡ fine (mark t n)) p
    (λ h. operator_fine o a b h ∙ ap₂ (λ (x : ExpressionType) (y : Bool). fine (mark x y)) (sym e) (sym g)) f
