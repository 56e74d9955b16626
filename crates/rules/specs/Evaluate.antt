-- "Value rules of the row runner (added)". Integers are exact.
-- Assumes nothing: these are definitions.
use Rattle.std.specs.Prelude.{Bool, true, false, cond, not, ◌&&◌, ◌||◌, List, [], ◌∷◌, eqb, ltb, get_or, set, ℤ}
use Rattle.std.specs.Bool.{xor}
use Rattle.std.proofs.Math.Option.{Option, none, some}
use Rattle.std.specs.Int.Signed.{lt_z, le_z}
use Rattle.tree.specs.Tree.{leaf, un, bin}
use Rattle.rules.specs.declared.Ordinal.{Ordinal}
use Rattle.rules.specs.declared.BoundUnaryOperator.TheVariants.{Positive, Negative, Not}
use Rattle.rules.specs.declared.BoundBinaryOperator.{BoundBinaryOperator}
use Rattle.rules.specs.declared.BoundBinaryOperator.TheVariants as op
use Rattle.rules.specs.Lists.{Text, same}
use Rattle.rules.specs.Answers.{Answer, given, refused}
use Rattle.rules.specs.Tables.{TableSchema}
use Rattle.rules.specs.Statements.{Leaf, Unary, parentheses, null_test, unary, other_unary, Binary, binary, other_binary, Expr, Target, Assignment}
use Rattle.rules.specs.Bound.{Value, int, text, bool, null, BoundColumnRef}
use Rattle.rules.specs.Names.{canonical}
use Rattle.rules.specs.Numbers.{integer_literal, sum, difference, product, quotient, remainder, negation}
use Rattle.rules.specs.Lookup.{column_by_name}
use Rattle.rules.specs.Marking.{signed_number}
use Rattle.rules.specs.Analyze.{target_name}
use Rattle.rules.specs.Rows.{Row}

-- what working something out comes to. `no_rule`: paper 01 has no rule for it; that never happens to an expression that a marking obeys
pub data Worked (A : Type 0) : Type 0 where
  worked : A → Worked A
  fault no_rule : Worked A

-- a fault in an operand is the whole's fault
abbrev pub then : {A B : Type 0} → Worked A → (A → Worked B) → Worked B
then (worked a) f = f a
then fault f = fault
then no_rule f = no_rule

-- ---- what a value is

abbrev pub as_int : Value → Option ℤ
as_int (int z) = some z
as_int (text s) = none
as_int (bool b) = none
as_int null = none

abbrev pub as_text : Value → Option Text
as_text (int z) = none
as_text (text s) = some s
as_text (bool b) = none
as_text null = none

abbrev pub as_bool : Value → Option Bool
as_bool (int z) = none
as_bool (text s) = none
as_bool (bool b) = some b
as_bool null = none

abbrev pub is_null : Value → Bool
is_null (int z) = false
is_null (text s) = false
is_null (bool b) = false
is_null null = true

-- a rule for two operands of one kind
abbrev pub two : {A B : Type 0} → (A → A → B) → Option A → Option A → Option B
two f none y = none
two f (some a) none = none
two f (some a) (some b) = some (f a b)

abbrev pub or_else : {A : Type 0} → Option A → Option A → Option A
or_else none y = y
or_else (some a) y = some a

abbrev pub ruled : {A : Type 0} → Option (Worked A) → Worked A
ruled none = no_rule
ruled (some w) = w

-- ---- arithmetic: "exact"; `none` is a fault

abbrev pub exactly : Option ℤ → Worked Value
exactly none = fault
exactly (some z) = worked (int z)

unfoldable pub arithmetic : (ℤ → ℤ → Option ℤ) → Value → Value → Worked Value
arithmetic f x y = ruled (two (λ (a b : ℤ). exactly (f a b)) (as_int x) (as_int y))

-- ---- comparison: "TEXT compares by bytes, a proper prefix first."

abbrev pub same_int : ℤ → ℤ → Bool
same_int a b = le_z a b && le_z b a

abbrev pub same_bool : Bool → Bool → Bool
same_bool a b = not (xor a b)

unfoldable pub text_before : Text → Text → Bool
text_before [] [] = false
text_before [] (y ∷ b) = true
text_before (x ∷ a) [] = false
text_before (x ∷ a) (y ∷ b) = ltb x y || eqb x y && text_before a b

unfoldable pub equal : Value → Value → Option Bool
equal x y = or_else (two same_int (as_int x) (as_int y)) (or_else (two same (as_text x) (as_text y)) (two same_bool (as_bool x) (as_bool y)))

unfoldable pub less : Value → Value → Option Bool
less x y = or_else (two lt_z (as_int x) (as_int y)) (two text_before (as_text x) (as_text y))

abbrev pub truth : Option Bool → Worked Value
truth none = no_rule
truth (some b) = worked (bool b)

abbrev pub opposite : Option Bool → Option Bool
opposite none = none
opposite (some b) = some (not b)

-- ---- two operands

unfoldable pub operate : BoundBinaryOperator → Value → Value → Worked Value
operate op.Add x y = arithmetic sum x y
operate op.Subtract x y = arithmetic difference x y
operate op.Multiply x y = arithmetic product x y
operate op.Divide x y = arithmetic quotient x y
operate op.Modulo x y = arithmetic remainder x y
operate op.Equal x y = truth (equal x y)
operate op.NotEqual x y = truth (opposite (equal x y))
operate op.GreaterThan x y = truth (less y x)
operate op.GreaterThanOrEqual x y = truth (opposite (less x y))
operate op.LessThan x y = truth (less x y)
operate op.LessThanOrEqual x y = truth (opposite (less y x))
operate op.And x y = truth (two ◌&&◌ (as_bool x) (as_bool y))
operate op.Or x y = truth (two ◌||◌ (as_bool x) (as_bool y))

-- "NULL in either gives NULL for every binary operator, AND and OR included"
unfoldable pub binary_value : Binary → Value → Value → Worked Value
binary_value (binary o) x y = cond (is_null x || is_null y) (worked null) (operate o x y)
binary_value other_binary x y = no_rule

-- ---- one operand: "NULL under unary gives NULL. IS NULL and IS NOT NULL answer TRUE or FALSE."

abbrev pub or_null : Value → Worked Value → Worked Value
or_null x w = cond (is_null x) (worked null) w

abbrev pub on_int : (ℤ → Worked Value) → Option ℤ → Worked Value
on_int f none = no_rule
on_int f (some z) = f z

abbrev pub on_bool : (Bool → Worked Value) → Option Bool → Worked Value
on_bool f none = no_rule
on_bool f (some b) = f b

unfoldable pub unary_value : Unary → Value → Worked Value
unary_value parentheses x = worked x
unary_value (null_test negated) x = worked (bool (cond negated (not (is_null x)) (is_null x)))
unary_value (unary Positive) x = or_null x (on_int (λ (z : ℤ). worked (int z)) (as_int x))
unary_value (unary Negative) x = or_null x (on_int (λ (z : ℤ). exactly (negation z)) (as_int x))
unary_value (unary Not) x = or_null x (on_bool (λ (b : Bool). worked (bool (not b))) (as_bool x))
unary_value other_unary x = no_rule

-- ---- leaves

-- the value of a column is the one at its position
abbrev pub at : Row → Ordinal → Value
at row o = get_or row o.0 null

abbrev pub column_value : Row → Option BoundColumnRef → Worked Value
column_value row none = no_rule
column_value row (some c) = worked (at row c.ordinal)

abbrev pub literal_value : Option ℤ → Worked Value
literal_value none = no_rule
literal_value (some z) = worked (int z)

unfoldable pub leaf_value : TableSchema → Row → Leaf → Worked Value
leaf_value t row (Leaf.name n) = column_value row (column_by_name t (canonical n))
leaf_value t row (Leaf.number s) = literal_value (integer_literal false s)
leaf_value t row (Leaf.string s) = worked (text s)
leaf_value t row (Leaf.boolean b) = worked (bool b)
leaf_value t row Leaf.null = worked null
leaf_value t row Leaf.other_literal = no_rule
leaf_value t row Leaf.other_expression = no_rule

-- ---- expressions: "A unary sign directly on a number is one literal here too, and never a fault. All operands are always worked out; a
-- fault in one is the whole's fault."

abbrev pub or_signed_value : Option (Bool × Text) → Worked Value → Worked Value
or_signed_value none rest = rest
or_signed_value (some p) rest = literal_value (integer_literal p.0 p.1)

unfoldable pub evaluate : TableSchema → Row → Expr → Worked Value
evaluate t row (leaf l) = leaf_value t row l
evaluate t row (un o a) = or_signed_value (signed_number o a) (then (evaluate t row a) (unary_value o))
evaluate t row (bin o a b) = then (evaluate t row a) (λ x. then (evaluate t row b) (binary_value o x))

-- ---- an UPDATE of a row: "If WHERE isn't TRUE the row is written as it is and no value is worked out. Otherwise all values come from the
-- old row; other columns stay."

abbrev pub is_true : Value → Bool
is_true (int z) = false
is_true (text s) = false
is_true (bool b) = b
is_true null = false

abbrev pub resolved : TableSchema → Answer Text → Option BoundColumnRef
resolved t (given name) = column_by_name t name
resolved t (refused r) = none

-- the column that an assignment's target names
unfoldable pub target_column : TableSchema → Target → Option BoundColumnRef
target_column t g = resolved t (target_name g)

-- the old row with a value at the column's position
abbrev pub written : Option BoundColumnRef → Row → Value → Worked Row
written none row v = no_rule
written (some c) row v = worked (set row c.ordinal.0 v)

-- every value is worked out from the old row, and then put into the new one
unfoldable pub assigned : TableSchema → Row → Row → List Assignment → Worked Row
assigned t old new [] = worked new
assigned t old new (a ∷ rest) =
    then (evaluate t old a.value) (λ v. then (written (target_column t a.target) new v) (λ next. assigned t old next rest))

unfoldable pub update_row : TableSchema → Expr → List Assignment → Row → Worked Row
update_row t condition changes row =
    then (evaluate t row condition) (λ v. elim (is_true v) [ true ↦ assigned t row row changes | false ↦ worked row ])
