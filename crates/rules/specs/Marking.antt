-- The marking rules, as functions (`bind_expression` of the Rust). "A marking gives each node a type (INT, TEXT, BOOL, NULL) and
-- may-be-null." `Obeys.antt` has the same rules as a relation.
-- "Refusals: operands first, left before right, then the node. Unknown name, bad number, wrong type: 1. Comparison with type NULL on
-- either side: 3, before other type tests. 'Other': 3."
-- Assumes nothing: these are definitions.
use Rattle.std.specs.Prelude.{Bool, true, false, cond, ◌&&◌, ◌||◌, List, [], ◌∷◌, map, ℕ, ℤ}
use Rattle.std.proofs.Math.Option.{Option, none, some}
use Rattle.tree.specs.Tree.{Tree, leaf, un, bin}
use Rattle.rules.specs.declared.Class.TheVariants.{SchemaMismatch, UnsupportedSql}
use Rattle.rules.specs.declared.ExpressionType.{ExpressionType}
use Rattle.rules.specs.declared.ExpressionType.TheVariants as type
use Rattle.rules.specs.declared.Mark.{Mark}
use Rattle.rules.specs.declared.BoundUnaryOperator.TheVariants.{Positive, Negative, Not}
use Rattle.rules.specs.declared.BoundBinaryOperator.{BoundBinaryOperator}
use Rattle.rules.specs.declared.BoundBinaryOperator.TheVariants as op
use Rattle.rules.specs.Lists.{Text}
use Rattle.rules.specs.Answers.{Answer, given, ◌>>=◌, Verdict, fine, flaw, judged}
use Rattle.rules.specs.Tables.{TableSchema}
use Rattle.rules.specs.Statements.{Leaf, Unary, parentheses, null_test, unary, other_unary, Binary, binary, other_binary, Expr}
use Rattle.rules.specs.Bound.{Value, BoundColumnRef, Marked, BoundLeaf, BoundUnary, BoundExpr, mark_of}
use Rattle.rules.specs.Names.{canonical}
use Rattle.rules.specs.Numbers.{integer_literal}
use Rattle.rules.specs.Lookup.{column_by_name, column_mark, mark}

-- ---- leaves

abbrev pub with : {K : Type 0} → K → Mark → Marked K
with k m = record { kind = k; mark = m }

abbrev pub literal_leaf : Value → ExpressionType → Bool → Verdict (Marked BoundLeaf)
literal_leaf v t n = fine (with (BoundLeaf.literal v) (mark t n))

abbrev pub column_leaf : Option BoundColumnRef → Verdict (Marked BoundLeaf)
column_leaf none = flaw SchemaMismatch
column_leaf (some r) = fine (with (BoundLeaf.column r) (column_mark r))

abbrev pub integer_leaf : Option ℤ → Verdict (Marked BoundLeaf)
integer_leaf none = flaw SchemaMismatch
integer_leaf (some z) = literal_leaf (Value.int z) type.Int false

-- "Name: the column's type and nullability. Number, if its text passes that test, INT, string TEXT, TRUE and FALSE BOOL, none may be
-- null. NULL: type NULL, may be null."
unfoldable pub leaf_rule : TableSchema → Leaf → Verdict (Marked BoundLeaf)
leaf_rule t (Leaf.name n) = column_leaf (column_by_name t (canonical n))
leaf_rule t (Leaf.number s) = integer_leaf (integer_literal false s)
leaf_rule t (Leaf.string s) = literal_leaf (Value.text s) type.Text false
leaf_rule t (Leaf.boolean b) = literal_leaf (Value.bool b) type.Bool false
leaf_rule t Leaf.null = literal_leaf Value.null type.Null true
leaf_rule t Leaf.other_literal = flaw UnsupportedSql
leaf_rule t Leaf.other_expression = flaw UnsupportedSql

-- ---- a sign directly over a number: "the pair is one INT literal, tested as above, never null"

-- whether a node is a sign, and which: yes for minus
unfoldable pub sign : Unary → Option Bool
sign parentheses = none
sign (null_test n) = none
sign (unary Positive) = some false
sign (unary Negative) = some true
sign (unary Not) = none
sign other_unary = none

unfoldable pub leaf_number : Leaf → Option Text
leaf_number (Leaf.name n) = none
leaf_number (Leaf.number s) = some s
leaf_number (Leaf.string s) = none
leaf_number (Leaf.boolean b) = none
leaf_number Leaf.null = none
leaf_number Leaf.other_literal = none
leaf_number Leaf.other_expression = none

unfoldable pub number_in : Expr → Option Text
number_in (leaf l) = leaf_number l
number_in (un o a) = none
number_in (bin o a b) = none

-- the sign and the number's text, where a sign stands directly over a number
abbrev pub together : Option Bool → Option Text → Option (Bool × Text)
together none s = none
together (some n) none = none
together (some n) (some s) = some (n, s)

unfoldable pub signed_number : Unary → Expr → Option (Bool × Text)
signed_number o a = together (sign o) (number_in a)

-- ---- one operand

abbrev pub is : ExpressionType → ExpressionType → Bool
is type.Int type.Int = true
is type.Int type.Text = false
is type.Int type.Bool = false
is type.Int type.Null = false
is type.Text type.Int = false
is type.Text type.Text = true
is type.Text type.Bool = false
is type.Text type.Null = false
is type.Bool type.Int = false
is type.Bool type.Text = false
is type.Bool type.Bool = true
is type.Bool type.Null = false
is type.Null type.Int = false
is type.Null type.Text = false
is type.Null type.Bool = false
is type.Null type.Null = true

abbrev pub operand_of : ExpressionType → Mark → Verdict Mark
operand_of t m = cond (is m.ty t) (fine m) (flaw SchemaMismatch)

-- "Parentheses: as inside. IS NULL, IS NOT NULL: BOOL, never null, over any marked operand. Unary + and -: INT to INT; NOT: BOOL to
-- BOOL; may-be-null as the operand."
unfoldable pub unary_rule : Unary → Mark → Verdict Mark
unary_rule parentheses m = fine m
unary_rule (null_test n) m = fine (mark type.Bool false)
unary_rule (unary Positive) m = operand_of type.Int m
unary_rule (unary Negative) m = operand_of type.Int m
unary_rule (unary Not) m = operand_of type.Bool m
unary_rule other_unary m = flaw UnsupportedSql

-- ---- two operands: the table, from operator, left type and right type to the result's type or a refusal

-- "+ - * / %: two INT give INT. AND, OR: two BOOL give BOOL."
abbrev pub two_of : ExpressionType → ExpressionType → ExpressionType → Verdict ExpressionType
two_of t a b = cond (is a t && is b t) (fine t) (flaw SchemaMismatch)

abbrev pub unless_null : ExpressionType → ExpressionType → Verdict ExpressionType → Verdict ExpressionType
unless_null a b v = cond (is a type.Null || is b type.Null) (flaw UnsupportedSql) v

-- "= and <>: two equal types, not NULL, give BOOL."
abbrev pub equality : ExpressionType → ExpressionType → Verdict ExpressionType
equality a b = unless_null a b (cond (is a b) (fine type.Bool) (flaw SchemaMismatch))

-- "< <= > >=: two INT or two TEXT give BOOL."
abbrev pub ordering : ExpressionType → ExpressionType → Verdict ExpressionType
ordering a b = unless_null a b (cond (is a b && (is a type.Int || is a type.Text)) (fine type.Bool) (flaw SchemaMismatch))

unfoldable pub operator_rule : BoundBinaryOperator → ExpressionType → ExpressionType → Verdict ExpressionType
operator_rule op.Add a b = two_of type.Int a b
operator_rule op.Subtract a b = two_of type.Int a b
operator_rule op.Multiply a b = two_of type.Int a b
operator_rule op.Divide a b = two_of type.Int a b
operator_rule op.Modulo a b = two_of type.Int a b
operator_rule op.Equal a b = equality a b
operator_rule op.NotEqual a b = equality a b
operator_rule op.GreaterThan a b = ordering a b
operator_rule op.GreaterThanOrEqual a b = ordering a b
operator_rule op.LessThan a b = ordering a b
operator_rule op.LessThanOrEqual a b = ordering a b
operator_rule op.And a b = two_of type.Bool a b
operator_rule op.Or a b = two_of type.Bool a b

-- "The 13 operators by left and right type are kept as one table, 13 by 4 by 4."
abbrev pub operators : List BoundBinaryOperator
operators =
    op.Add ∷ op.Subtract ∷ op.Multiply ∷ op.Divide ∷ op.Modulo ∷ op.Equal ∷ op.NotEqual ∷ op.GreaterThan ∷ op.GreaterThanOrEqual
    ∷ op.LessThan ∷ op.LessThanOrEqual ∷ op.And ∷ op.Or ∷ []

abbrev pub types : List ExpressionType
types = type.Int ∷ type.Text ∷ type.Bool ∷ type.Null ∷ []

-- operators and types by their numbers, in the order in which they are declared
abbrev pub operator_no : BoundBinaryOperator → ℕ
operator_no op.Add = 0
operator_no op.Subtract = 1
operator_no op.Multiply = 2
operator_no op.Divide = 3
operator_no op.Modulo = 4
operator_no op.Equal = 5
operator_no op.NotEqual = 6
operator_no op.GreaterThan = 7
operator_no op.GreaterThanOrEqual = 8
operator_no op.LessThan = 9
operator_no op.LessThanOrEqual = 10
operator_no op.And = 11
operator_no op.Or = 12

abbrev pub type_no : ExpressionType → ℕ
type_no type.Int = 0
type_no type.Text = 1
type_no type.Bool = 2
type_no type.Null = 3

unfoldable pub operator_table : List (List (List (Verdict ExpressionType)))
operator_table = map (λ (o : BoundBinaryOperator). map (λ (a : ExpressionType). map (λ (b : ExpressionType). operator_rule o a b) types) types) operators

-- "May be null if either operand may."
abbrev pub typed : Verdict ExpressionType → Bool → Verdict Mark
typed (fine t) n = fine (mark t n)
typed (flaw k) n = flaw k

unfoldable pub binary_rule : Binary → Mark → Mark → Verdict Mark
binary_rule (binary o) a b = typed (operator_rule o a.ty b.ty) (a.nullable || b.nullable)
binary_rule other_binary a b = flaw UnsupportedSql

-- ---- the marking of a tree: a mark at each node, but for a number below its sign

abbrev pub Marking : Type 0
Marking = Tree Mark Mark Mark

abbrev pub root_mark : Marking → Mark
root_mark (leaf m) = m
root_mark (un m w) = m
root_mark (bin m w z) = m

abbrev pub marked_leaf : Marked BoundLeaf → Answer Marking
marked_leaf l = given (leaf l.mark)

-- a sign directly over a number has its own rule; without one the rest decides
abbrev pub or_signed : {A : Type 0} → Option (Bool × Text) → (Marked BoundLeaf → Answer A) → Answer A → Answer A
or_signed none f rest = rest
or_signed (some p) f rest = judged (integer_leaf (integer_literal p.0 p.1)) >>= f

unfoldable pub marking : TableSchema → Expr → Answer Marking
marking t (leaf l) = judged (leaf_rule t l) >>= marked_leaf
marking t (un o a) =
    or_signed (signed_number o a) marked_leaf (marking t a >>= (λ w. judged (unary_rule o (root_mark w)) >>= (λ m. given (un m w))))
marking t (bin o a b) =
    marking t a >>= (λ w. marking t b >>= (λ z. judged (binary_rule o (root_mark w) (root_mark z)) >>= (λ m. given (bin m w z))))

-- ---- the bound expression: the same tree with its marks, without parentheses, a signed number as one literal

abbrev pub bound_leaf : Marked BoundLeaf → Answer BoundExpr
bound_leaf l = given (leaf l)

-- (the last case is never reached: no mark is given there)
unfoldable pub bound_unary : Unary → Mark → BoundExpr → BoundExpr
bound_unary parentheses m a = a
bound_unary (null_test n) m a = un (with (BoundUnary.is_null n) m) a
bound_unary (unary o) m a = un (with (BoundUnary.unary o) m) a
bound_unary other_unary m a = a

unfoldable pub bound_binary : Binary → Mark → BoundExpr → BoundExpr → BoundExpr
bound_binary (binary o) m a b = bin (with o m) a b
bound_binary other_binary m a b = a

unfoldable pub bind_expression : TableSchema → Expr → Answer BoundExpr
bind_expression t (leaf l) = judged (leaf_rule t l) >>= bound_leaf
bind_expression t (un o a) =
    or_signed (signed_number o a) bound_leaf (bind_expression t a >>= (λ x. judged (unary_rule o (mark_of x)) >>= (λ m. given (bound_unary o m x))))
bind_expression t (bin o a b) =
    bind_expression t a >>= (λ x. bind_expression t b >>= (λ y. judged (binary_rule o (mark_of x) (mark_of y)) >>= (λ m. given (bound_binary o m x y))))
