-- The rules as a relation: a marking obeys them at every node, a value fits its column, an UPDATE obeys. Nothing here says in which order
-- things are looked at, and nothing is refused: what has no rule has no marking.
-- Assumes nothing: these are definitions.
use Rattle.std.specs.Prelude.{◌≡◌, Bool, true, false, ◌||◌, ◌⊎◌, List, [], ◌∷◌, ℤ}
use Rattle.std.proofs.Math.Option.{some, none}
use Rattle.tree.specs.Tree.{leaf, un, bin}
use Rattle.rules.specs.declared.ExpressionType.{ExpressionType}
use Rattle.rules.specs.declared.ExpressionType.TheVariants as type
use Rattle.rules.specs.declared.Mark.{Mark}
use Rattle.rules.specs.declared.BoundUnaryOperator.TheVariants.{Positive, Negative, Not}
use Rattle.rules.specs.declared.BoundBinaryOperator.{BoundBinaryOperator}
use Rattle.rules.specs.declared.BoundBinaryOperator.TheVariants as op
use Rattle.rules.specs.Lists.{Text, distinct}
use Rattle.rules.specs.Tables.{TableSchema, same_id}
use Rattle.rules.specs.Statements.{Name, plain, Leaf, Unary, parentheses, null_test, unary, other_unary, Binary, binary, other_binary, Expr, target, Assignment}
use Rattle.rules.specs.Bound.{BoundColumnRef}
use Rattle.rules.specs.Names.{canonical}
use Rattle.rules.specs.Numbers.{integer_literal}
use Rattle.rules.specs.Lookup.{column_by_name, column_mark, in_key, expression_type, mark}
use Rattle.rules.specs.Marking.{Marking, root_mark, signed_number}

-- a number text, under a minus or not, is in range, and the mark is that of a literal
pub record NumberObeys (negative : Bool) (s : Text) (m : Mark) : Type 0 where
  pub value : ℤ
  pub ranged : integer_literal negative s ≡ some value
  pub marked : m ≡ mark type.Int false

pub record NameObeys (t : TableSchema) (name : Text) (m : Mark) : Type 0 where
  pub column : BoundColumnRef
  pub known : column_by_name t name ≡ some column
  pub marked : m ≡ column_mark column

unfoldable pub LeafObeys : TableSchema → Leaf → Mark → Type 0
LeafObeys t (Leaf.name n) m = NameObeys t (canonical n) m
LeafObeys t (Leaf.number s) m = NumberObeys false s m
LeafObeys t (Leaf.string s) m = m ≡ mark type.Text false
LeafObeys t (Leaf.boolean b) m = m ≡ mark type.Bool false
LeafObeys t Leaf.null m = m ≡ mark type.Null true
LeafObeys t Leaf.other_literal m = ⊥
LeafObeys t Leaf.other_expression m = ⊥

-- one operand, marked a
unfoldable pub UnaryObeys : Unary → Mark → Mark → Type 0
UnaryObeys parentheses a m = m ≡ a
UnaryObeys (null_test n) a m = m ≡ mark type.Bool false
UnaryObeys (unary Positive) a m = (a.ty ≡ type.Int) × (m ≡ a)
UnaryObeys (unary Negative) a m = (a.ty ≡ type.Int) × (m ≡ a)
UnaryObeys (unary Not) a m = (a.ty ≡ type.Bool) × (m ≡ a)
UnaryObeys other_unary a m = ⊥

-- two operands: the result's type from the operands' types
abbrev pub TwoOf : ExpressionType → ExpressionType → ExpressionType → ExpressionType → Type 0
TwoOf t a b r = (a ≡ t) × (b ≡ t) × (r ≡ t)

abbrev pub Equality : ExpressionType → ExpressionType → ExpressionType → Type 0
Equality a b r = (a ≡ b) × (a ≡ type.Null → ⊥) × (r ≡ type.Bool)

abbrev pub Ordering : ExpressionType → ExpressionType → ExpressionType → Type 0
Ordering a b r = (a ≡ b) × ((a ≡ type.Int) ⊎ (a ≡ type.Text)) × (r ≡ type.Bool)

unfoldable pub OperatorObeys : BoundBinaryOperator → ExpressionType → ExpressionType → ExpressionType → Type 0
OperatorObeys op.Add a b r = TwoOf type.Int a b r
OperatorObeys op.Subtract a b r = TwoOf type.Int a b r
OperatorObeys op.Multiply a b r = TwoOf type.Int a b r
OperatorObeys op.Divide a b r = TwoOf type.Int a b r
OperatorObeys op.Modulo a b r = TwoOf type.Int a b r
OperatorObeys op.Equal a b r = Equality a b r
OperatorObeys op.NotEqual a b r = Equality a b r
OperatorObeys op.GreaterThan a b r = Ordering a b r
OperatorObeys op.GreaterThanOrEqual a b r = Ordering a b r
OperatorObeys op.LessThan a b r = Ordering a b r
OperatorObeys op.LessThanOrEqual a b r = Ordering a b r
OperatorObeys op.And a b r = TwoOf type.Bool a b r
OperatorObeys op.Or a b r = TwoOf type.Bool a b r

unfoldable pub BinaryObeys : Binary → Mark → Mark → Mark → Type 0
BinaryObeys (binary o) a b m = OperatorObeys o a.ty b.ty m.ty × (m.nullable ≡ (a.nullable || b.nullable))
BinaryObeys other_binary a b m = ⊥

-- the rules hold at every node. "A number directly below a unary + or - has none of its own: the pair is one INT literal."
pub data Obeys (t : TableSchema) : Expr → Marking → Type 0 where
  at_leaf : {l : Leaf} {m : Mark} → LeafObeys t l m → Obeys t (leaf l) (leaf m)
  at_signed : {o : Unary} {a : Expr} {m : Mark} (negative : Bool) (s : Text) → signed_number o a ≡ some (negative, s) → NumberObeys negative s m
      → Obeys t (un o a) (leaf m)
  at_unary : {o : Unary} {a : Expr} {m : Mark} {w : Marking} → signed_number o a ≡ none → Obeys t a w → UnaryObeys o (root_mark w) m
      → Obeys t (un o a) (un m w)
  at_binary : {o : Binary} {a b : Expr} {m : Mark} {w z : Marking} → Obeys t a w → Obeys t b z → BinaryObeys o (root_mark w) (root_mark z) m
      → Obeys t (bin o a b) (bin m w z)

-- ---- a value given to a column: "each given a fitting value, none that may be null where the column forbids it"

pub record FitObeys (m : Mark) (c : BoundColumnRef) : Type 0 where
  pub fitting : (m.ty ≡ type.Null) ⊎ (m.ty ≡ expression_type c.ty)
  pub null_allowed : m.nullable ≡ true → c.nullable ≡ true

-- ---- an UPDATE

-- the target is a plain column outside the key, and its value fits it
pub record AssignmentObeys (t : TableSchema) (a : Assignment) (c : BoundColumnRef) : Type 0 where
  pub name : Name
  pub is_plain : a.target ≡ target (plain name)
  pub is_column : column_by_name t (canonical name) ≡ some c
  pub outside_key : in_key t c.column_id ≡ false
  pub marking : Marking
  pub value_obeys : Obeys t a.value marking
  pub fits : FitObeys (root_mark marking) c

pub data AssignmentsObey (t : TableSchema) : List Assignment → List BoundColumnRef → Type 0 where
  no_more : AssignmentsObey t [] []
  and_then : {a : Assignment} {c : BoundColumnRef} {rest : List Assignment} {cs : List BoundColumnRef}
      → AssignmentObeys t a c → AssignmentsObey t rest cs → AssignmentsObey t (a ∷ rest) (c ∷ cs)

abbrev pub same_column : BoundColumnRef → BoundColumnRef → Bool
same_column a b = same_id a.column_id b.column_id

-- some marking of its expressions meets the rule at every node, the WHERE is BOOL, and the targets are distinct
pub record UpdateObeys (t : TableSchema) (assignments : List Assignment) (condition : Expr) : Type 0 where
  pub targets : List BoundColumnRef
  pub assignments_obey : AssignmentsObey t assignments targets
  pub distinct_targets : distinct same_column targets ≡ true
  pub marking : Marking
  pub condition_obeys : Obeys t condition marking
  pub is_bool : (root_mark marking).ty ≡ type.Bool
