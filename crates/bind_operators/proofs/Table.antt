-- The table is read at the places of an operator and of two types: what stands there is the rule's word.
-- Assumes nothing.
use mathlib.Core.Path.{◌≡◌, refl}
use mathlib.Core.List.{List, [], ◌∷◌, map}
use mathlib.Core.Option.{some}
use Prim.Native.Nat.{ℕ, zero, suc}
use lib.ListN.{get_or, get_elem?}
use denote.Enum.Declared.{tag_of}
use Rattle.std.specs.Prelude.{Result}
use Rattle.rules.specs.contracts.BoundBinaryOperator as binary_operator
use Rattle.rules.specs.contracts.ExpressionType as expression_type
use Rattle.rules.specs.declared.BoundBinaryOperator.{BoundBinaryOperator}
use Rattle.rules.specs.declared.Class.{Class}
use Rattle.rules.specs.declared.BoundBinaryOperator.TheVariants as op
use Rattle.rules.specs.declared.ExpressionType.{ExpressionType}
use Rattle.rules.specs.declared.ExpressionType.TheVariants as type
use Rattle.rules.specs.Marking.{operators, operator_no, types, type_no, operator_rule}
use Rattle.rules.proofs.Theorems.Table.{operator_found}
use Rattle.bind_operators.specs.Told.{told}

map_at : {A B : Type 0} (f : A → B) (l : List A) (k : ℕ) (d : B) (x : A) → get_elem? l k ≡ some x → get_or (map f l) k d ≡ f x
map_at f [] k d x p = cc
map_at f (a ∷ l) zero d x p = cc
map_at f (a ∷ l) (suc k) d x p = map_at f l k d x p

type_found : (t : ExpressionType) → get_elem? types (type_no t) ≡ some t
type_found type.Int = refl
type_found type.Text = refl
type_found type.Bool = refl
type_found type.Null = refl

-- operators and types stand in the table where they are declared
operator_cast : (o : BoundBinaryOperator) → tag_of binary_operator.the_type o ≡ operator_no o
operator_cast op.Add = refl
operator_cast op.Subtract = refl
operator_cast op.Multiply = refl
operator_cast op.Divide = refl
operator_cast op.Modulo = refl
operator_cast op.Equal = refl
operator_cast op.NotEqual = refl
operator_cast op.GreaterThan = refl
operator_cast op.GreaterThanOrEqual = refl
operator_cast op.LessThan = refl
operator_cast op.LessThanOrEqual = refl
operator_cast op.And = refl
operator_cast op.Or = refl

type_cast : (t : ExpressionType) → tag_of expression_type.the_type t ≡ type_no t
type_cast type.Int = refl
type_cast type.Text = refl
type_cast type.Bool = refl
type_cast type.Null = refl

-- the rules of the operators, told. A table that is written out computes to this, so that all of its entries are compared
abbrev pub entries : List (List (List (Result ExpressionType Class)))
entries =
    map (λ (o : BoundBinaryOperator). map (λ (a : ExpressionType). map (λ (b : ExpressionType). told (operator_rule o a b)) types) types)
    operators

pub table_at : (o : BoundBinaryOperator) (a b : ExpressionType) (d : Result ExpressionType Class) (e : List (Result ExpressionType Class))
    (g : List (List (Result ExpressionType Class)))
    → get_or (get_or (get_or entries (tag_of binary_operator.the_type o) g) (tag_of expression_type.the_type a) e) (tag_of expression_type.the_type b) d
    ≡ told (operator_rule o a b)
table_at o a b d e g =
    rw (
      operator_cast o,
      type_cast a,
      type_cast b,
      map_at (λ x. map (λ y. map (λ z. told (operator_rule x y z)) types) types) operators (operator_no o) g o (operator_found o),
      map_at (λ y. map (λ z. told (operator_rule o y z)) types) types (type_no a) e a (type_found a),
      map_at (λ z. told (operator_rule o a z)) types (type_no b) d b (type_found b),
    )
