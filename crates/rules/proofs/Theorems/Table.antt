-- The operator table is the rule of the operators, entry by entry.
-- Assumes nothing.
use Rattle.std.specs.Prelude.{◌≡◌, refl, [], map, length, get_or, replicate}
use Rattle.std.proofs.Math.Option.{some}
use Rattle.std.proofs.Math.ListN.{get_elem?}
use Rattle.rules.specs.declared.Class.TheVariants.{SchemaMismatch}
use Rattle.rules.specs.declared.ExpressionType.{ExpressionType}
use Rattle.rules.specs.declared.ExpressionType.TheVariants as type
use Rattle.rules.specs.declared.BoundBinaryOperator.{BoundBinaryOperator}
use Rattle.rules.specs.declared.BoundBinaryOperator.TheVariants as op
use Rattle.rules.specs.Answers.{flaw}
use Rattle.rules.specs.Marking.{operator_rule, operators, operator_no, types, type_no, operator_table}

at_type : {B : Type 0} (f : ExpressionType → B) (d : B) (a : ExpressionType) → get_or (map f types) (type_no a) d ≡ f a
at_type f d type.Int = refl
at_type f d type.Text = refl
at_type f d type.Bool = refl
at_type f d type.Null = refl

at_operator : {B : Type 0} (f : BoundBinaryOperator → B) (d : B) (o : BoundBinaryOperator) → get_or (map f operators) (operator_no o) d ≡ f o
at_operator f d op.Add = refl
at_operator f d op.Subtract = refl
at_operator f d op.Multiply = refl
at_operator f d op.Divide = refl
at_operator f d op.Modulo = refl
at_operator f d op.Equal = refl
at_operator f d op.NotEqual = refl
at_operator f d op.GreaterThan = refl
at_operator f d op.GreaterThanOrEqual = refl
at_operator f d op.LessThan = refl
at_operator f d op.LessThanOrEqual = refl
at_operator f d op.And = refl
at_operator f d op.Or = refl

-- "The 13 operators by left and right type are kept as one table, 13 by 4 by 4."
pub table_shape : map (map length) operator_table ≡ replicate 13 (replicate 4 4)
unfolding operator_table
table_shape = refl

-- The entry for an operator and two types is the rule.
pub table_entry : (o : BoundBinaryOperator) (a b : ExpressionType)
    → get_or (get_or (get_or operator_table (operator_no o) []) (type_no a) []) (type_no b) (flaw SchemaMismatch) ≡ operator_rule o a b
unfolding operator_table
table_entry o a b = rw (at_operator, at_type, at_type)

-- an operator is found at its number
pub operator_found : (o : BoundBinaryOperator) → get_elem? operators (operator_no o) ≡ some o
operator_found op.Add = refl
operator_found op.Subtract = refl
operator_found op.Multiply = refl
operator_found op.Divide = refl
operator_found op.Modulo = refl
operator_found op.Equal = refl
operator_found op.NotEqual = refl
operator_found op.GreaterThan = refl
operator_found op.GreaterThanOrEqual = refl
operator_found op.LessThan = refl
operator_found op.LessThanOrEqual = refl
operator_found op.And = refl
operator_found op.Or = refl
