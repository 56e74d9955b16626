-- Bound statements as plain values, with the fields of bound.rs.
-- Assumes nothing: these are definitions.
use Rattle.std.specs.Prelude.{Bool, List, ℕ, ℤ}
use Rattle.std.proofs.Math.Option.{Option}
use Rattle.tree.specs.Tree.{Tree, leaf, un, bin}
use Rattle.rules.specs.declared.TableId.{TableId}
use Rattle.rules.specs.declared.ColumnId.{ColumnId}
use Rattle.rules.specs.declared.Ordinal.{Ordinal}
use Rattle.rules.specs.declared.DataType.{DataType}
use Rattle.rules.specs.declared.Mark.{Mark}
use Rattle.rules.specs.declared.BoundUnaryOperator.{BoundUnaryOperator}
use Rattle.rules.specs.declared.BoundBinaryOperator.{BoundBinaryOperator}
use Rattle.rules.specs.Lists.{Text}
use Rattle.rules.specs.Tables.{ColumnSchema}

-- a value of a row, or of a literal; integers are exact
pub data Value : Type 0 where
  int : ℤ → Value
  text : Text → Value
  bool : Bool → Value
  null : Value

pub record BoundTableRef : Type 0 where
  pub table_id : TableId
  pub name : Text
  pub version : ℕ

-- `column_id` says which column it is, `ordinal` where its value stands in a row
pub record BoundColumnRef : Type 0 where
  pub table_id : TableId
  pub column_id : ColumnId
  pub ordinal : Ordinal
  pub name : Text
  pub ty : DataType
  pub nullable : Bool

-- ---- bound expressions: at each node a kind, with the node's mark (`data_type` and `nullable` in the Rust)

pub record Marked (K : Type 0) : Type 0 where
  pub kind : K
  pub mark : Mark

pub data BoundLeaf : Type 0 where
  column : BoundColumnRef → BoundLeaf
  literal : Value → BoundLeaf

pub data BoundUnary : Type 0 where
  unary : BoundUnaryOperator → BoundUnary
  is_null : (negated : Bool) → BoundUnary

abbrev pub BoundExpr : Type 0
BoundExpr = Tree (Marked BoundLeaf) (Marked BoundUnary) (Marked BoundBinaryOperator)

abbrev pub mark_of : BoundExpr → Mark
mark_of (leaf l) = l.mark
mark_of (un o a) = o.mark
mark_of (bin o a b) = o.mark

-- ---- bound statements

pub record BoundCreateTable : Type 0 where
  pub table_name : Text
  pub columns : List ColumnSchema
  pub key : List ColumnId

pub record BoundInsert : Type 0 where
  pub table : BoundTableRef
  pub target_columns : List BoundColumnRef
  pub rows : List (List Value)

pub record BoundSelect : Type 0 where
  pub table : BoundTableRef
  pub projection : List BoundColumnRef
  pub filter : Option BoundExpr

pub record BoundAssignment : Type 0 where
  pub column : BoundColumnRef
  pub value : BoundExpr

pub record BoundUpdate : Type 0 where
  pub table : BoundTableRef
  pub assignments : List BoundAssignment
  pub filter : BoundExpr

pub record BoundDelete : Type 0 where
  pub table : BoundTableRef
  pub filter : BoundExpr

pub data BoundStatement : Type 0 where
  bound_create_table : BoundCreateTable → BoundStatement
  bound_insert : BoundInsert → BoundStatement
  bound_select : BoundSelect → BoundStatement
  bound_update : BoundUpdate → BoundStatement
  bound_delete : BoundDelete → BoundStatement
  bound_begin bound_commit bound_rollback bound_show_tables bound_show_transactions : BoundStatement
