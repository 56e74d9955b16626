-- Parsed statements as plain values: the raw text, the kind, and the fields the Rust looks at. A test of the Rust that can only end
-- in `UnsupportedSql` is a mark (a `Bool`, yes where the Rust refuses) at its place, or a form that holds nothing.
-- Assumes nothing: these are definitions.
use Rattle.std.specs.Prelude.{Bool, List}
use Rattle.std.proofs.Math.Option.{Option}
use Rattle.tree.specs.Tree.{Tree}
use Rattle.rules.specs.declared.DataType.{DataType}
use Rattle.rules.specs.declared.BoundUnaryOperator.{BoundUnaryOperator}
use Rattle.rules.specs.declared.BoundBinaryOperator.{BoundBinaryOperator}
use Rattle.rules.specs.Lists.{Text}

pub record Name : Type 0 where
  pub quoted : Bool
  pub text : Text

-- an object name has one part, or another number of parts
pub data ObjectName : Type 0 where
  plain : Name → ObjectName
  qualified : ObjectName

-- ---- expressions
-- "Nodes: name, number text, string, TRUE, FALSE, NULL, other literal, other expression (leaves); parentheses, IS NULL, IS NOT NULL,
-- unary + - NOT other (one operand); the 13 operators of `BoundBinaryOperator` and other (two)."

pub data Leaf : Type 0 where
  name : Name → Leaf
  number : Text → Leaf
  string : Text → Leaf
  boolean : Bool → Leaf
  null other_literal other_expression : Leaf

pub data Unary : Type 0 where
  parentheses : Unary
  null_test : (negated : Bool) → Unary
  unary : BoundUnaryOperator → Unary
  other_unary : Unary

pub data Binary : Type 0 where
  binary : BoundBinaryOperator → Binary
  other_binary : Binary

abbrev pub Expr : Type 0
Expr = Tree Leaf Unary Binary

-- ---- CREATE TABLE

-- `INT`, `INTEGER` (with a length or not), `TEXT`, `BOOL`, `BOOLEAN` only
pub data ColumnType : Type 0 where
  known : DataType → ColumnType
  other_type : ColumnType

pub data OptionKind : Type 0 where
  option_null option_not_null option_key option_key_with_characteristics other_option : OptionKind

pub record ColumnOption : Type 0 where
  pub named : Bool
  pub kind : OptionKind

pub record ColumnDefinition : Type 0 where
  pub collation : Bool
  pub name : Name
  pub options : List ColumnOption
  pub ty : ColumnType

pub data Constraint : Type 0 where
  primary_key : (marked : Bool) → List Name → Constraint
  other_constraint : Constraint

pub record CreateTable : Type 0 where
  pub if_not_exists : Bool
  pub as_query : Bool
  pub other_feature : Bool
  pub name : ObjectName
  pub columns : List ColumnDefinition
  pub constraints : List Constraint

-- ---- INSERT

pub data SourceBody : Type 0 where
  values : (explicitRow : Bool) → List (List Expr) → SourceBody
  not_values : SourceBody

-- the query that is an INSERT's source
pub record Source : Type 0 where
  pub clauses : Bool
  pub body : SourceBody

pub record Insert : Type 0 where
  pub modified : Bool
  pub name : ObjectName
  pub columns : List Name
  pub source : Option Source

-- ---- one table, of SELECT, UPDATE and DELETE

pub data Relation : Type 0 where
  direct : (marked : Bool) → ObjectName → Relation
  indirect : Relation

pub record TableWithJoins : Type 0 where
  pub joins : Bool
  pub relation : Relation

-- ---- SELECT

pub data Item : Type 0 where
  star : Item
  column : Name → Item
  other_item : Item

pub data From : Type 0 where
  one : TableWithJoins → From
  not_one : From

pub record Select : Type 0 where
  pub features : Bool
  pub from : From
  pub items : List Item
  pub condition : Option Expr

pub data QueryBody : Type 0 where
  plain_select : Select → QueryBody
  not_plain : QueryBody

pub record Query : Type 0 where
  pub clauses : Bool
  pub body : QueryBody

-- ---- UPDATE

pub data Target : Type 0 where
  target : ObjectName → Target
  tuple : Target

pub record Assignment : Type 0 where
  pub target : Target
  pub value : Expr

pub record Update : Type 0 where
  pub from : Bool
  pub returning : Bool
  pub conflict : Bool
  pub table : TableWithJoins
  pub assignments : List Assignment
  pub condition : Option Expr

-- ---- DELETE

pub data DeleteFrom : Type 0 where
  from : From → DeleteFrom
  no_keyword : DeleteFrom

pub record Delete : Type 0 where
  pub tables : Bool
  pub using_clause : Bool
  pub returning : Bool
  pub order_by : Bool
  pub limit : Bool
  pub from : DeleteFrom
  pub condition : Option Expr

-- ---- the statement

pub data Kind : Type 0 where
  create_table : CreateTable → Kind
  insert : Insert → Kind
  query : Query → Kind
  update : Update → Kind
  delete : Delete → Kind
  begin : (marked : Bool) → Kind
  commit : (chain : Bool) → Kind
  rollback : (chain savepoint : Bool) → Kind
  show_tables : (marked : Bool) → Kind
  other_kind : Kind

pub record Statement : Type 0 where
  pub raw : Text
  pub kind : Kind
