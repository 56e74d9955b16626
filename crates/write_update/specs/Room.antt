-- What the writers of an UPDATE's parts ask for: what they write is bound, and has room.
-- Assumes nothing: these are definitions.
use Rattle.std.specs.Prelude.{◌≡◌, List, [], ℕ, ◌+◌, ◌≤◌, length}
use Rattle.bytes_format.proofs.Formats.{list_of}
use Rattle.bytes_bundle.specs.Held.{Holds}
use Rattle.image_bound.specs.Layout as layout
use Rattle.image_bound.specs.Layout.{bound_statement}
use Rattle.catalogue_lookup.specs.declared.Column.{Column}
use Rattle.catalogue_lookup.specs.Finds.{ColumnBound}
use Rattle.image_catalogue.specs.Layout.{table}
use Rattle.image_expression.specs.Expression as image
use Rattle.image_parts.specs.Layout.{assignment}
use Rattle.bind_where.specs.Short.{ShortExpression}
use Rattle.rules.specs.Answers.{given}
use Rattle.rules.specs.Analyze.{assignments}
use Rattle.rules.specs.Bound.{BoundColumnRef, BoundExpr, BoundAssignment, BoundStatement}
use Rattle.rules.specs.Marking.{bind_expression}
use Rattle.rules.specs.Statements.{Assignment, Expr}
use Rattle.rules.specs.Tables.{TableSchema}
use Rattle.bind_update.specs.Assigned.{assigned}
use Rattle.bind_update.specs.Updated.{update_table}
use Rattle.bind_update.specs.Within.{ShortAssignment, ShortAssignments}
use Rattle.write_update.specs.Given.{AssignmentGiven}

-- the value e, given to a column that was found in the table t
pub record AssignedRoom (t e : List ℕ) (column : Column) (o : List ℕ) (at : ℕ) : Type 0 where
  pub schema : TableSchema
  pub holds : Holds table t schema
  pub expression : ShortExpression e
  pub tree : Expr
  pub reads : Holds image.expression e tree
  pub ref : BoundColumnRef
  pub is : ColumnBound column ref
  pub value : BoundExpr
  pub binds : bind_expression schema tree ≡ given value
  pub room : at + length ((layout.assignment).write (assigned ref value)) ≤ length o

pub record AssignmentRoom (t a o : List ℕ) (at : ℕ) : Type 0 where
  pub schema : TableSchema
  pub holds : Holds table t schema
  pub names : ShortAssignment a
  pub tree : Assignment
  pub reads : Holds assignment a tree
  pub value : BoundAssignment
  pub gives : AssignmentGiven schema tree value
  pub room : at + length ((layout.assignment).write value) ≤ length o

pub record AssignmentsRoom (t s o : List ℕ) (at : ℕ) : Type 0 where
  pub schema : TableSchema
  pub holds : Holds table t schema
  pub names : ShortAssignments s
  pub list : List Assignment
  pub reads : Holds (list_of 2 assignment) s list
  pub values : List BoundAssignment
  pub gives : assignments schema [] list ≡ given values
  pub room : at + length ((list_of 4 layout.assignment).write values) ≤ length o

-- the whole over its table
pub record TableRoom (t s w o : List ℕ) : Type 0 where
  pub schema : TableSchema
  pub holds : Holds table t schema
  pub names : ShortAssignments s
  pub list : List Assignment
  pub reads : Holds (list_of 2 assignment) s list
  pub expression : ShortExpression w
  pub condition : Expr
  pub filters : Holds image.expression w condition
  pub value : BoundStatement
  pub gives : update_table schema list condition ≡ given value
  pub room : length (bound_statement.write value) ≤ length o
