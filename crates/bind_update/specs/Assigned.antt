-- The assignments one by one: what is judged of an assignment by itself. What follows is in proofs/Assigning.antt.
-- Assumes nothing.
use Rattle.std.specs.Prelude.{Bool}
use Rattle.rules.specs.declared.Class.TheVariants.{ConstraintViolation}
use Rattle.rules.specs.Answers.{Answer, given, refuse_if, ◌>>=◌, ◌>>◌}
use Rattle.rules.specs.Bound.{BoundColumnRef, BoundExpr, BoundAssignment}
use Rattle.rules.specs.Lookup.{in_key}
use Rattle.rules.specs.Statements.{Assignment, Expr}
use Rattle.rules.specs.Tables.{TableSchema}
use Rattle.bind_update.specs.Targets.{target_column, fitting_value}

-- ---- one assignment by itself

abbrev pub assigned : BoundColumnRef → BoundExpr → BoundAssignment
assigned c x = record { column = c; value = x }

-- to its column
abbrev pub assign_to : TableSchema → BoundColumnRef → Expr → Answer BoundAssignment
assign_to t c e = do
  refuse_if (in_key t c.column_id) ConstraintViolation
  x ← fitting_value t c e
  given (assigned c x)

-- `repeated`: its column is an earlier target
abbrev pub judge_assignment : Bool → TableSchema → Assignment → Answer BoundAssignment
judge_assignment repeated t a = do
  c ← target_column t a.target
  refuse_if repeated ConstraintViolation
  assign_to t c a.value
