-- A condition, and a value given to a column.
-- Assumes nothing: these are definitions.
use Rattle.std.specs.Prelude.{cond, not, ◌&&◌}
use Rattle.rules.specs.declared.Class.TheVariants.{SchemaMismatch, ConstraintViolation}
use Rattle.rules.specs.declared.ExpressionType.TheVariants as type
use Rattle.rules.specs.declared.Mark.{Mark}
use Rattle.rules.specs.Answers.{Answer, given, ◌>>=◌, Verdict, fine, flaw, judged}
use Rattle.rules.specs.Tables.{TableSchema}
use Rattle.rules.specs.Statements.{Expr}
use Rattle.rules.specs.Bound.{BoundColumnRef, BoundExpr, mark_of}
use Rattle.rules.specs.Lookup.{expression_type}
use Rattle.rules.specs.Marking.{is, bind_expression}

-- "A condition must be BOOL, else 1."
abbrev pub is_condition : Mark → Verdict Unit
is_condition m = cond (is m.ty type.Bool) (fine tt) (flaw SchemaMismatch)

unfoldable pub bind_boolean_filter : TableSchema → Expr → Answer BoundExpr
bind_boolean_filter t e = bind_expression t e >>= (λ x. judged (is_condition (mark_of x)) >>= (λ u. given x))

-- "A value given to a column: type NULL into a column not nullable, 2; other type, 1; may be null into one not nullable, 2."
unfoldable pub fit : Mark → BoundColumnRef → Verdict Unit
fit m c =
    cond (is m.ty type.Null) (cond c.nullable (fine tt) (flaw ConstraintViolation))
    (cond (not (is m.ty (expression_type c.ty))) (flaw SchemaMismatch)
    (cond (m.nullable && not c.nullable) (flaw ConstraintViolation) (fine tt)))
