-- `statement_ascii::inserts::body_beyond` meets its contract.
use Rattle.statement_ascii.specs.Beyond.{Beyond, gather_looks}
use Rattle.bytes_bundle.specs.Chains.{list_callable, list_looked}
use Rattle.bytes_bundle.specs.Held.{list_bundle}
use Rattle.bytes_bundle.specs.Decides.{failed, passed}
use Rattle.bytes_bundle.specs.Looks.{Inside, inside_is, inside_says}
use Rattle.bytes_format.proofs.Formats.{list_of}
use Rattle.image_expression.specs.Expression.{expression}
use Rattle.statement_limits.specs.Cases.{no_values, rows_inside}
use Rattle.rules.specs.Limits.{gather, expression_names, body_rows}
use Rattle.rules.specs.Statements.{Expr}
use Rattle.image_parts.specs.Layout.{source_body}
use borrow.Author.Rules.{rules}
use mathlib.Core.Bool.{Bool}
use mathlib.Core.List.{List}
use mathlib.Core.Path.{sym, ap}
use Rattle.statement_ascii.proofs.inserts.body_beyond.Goals.{After-rows_of}
use Rattle.std.proofs.Common.{not}
use Rattle.statement_ascii.proofs.inserts.body_beyond.Goals as goal

-- the names in rows
abbrev beyond : List (List Expr) → Bool
beyond rows = Beyond (gather (gather expression_names) rows)

inner : (c : After-rows_of) → Inside source_body (list_of 2 (list_of 2 expression)) body_rows (λ rows. rows) c.args.b.now c.rows_of.result.now
inner c = rows_inside (λ v h. passed (c.is_values.ensures v h) (ap not c.if-not-is_values.false)) c.rows_of.ensures

pub returns-then-not-is_values : goal.returns-then-not-is_values
returns-then-not-is_values c = λ v h. sym (ap beyond (no_values v (failed (c.is_values.ensures v h) (ap not c.if-not-is_values.true))))

pub rows_of-requires : goal.rows_of-requires
rows_of-requires c = record { there = c.requires.there; case = λ v h. passed (c.is_values.ensures v h) (ap not c.if-not-is_values.false) }

pub iter-requires : goal.iter-requires
iter-requires c = (search rules, list_bundle (list_of 2 expression) (inside_is (inner (goal.at.iter-requires c).After-rows_of) c.requires))

pub any-requires-clause-callable : goal.any-requires-clause-callable
any-requires-clause-callable c =
    list_callable (list_of 2 expression) 2 _ _ c.iter.ensures (inside_is (inner (goal.at.any-requires-clause-callable c).After-rows_of) c.requires) (λ x b q k. search rules) (λ x i. search rules)

pub returns : goal.returns
returns c = inside_says (inner (goal.at.returns c).After-rows_of) beyond
    (list_looked (list_of 2 expression) (gather_looks (gather expression_names)) 2 _ _ c.iter.ensures _ _ c.any.ensures.ran (λ x b q k. search rules))
