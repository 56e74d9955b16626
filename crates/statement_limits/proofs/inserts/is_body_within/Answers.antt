-- `statement_limits::inserts::is_body_within` meets its contract.
use Rattle.bytes_bundle.specs.Decides.{failed, passed}
use Rattle.bytes_bundle.specs.Looks.{Inside, inside_is, inside_says}
use Rattle.bytes_format.proofs.Formats.{list_of}
use Rattle.image_expression.specs.Expression.{expression}
use Rattle.bytes_bundle.specs.Held.{list_bundle}
use Rattle.statement_limits.specs.Lists.{list_takes, list_told}
use Rattle.statement_limits.specs.Cases.{no_values, rows_inside}
use Rattle.statement_limits.specs.Within.{list_within, row_within}
use Rattle.rules.specs.Limits.{body_rows}
use Rattle.image_parts.specs.Layout.{source_body}
use borrow.Author.Rules.{rules}
use mathlib.Core.Path.{sym, ap}
use Rattle.statement_limits.proofs.inserts.is_body_within.Goals.{After-rows_of}
use Rattle.std.proofs.Common.{not}
use Rattle.statement_limits.proofs.inserts.is_body_within.Goals as goal

inner : (c : After-rows_of) → Inside source_body (list_of 2 (list_of 2 expression)) body_rows (λ rows. rows) c.args.b.now c.rows_of.result.now
inner c = rows_inside (λ v h. passed (c.is_values.ensures v h) (ap not c.if-not-is_values.false)) c.rows_of.ensures

pub returns-then-not-is_values : goal.returns-then-not-is_values
unfolding list_within
returns-then-not-is_values c = λ v h. sym (ap (list_within 1024 row_within) (no_values v (failed (c.is_values.ensures v h) (ap not c.if-not-is_values.true))))

pub rows_of-requires : goal.rows_of-requires
rows_of-requires c = record { there = c.requires.there; case = λ v h. passed (c.is_values.ensures v h) (ap not c.if-not-is_values.false) }

pub is_list_within-requires-clause-bundle : goal.is_list_within-requires-clause-bundle
is_list_within-requires-clause-bundle c = list_bundle (list_of 2 expression) (inside_is (inner (goal.at.is_list_within-requires-clause-bundle c).After-rows_of) c.requires)

pub is_list_within-requires-clause-takes : goal.is_list_within-requires-clause-takes
is_list_within-requires-clause-takes c =
    list_takes (list_of 2 expression) _ (inside_is (inner (goal.at.is_list_within-requires-clause-takes c).After-rows_of) c.requires) (λ x i. search rules)

pub returns : goal.returns
returns c = inside_says (inner (goal.at.returns c).After-rows_of) (list_within 1024 row_within) (list_told (list_of 2 expression) row_within 1024 _ c.is_list_within.ensures (λ x b k v h. search rules))
