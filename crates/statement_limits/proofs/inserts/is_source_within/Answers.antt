-- `statement_limits::inserts::is_source_within` meets its contract.
use Rattle.bytes_bundle.specs.Decides.{failed, passed}
use Rattle.bytes_bundle.specs.Held.{is_held, held}
use Rattle.bytes_bundle.specs.Looks.{Inside, inside_is, inside_says}
use Rattle.statement_limits.specs.Cases.{no_source, source_inside}
use Rattle.statement_limits.specs.Within.{list_within, row_within, source_within}
use Rattle.rules.specs.Limits.{body_rows, source_rows}
use Rattle.rules.specs.Statements.{Source, Insert}
use Rattle.image_parts.specs.Layout.{source_body, source, insertion}
use mathlib.Core.Path.{sym, ap}
use Rattle.statement_limits.proofs.inserts.is_source_within.Goals.{After-source_of}
use Rattle.std.proofs.Common.{not}
use Rattle.statement_limits.proofs.inserts.is_source_within.Goals as goal

inner : (c : After-source_of)
    → Inside insertion source (λ (v : Insert). source_rows v.source) (λ (q : Source). body_rows q.body) c.args.i.now c.source_of.result.now
inner c = source_inside (λ v h. passed (c.has_source.ensures v h) (ap not c.if-not-has_source.false)) c.source_of.ensures

pub returns-then-not-has_source : goal.returns-then-not-has_source
unfolding source_within list_within
returns-then-not-has_source c = λ v h. sym (ap (list_within 1024 row_within) (no_source v.source (failed (c.has_source.ensures v h) (ap not c.if-not-has_source.true))))

pub body_of-requires : goal.body_of-requires
body_of-requires c = inside_is (inner (goal.at.body_of-requires c).After-source_of) c.requires

pub is_body_within-requires : goal.is_body_within-requires
is_body_within-requires c = held (inside_is (inner (goal.at.is_body_within-requires c).After-source_of) c.requires) (λ q h. is_held {f = source_body} (c.body_of.ensures q h))

pub returns : goal.returns
unfolding source_within
returns c = inside_says (inner (goal.at.returns c).After-source_of) (list_within 1024 row_within) (λ q h. c.is_body_within.ensures q.body (c.body_of.ensures q h))
