-- `statement_ascii::inserts::source_beyond` meets its contract.
use Rattle.statement_ascii.specs.Beyond.{Beyond}
use Rattle.bytes_bundle.specs.Decides.{failed, passed}
use Rattle.bytes_bundle.specs.Held.{is_held, held}
use Rattle.bytes_bundle.specs.Looks.{Inside, inside_is, inside_says}
use Rattle.statement_limits.specs.Cases.{no_source, source_inside}
use Rattle.rules.specs.Limits.{gather, expression_names, body_rows, source_rows}
use Rattle.rules.specs.Statements.{Expr, Source, Insert}
use Rattle.image_parts.specs.Layout.{source_body, source, insertion}
use mathlib.Core.Bool.{Bool}
use mathlib.Core.List.{List}
use mathlib.Core.Path.{sym, ap}
use Rattle.statement_ascii.proofs.inserts.source_beyond.Goals.{After-source_of}
use Rattle.std.proofs.Common.{not}
use Rattle.statement_ascii.proofs.inserts.source_beyond.Goals as goal

-- the names in rows
abbrev beyond : List (List Expr) → Bool
beyond rows = Beyond (gather (gather expression_names) rows)

inner : (c : After-source_of)
    → Inside insertion source (λ (v : Insert). source_rows v.source) (λ (q : Source). body_rows q.body) c.args.i.now c.source_of.result.now
inner c = source_inside (λ v h. passed (c.has_source.ensures v h) (ap not c.if-not-has_source.false)) c.source_of.ensures

pub returns-then-not-has_source : goal.returns-then-not-has_source
returns-then-not-has_source c = λ v h. sym (ap beyond (no_source v.source (failed (c.has_source.ensures v h) (ap not c.if-not-has_source.true))))

pub body_of-requires : goal.body_of-requires
body_of-requires c = inside_is (inner (goal.at.body_of-requires c).After-source_of) c.requires

pub body_beyond-requires : goal.body_beyond-requires
body_beyond-requires c = held (inside_is (inner (goal.at.body_beyond-requires c).After-source_of) c.requires) (λ q h. is_held {f = source_body} (c.body_of.ensures q h))

pub returns : goal.returns
returns c = inside_says (inner (goal.at.returns c).After-source_of) beyond (λ q h. c.body_beyond.ensures q.body (c.body_of.ensures q h))
