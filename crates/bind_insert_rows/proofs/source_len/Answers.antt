-- `bind_insert_rows::source_len` meets its contract.
use mathlib.Core.Path.{sym, ◌∙◌}
use Rattle.bytes_format.proofs.Formats.{list_of}
use Rattle.bytes_bundle.specs.Decides.{failed, passed}
use Rattle.bytes_bundle.specs.Held.{is_held}
use Rattle.image_value.specs.Parts.{value}
use Rattle.image_parts.specs.Layout.{source, source_body}
use Rattle.bind_table.specs.Steps.{sized_refused, sized_as}
use Rattle.bind_insert_rows.specs.Sources.{Sourced, sourced, rows_none, rows_clauses, rows_body}
use Rattle.bind_insert_rows.proofs.source_len.Goals.{After-source_of-s}
use Rattle.std.proofs.Common.{ap}
use Rattle.std.proofs.Common.{not}
use Rattle.bind_insert_rows.proofs.source_len.Goals as goal

-- past the first test there is a source
the : (c : After-source_of-s) → Sourced c.args.i.now c.source_of-s.result.now
the c = sourced c.requires.0 (λ v h. passed (c.has_source.ensures v h) (ap not c.if-not-has_source.false)) c.source_of-s.ensures

pub has_source-requires : goal.has_source-requires
has_source-requires c = c.requires.0

pub returns-then-not-has_source : goal.returns-then-not-has_source
returns-then-not-has_source c = (
  tt,
  λ cs v k q h. sized_refused (list_of 4 (list_of 4 value)) (rows_none cs v.source (failed (c.has_source.ensures v h) (ap not c.if-not-has_source.true))),
)

pub source_of-s-requires : goal.source_of-s-requires
source_of-s-requires c = c.requires.0

pub has_clauses-requires : goal.has_clauses-requires
has_clauses-requires c = is_held {f = source} (the (goal.at.has_clauses-requires c).After-source_of-s).part

pub returns-then-has_clauses : goal.returns-then-has_clauses
returns-then-has_clauses c = (
  tt,
  λ cs v k q h.
      let s = the (goal.at.returns-then-has_clauses c).After-source_of-s in
      sized_refused (list_of 4 (list_of 4 value)) (rows_clauses cs (s.whole v h) (sym (c.has_clauses.ensures s.value s.part) ∙ c.if-has_clauses.true)),
)

pub body_of-requires : goal.body_of-requires
body_of-requires c = is_held {f = source} (the (goal.at.body_of-requires c).After-source_of-s).part

pub body_len-requires : goal.body_len-requires
body_len-requires c = let s = the (goal.at.body_len-requires c).After-source_of-s in (is_held {f = source_body} (c.body_of.ensures s.value s.part), c.requires.1)

pub returns : goal.returns
returns c =
    let s = the (goal.at.returns c).After-source_of-s in (
      c.body_len.ensures.0,
      λ cs v k q h. sized_as (list_of 4 (list_of 4 value)) (rows_body cs (s.whole v h) (sym (c.has_clauses.ensures s.value s.part) ∙ c.if-has_clauses.false))
          (c.body_len.ensures.1 cs s.value.body k q (c.body_of.ensures s.value s.part)),
    )
