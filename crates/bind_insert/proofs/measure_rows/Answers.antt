-- `bind_insert::measure_rows` meets its contract.
use mathlib.Core.Path.{sym, ◌∙◌}
use Rattle.bytes_format.proofs.Formats.{list_of}
use Rattle.image_value.specs.Parts.{value}
use Rattle.bind_table.specs.Steps.{sized_refused, sized_as}
use Rattle.bind_insert_columns.specs.Columns.{Targets}
use Rattle.bind_insert.specs.Within.{within_targets}
use Rattle.bind_insert.specs.Inserts.{rows_key, rows_null, rows_source}
use Rattle.bind_insert.proofs.measure_rows.Goals.{After-columns-names}
use Rattle.bind_insert.proofs.measure_rows.Goals as goal

names : (c : After-columns-names) → Targets c.columns-names.result.now
names c = within_targets c.requires.1.0 c.requires.1.1.0 c.columns-names.ensures

pub columns-names-requires : goal.columns-names-requires
columns-names-requires c = c.requires.1.0

pub lacks-requires : goal.lacks-requires
lacks-requires c = (c.requires.0, (names (goal.at.lacks-requires c).After-columns-names).names)

pub returns-then-lacks : goal.returns-then-lacks
returns-then-lacks c = (
  tt,
  λ v ht cs w k q h. sized_refused (list_of 4 (list_of 4 value)) (rows_key v cs w (sym (c.lacks.ensures v w.columns ht (c.columns-names.ensures w h)) ∙ c.if-lacks.true)),
)

pub lacks-requires-2 : goal.lacks-requires-2
lacks-requires-2 c = (c.requires.0, (names (goal.at.lacks-requires-2 c).After-columns-names).names)

pub returns-then-lacks-2 : goal.returns-then-lacks-2
returns-then-lacks-2 c = (
  tt,
  λ v ht cs w k q h.
      let l = c.columns-names.ensures w h in
      sized_refused (list_of 4 (list_of 4 value)) (rows_null v cs w (sym (c.lacks.ensures v w.columns ht l) ∙ c.if-lacks.false) (sym (c.lacks-2.ensures v w.columns ht l) ∙ c.if-lacks-2.true)),
)

pub source_len-requires : goal.source_len-requires
source_len-requires c = (c.requires.1.0, c.requires.1.1.1)

pub returns : goal.returns
returns c = (
  c.source_len.ensures.0,
  λ v ht cs w k q h.
      let l = c.columns-names.ensures w h in
      sized_as (list_of 4 (list_of 4 value)) (rows_source v cs w (sym (c.lacks.ensures v w.columns ht l) ∙ c.if-lacks.false) (sym (c.lacks-2.ensures v w.columns ht l) ∙ c.if-lacks-2.false))
      (c.source_len.ensures.1 cs w k q h),
)
