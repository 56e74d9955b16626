-- `bind_insert_rows::body_len` meets its contract.
use mathlib.Core.Path.{◌≡◌, sym, ap, ◌∙◌}
use mathlib.Core.Bool.{false}
use lib.ListN.{length}
use Rattle.bytes_format.proofs.Formats.{list_of}
use Rattle.bytes_bundle.specs.Decides.{failed, passed}
use Rattle.bytes_bundle.specs.Held.{Holds, Shows, is_held, held_once, list_bundle, list_count}
use Rattle.image_value.specs.Parts.{value}
use Rattle.image_expression.specs.Expression.{expression}
use Rattle.image_parts.specs.Layout.{source_body}
use Rattle.image_insert.specs.Held.{is_values}
use Rattle.rules.specs.Analyze.{insert_body}
use Rattle.bind_table.specs.Steps.{sized_refused, sized_as}
use Rattle.bind_insert_rows.specs.Sources.{rows_in, body_other, body_row, body_empty, body_rows_lem}
use borrow.Author.Rules.{rules}
use Rattle.bind_insert_rows.proofs.body_len.Goals.{Else-not-is_values}
use Rattle.bind_insert_rows.proofs.body_len.Goals.{Else-explicit_row}
use Rattle.bind_insert_rows.proofs.body_len.Goals.{After-rows_of-rows}
use Rattle.std.proofs.Common.{not}
use Rattle.bind_insert_rows.proofs.body_len.Goals as goal

-- past each test
shows : (c : Else-not-is_values) → Shows source_body is_values c.args.b.now
shows c = record { there = c.requires.0.there; case = λ v h. passed (c.is_values.ensures v h) (ap not c.if-not-is_values.false) }

plain : (c : Else-explicit_row) → (rows_in (shows (goal.at.Else-explicit_row c).Else-not-is_values)).explicit ≡ false
plain c = let w = rows_in (shows (goal.at.Else-explicit_row c).Else-not-is_values) in sym (c.explicit_row.ensures w.explicit w.rows w.whole) ∙ c.if-explicit_row.false

held_rows : (c : After-rows_of-rows) → Holds (list_of 2 (list_of 2 expression)) c.rows_of-rows.result.now (rows_in (shows (goal.at.After-rows_of-rows c).Else-not-is_values)).rows
held_rows c = let w = rows_in (shows (goal.at.After-rows_of-rows c).Else-not-is_values) in c.rows_of-rows.ensures w.explicit w.rows w.whole

pub is_values-requires : goal.is_values-requires
is_values-requires c = c.requires.0

pub returns-then-not-is_values : goal.returns-then-not-is_values
returns-then-not-is_values c = (
  tt,
  λ cs v k q h. sized_refused (list_of 4 (list_of 4 value)) (body_other cs v (failed (c.is_values.ensures v h) (ap not c.if-not-is_values.true))),
)

pub explicit_row-requires : goal.explicit_row-requires
explicit_row-requires c = shows (goal.at.explicit_row-requires c).Else-not-is_values

pub returns-then-explicit_row : goal.returns-then-explicit_row
returns-then-explicit_row c = (
  tt,
  λ cs v k q h.
      let w = rows_in (shows (goal.at.returns-then-explicit_row c).Else-not-is_values) in
      sized_refused (list_of 4 (list_of 4 value)) (ap (insert_body cs) (held_once source_body h w.whole) ∙ body_row cs w.rows (sym (c.explicit_row.ensures w.explicit w.rows w.whole) ∙ c.if-explicit_row.true)),
)

pub rows_of-rows-requires : goal.rows_of-rows-requires
rows_of-rows-requires c = shows (goal.at.rows_of-rows-requires c).Else-not-is_values

pub parts-requires : goal.parts-requires
parts-requires c = (search rules, list_bundle (list_of 2 expression) (is_held {f = list_of 2 (list_of 2 expression)} (held_rows (goal.at.parts-requires c).After-rows_of-rows)))

pub returns-then-parts-eq0 : goal.returns-then-parts-eq0
returns-then-parts-eq0 c = (
  tt,
  λ cs v k q h.
      let w = rows_in (shows (goal.at.returns-then-parts-eq0 c).Else-not-is_values) in
      let e : length w.rows ≡ 0 = list_count (list_of 2 expression) c.rows_of-rows.result.now (held_rows (goal.at.returns-then-parts-eq0 c).After-rows_of-rows) ∙ sym c.parts.ensures ∙ c.if-parts-eq0.true in
      sized_refused (list_of 4 (list_of 4 value)) (ap (insert_body cs) (held_once source_body h w.whole) ∙ body_empty cs w.rows (plain (goal.at.returns-then-parts-eq0 c).Else-explicit_row) e),
)

pub rows_len-requires : goal.rows_len-requires
rows_len-requires c = (is_held {f = list_of 2 (list_of 2 expression)} (held_rows (goal.at.rows_len-requires c).After-rows_of-rows), c.requires.1)

pub returns : goal.returns
returns c = (
  c.rows_len.ensures.0,
  λ cs v k q h.
      let w = rows_in (shows (goal.at.returns c).Else-not-is_values) in
      let e : length w.rows ≡ 0 → ⊥ = λ z. c.if-parts-eq0.false (c.parts.ensures ∙ sym (list_count (list_of 2 expression) c.rows_of-rows.result.now (held_rows (goal.at.returns c).After-rows_of-rows)) ∙ z) in
      sized_as (list_of 4 (list_of 4 value)) (ap (insert_body cs) (held_once source_body h w.whole) ∙ body_rows_lem cs w.rows (plain (goal.at.returns c).Else-explicit_row) e) (c.rows_len.ensures.1 cs w.rows k q (held_rows (goal.at.returns c).After-rows_of-rows)),
)
