-- `bind_insert::analyze_into` meets its contract.
use mathlib.Core.Path.{sym, ap, ◌∙◌}
use Prim.Native.Nat.{◌<◌}
use native.Mathlib.Omega.{arith}
use lib.ListN.{length}
use Rattle.bytes_format.proofs.Formats.{list_of}
use Rattle.bytes_bundle.specs.Held.{held, list_bundle, list_count}
use Rattle.image_value.specs.Parts.{value}
use Rattle.image_parts.specs.Layout.{name}
use Rattle.image_bound.specs.Columns.{bound_column_ref}
use Rattle.image_bound.specs.Layout.{bound_statement}
use Rattle.rules.specs.Lookup.{bound_table}
use Rattle.bind_literal.specs.Scalars.{known}
use Rattle.bind_table.specs.Steps.{sized_refused, sized_is, sized_off, sized_handed}
use Rattle.bind_insert_columns.specs.Columns.{Targets}
use Rattle.bind_insert.specs.Within.{within_targets}
use Rattle.bind_insert.specs.Inserts.{into_none, into_columns, into_rows, into_given}
use Rattle.bind_insert_columns.specs.Small.{table_name_small}
use borrow.Author.Rules.{rules}
use Rattle.bind_insert.proofs.analyze_into.Goals.{After-columns-names}
use Rattle.bind_insert.proofs.analyze_into.Goals.{After-table_name}
use Rattle.bind_insert.proofs.analyze_into.Goals as goal

names : (c : After-columns-names) → Targets c.columns-names.result.now
names c = within_targets c.requires.1.0 c.requires.1.1 c.columns-names.ensures

short : (c : After-table_name) → length c.table_name.result.now < 65536
short c = held c.requires.0 (λ v h. omega (arith, table_name_small (known c.type_inv.t) h, ap length (c.table_name.ensures v h)))

pub columns-names-requires : goal.columns-names-requires
columns-names-requires c = c.requires.1.0

pub parts-n-requires : goal.parts-n-requires
parts-n-requires c = (search rules, list_bundle name (names (goal.at.parts-n-requires c).After-columns-names).names.is)

pub returns-then-n-eq0 : goal.returns-then-n-eq0
returns-then-n-eq0 c =
    λ v w ht h. sized_refused bound_statement (into_none v w (list_count name c.columns-names.result.now (c.columns-names.ensures w h) ∙ sym c.parts-n.ensures ∙ c.if-n-eq0.true))

pub bind_columns-requires : goal.bind_columns-requires
bind_columns-requires c = (c.requires.0, (names (goal.at.bind_columns-requires c).After-columns-names, search rules))

pub measure_rows-requires : goal.measure_rows-requires
measure_rows-requires c = (c.requires.0, (c.requires.1.0, (c.requires.1.1, omega (arith, c.parts-n.ensures, (names (goal.at.measure_rows-requires c).After-columns-names).few))))

pub table_name-requires : goal.table_name-requires
table_name-requires c = c.requires.0

pub table_ref_len-requires : goal.table_ref_len-requires
table_ref_len-requires c = omega (arith, short (goal.at.table_ref_len-requires c).After-table_name)

pub overflow_add-result : goal.overflow_add-result
overflow_add-result c = omega (arith, short (goal.at.overflow_add-result c).After-table_name, c.table_ref_len.ensures.0)

pub overflow_add-result-2 : goal.overflow_add-result-2
overflow_add-result-2 c = omega (arith, short (goal.at.overflow_add-result-2 c).After-table_name, c.table_ref_len.ensures.0, c.in_ok-targets.ensures.0)

pub overflow_add-result-3 : goal.overflow_add-result-3
overflow_add-result-3 c = omega (arith, short (goal.at.overflow_add-result-3 c).After-table_name, c.table_ref_len.ensures.0, c.in_ok-targets.ensures.0, c.in_ok-rows.ensures.0)

pub returns : goal.returns
unfolding bound_table
returns c =
    λ v w ht h.
    let l = c.columns-names.ensures w h in
    let g = (c.bind_columns.ensures.1 v w.columns ht l).bound _ c.in_ok-targets.was in
    let e = list_count name c.columns-names.result.now l in
    let s = sized_is (list_of 4 (list_of 4 value)) {m = c.measure_rows.result} (c.measure_rows.ensures.1 v ht g.value w g.coded (c.parts-n.ensures ∙ sym e ∙ sym g.count) h) c.in_ok-rows.was in
    into_given v w (λ z. c.if-n-eq0.false (c.parts-n.ensures ∙ sym e ∙ z)) g.gives s.gives (c.table_ref_len.ensures.1 (bound_table v) (sym (ap length (c.table_name.ensures v ht)))) g.long s.long

pub returns-in_err-rows : goal.returns-in_err-rows
returns-in_err-rows c =
    λ v w ht h.
    let l = c.columns-names.ensures w h in
    let g = (c.bind_columns.ensures.1 v w.columns ht l).bound _ c.in_ok-targets.was in
    let e = list_count name c.columns-names.result.now l in
    let s = sized_off (list_of 4 (list_of 4 value)) {m = c.measure_rows.result} (c.measure_rows.ensures.1 v ht g.value w g.coded (c.parts-n.ensures ∙ sym e ∙ sym g.count) h) c.in_err-rows.was in
    sized_handed bound_statement c.from_residual-in_err-rows.ensures.1 (into_rows v w (λ z. c.if-n-eq0.false (c.parts-n.ensures ∙ sym e ∙ z)) g.gives s)

pub returns-in_err-targets : goal.returns-in_err-targets
returns-in_err-targets c =
    λ v w ht h.
    let l = c.columns-names.ensures w h in
    let e = list_count name c.columns-names.result.now l in
    let s = sized_off (list_of 4 bound_column_ref) {m = c.bind_columns.result} (c.bind_columns.ensures.1 v w.columns ht l).is c.in_err-targets.was in
    sized_handed bound_statement c.from_residual.ensures.1 (into_columns v w (λ z. c.if-n-eq0.false (c.parts-n.ensures ∙ sym e ∙ z)) s)
