-- `bind_insert::analyze_insert` meets its contract.
use mathlib.Core.Path.{sym, ◌∙◌}
use Rattle.bytes_bundle.specs.Held.{Holds, is_held, held}
use Rattle.image_catalogue.specs.Layout.{table, catalogue}
use Rattle.image_catalogue.specs.Values.{catalogue_tables, catalogue_list}
use Rattle.image_parts.specs.Layout.{insertion}
use Rattle.image_bound.specs.Layout.{bound_statement}
use Rattle.rules.specs.Statements.{Insert}
use Rattle.rules.specs.Tables.{Catalogue}
use Rattle.bind_table.specs.Steps.{step_on, step_off, test_on, test_off, sized_refused, sized_as, TableGiven, resolved_is, resolved_off}
use Rattle.bind_table.specs.Tables.{named_table}
use Rattle.bind_insert.specs.Within.{within_name}
use Rattle.bind_insert.specs.Inserts.{insert_steps}
use Rattle.bind_insert.proofs.analyze_insert.Goals.{In-Ok}
use Rattle.bind_insert.proofs.analyze_insert.Goals as goal

-- the table, where there is one
found : (c : In-Ok) (cat : Catalogue) (v : Insert) → Holds catalogue c.args.c.now cat → Holds insertion c.args.i.now v
    → TableGiven (named_table cat v.name) c.in-Ok.t.now
found c cat v hc h =
    let s = c.args.c.now in
    resolved_is (named_table cat v.name) (c.name_table.ensures cat v.name (catalogue_tables s hc) (c.table_name.ensures v h)) c.in-Ok.is

pub is_modified-requires : goal.is_modified-requires
is_modified-requires c = c.requires.1.0

pub returns-then-is_modified : goal.returns-then-is_modified
returns-then-is_modified c = λ cat v hc h. sized_refused bound_statement (insert_steps cat v ∙ test_off _ _ (sym (c.is_modified.ensures v h) ∙ c.if-is_modified.true))

pub table_name-requires : goal.table_name-requires
table_name-requires c = c.requires.1.0

pub name_table-requires : goal.name_table-requires
name_table-requires c = (catalogue_list c.requires.0, within_name c.requires.1.0 c.requires.1.1 c.table_name.ensures)

pub analyze_into-requires : goal.analyze_into-requires
analyze_into-requires c = (held c.requires.0 (λ cat hc. held c.requires.1.0 (λ v h. is_held {f = table} (found (goal.at.analyze_into-requires c).In-Ok cat v hc h).holds)), (c.requires.1.0, c.requires.1.1))

pub returns-in-Ok : goal.returns-in-Ok
returns-in-Ok c =
    λ cat v hc h.
    let t = found (goal.at.returns-in-Ok c).In-Ok cat v hc h in
    sized_as bound_statement (insert_steps cat v ∙ test_on _ _ (sym (c.is_modified.ensures v h) ∙ c.if-is_modified.false) ∙ step_on _ t.gives) (c.analyze_into.ensures t.value v t.holds h)

pub returns-in-Err : goal.returns-in-Err
returns-in-Err c =
    λ cat v hc h.
    let s = c.args.c.now in
    let e = resolved_off (named_table cat v.name) (c.name_table.ensures cat v.name (catalogue_tables s hc) (c.table_name.ensures v h)) c.in-Err.is in
    sized_refused bound_statement (insert_steps cat v ∙ test_on _ _ (sym (c.is_modified.ensures v h) ∙ c.if-is_modified.false) ∙ step_off _ e)
