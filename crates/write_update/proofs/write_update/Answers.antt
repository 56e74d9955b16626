-- `write_update::write_update` meets its contract: the table, and what is written over it.
use mathlib.Core.Path.{sym, ◌∙◌}
use Rattle.bytes_bundle.specs.Held.{Holds, is_held}
use Rattle.image_catalogue.specs.Layout.{catalogue}
use Rattle.image_catalogue.specs.Values.{catalogue_tables, catalogue_list}
use Rattle.image_parts.specs.Layout.{table_with_joins, updating}
use Rattle.bind_table.specs.Short.{update_short, short_table}
use Rattle.bind_table.specs.Steps.{TableGiven, resolved_is, resolved_off}
use Rattle.rules.specs.Analyze.{resolve_direct_table}
use Rattle.rules.specs.Statements.{Update}
use Rattle.rules.specs.Tables.{Catalogue}
use Rattle.rules.proofs.Theorems.Answered.{never_given}
use Rattle.write_update.specs.Given.{update_given}
use Rattle.write_update.specs.Whole.{table_room, wrote_whole}
use Rattle.write_update.proofs.write_update.Goals.{In-Ok}
use Rattle.write_update.proofs.write_update.Goals as goal

-- the table was found
found : (c : In-Ok) (cat : Catalogue) (v : Update) → Holds catalogue c.args.c.now cat → Holds updating c.args.u.now v
    → TableGiven (resolve_direct_table cat v.table) c.in-Ok.t.now
found c cat v hc h =
    resolved_is _ (c.resolve_direct_table.ensures cat v.table (catalogue_tables _ hc) (c.table_of.ensures v h)) c.in-Ok.is

pub resolve_direct_table-requires : goal.resolve_direct_table-requires
resolve_direct_table-requires c =
    let p = c.requires in
    let w = c.table_of.ensures p.1.statement p.1.reads in
    (catalogue_list (is_held {f = catalogue} p.1.holds), (is_held {f = table_with_joins} w, short_table w (update_short p.1.statement (p.0.1.within p.1.statement p.1.reads))))

pub put_update-requires : goal.put_update-requires
put_update-requires c =
    let p = c.requires in
    table_room p.0.0 p.0.1 p.1 (found (goal.at.put_update-requires c).In-Ok p.1.tables p.1.statement p.1.holds p.1.reads) c.assignments.ensures c.condition_of.ensures

pub returns-in-Ok : goal.returns-in-Ok
returns-in-Ok c = λ cat v b hc hv.
    wrote_whole c.assignments.result.now c.condition_of.result.now cat v b (found (goal.at.returns-in-Ok c).In-Ok cat v hc hv) (c.assignments.ensures v hv) (c.condition_of.ensures v hv) c.put_update.ensures

pub returns-in-Err : goal.returns-in-Err
returns-in-Err c = λ cat v b hc hv h.
    absurd (never_given (sym (resolved_off _ (c.resolve_direct_table.ensures cat v.table (catalogue_tables _ hc) (c.table_of.ensures v hv)) c.in-Err.is) ∙ (update_given cat v h).resolved))
