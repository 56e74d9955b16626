-- `op_run::run_update` meets its contract: the table that the UPDATE names is found.
use mathlib.Core.Path.{sym, ◌∙◌}
use Rattle.bytes_bundle.specs.Held.{is_held}
use Rattle.image_catalogue.specs.Layout.{catalogue}
use Rattle.image_catalogue.specs.Values.{catalogue_tables, catalogue_list}
use Rattle.image_parts.specs.Layout.{table_with_joins, updating}
use Rattle.bind_table.specs.Short.{update_short, short_table}
use Rattle.bind_table.specs.Steps.{TableGiven, resolved_is, resolved_off}
use Rattle.rules.specs.Analyze.{resolve_direct_table}
use Rattle.rules.specs.Heard.{Running}
use Rattle.rules.proofs.Theorems.Answered.{never_given}
use Rattle.op_run.specs.Stands.{Stands, stands_over}
use Rattle.op_run.proofs.run_update.Goals.{In-Ok}
use Rattle.op_run.proofs.run_update.Goals as goal

-- the table was found
found : (c : In-Ok) (u : Running) (z : Stands c.args.c.now c.args.b.now u)
    → TableGiven (resolve_direct_table z.tables z.change.table) c.in-Ok.t.now
found c u z =
    resolved_is _ (c.resolve_direct_table.ensures z.tables z.change.table (catalogue_tables _ z.holds) (c.table_of.ensures z.change z.reads)) c.in-Ok.is

pub table_of-requires : goal.table_of-requires
table_of-requires c = is_held {f = updating} c.requires.is.reads

pub resolve_direct_table-requires : goal.resolve_direct_table-requires
resolve_direct_table-requires c =
    let z = c.requires.is in
    let w = c.table_of.ensures z.change z.reads in
    (catalogue_list (is_held {f = catalogue} z.holds), (is_held {f = table_with_joins} w, short_table w (update_short z.change (z.limited.within z.change z.reads))))

pub run_over-requires : goal.run_over-requires
run_over-requires c =
    let p = c.requires in
    record { value = p.value; is = stands_over p.is (found (goal.at.run_over-requires c).In-Ok p.value p.is) }

pub returns-in-Ok : goal.returns-in-Ok
returns-in-Ok c = λ u z. c.run_over.ensures u (stands_over z (found (goal.at.returns-in-Ok c).In-Ok u z))

pub returns-in-Err : goal.returns-in-Err
returns-in-Err c = λ u z.
    absurd (never_given (sym (resolved_off _ (c.resolve_direct_table.ensures z.tables z.change.table (catalogue_tables _ z.holds) (c.table_of.ensures z.change z.reads)) c.in-Err.is) ∙ z.resolves))
