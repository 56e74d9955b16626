-- `write_insert::write_insert` meets its contract.
use Rattle.bytes_bundle.specs.Held.{Holds, is_held}
use Rattle.image_catalogue.specs.Layout.{catalogue}
use Rattle.image_catalogue.specs.Values.{catalogue_tables, catalogue_list}
use Rattle.image_parts.specs.Layout.{insertion}
use Rattle.rules.specs.Statements.{Insert}
use Rattle.rules.specs.Tables.{Catalogue}
use Rattle.bind_table.specs.Steps.{TableGiven, resolved_is, resolved_off}
use Rattle.bind_table.specs.Tables.{named_table}
use Rattle.bind_insert.specs.Within.{within_name}
use Rattle.write_insert.specs.Written.{insert_room, insert_wrote, insert_never}
use Rattle.write_insert.proofs.write_insert.Goals.{In-Ok}
use Rattle.write_insert.proofs.write_insert.Goals as goal

-- the table, where there is one
found : (c : In-Ok) (cat : Catalogue) (v : Insert) → Holds catalogue c.args.c.now cat → Holds insertion c.args.i.now v
    → TableGiven (named_table cat v.name) c.in-Ok.t.now
found c cat v hc h =
    let s = c.args.c.now in
    resolved_is (named_table cat v.name) (c.name_table.ensures cat v.name (catalogue_tables s hc) (c.table_name.ensures v h)) c.in-Ok.is

-- that of the statement which is bound
bound : (c : In-Ok) → TableGiven (named_table c.requires.1.tables c.requires.1.statement.name) c.in-Ok.t.now
bound c = let w = c.requires.1 in found c w.tables w.statement w.holds w.reads

pub table_name-requires : goal.table_name-requires
table_name-requires c = c.requires.0.0

pub name_table-requires : goal.name_table-requires
name_table-requires c = (catalogue_list (is_held {f = catalogue} c.requires.1.holds), within_name c.requires.0.0 c.requires.0.1 c.table_name.ensures)

pub write_into-requires : goal.write_into-requires
write_into-requires c = (c.requires.0.1, insert_room c.requires.1 (bound (goal.at.write_into-requires c).In-Ok))

pub returns-in-Ok : goal.returns-in-Ok
returns-in-Ok c = λ cat v b hc h e. insert_wrote cat v c.write_into.ensures (found (goal.at.returns-in-Ok c).In-Ok cat v hc h) h e

pub returns-in-Err : goal.returns-in-Err
returns-in-Err c =
    let w = c.requires.1 in
    let s = c.args.c.now in
    let cat = w.tables in
    let n = w.statement.name in
    absurd (insert_never w (resolved_off (named_table cat n) (c.name_table.ensures cat n (catalogue_tables s w.holds) (c.table_name.ensures w.statement w.reads)) c.in-Err.is))
