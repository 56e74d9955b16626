-- `write_insert_columns::put_target` meets its contract.
use Rattle.bytes_bundle.specs.Held.{is_held}
use Rattle.image_catalogue.specs.Layout.{table}
use Rattle.write_insert_columns.specs.Refs.{target_room, target_puts, target_never}
use Rattle.write_insert_columns.proofs.put_target.Goals as goal

pub find_target-requires : goal.find_target-requires
find_target-requires c = (is_held {f = table} c.requires.1.holds, (c.requires.1.made.is, c.requires.0))

pub table_id-requires : goal.table_id-requires
table_id-requires c = is_held {f = table} c.requires.1.holds

pub put_found-requires : goal.put_found-requires
put_found-requires c = target_room c.args.t.now c.args.n.now _ c.find_target.ensures _ c.in-Some.is c.requires.1

pub returns-in-Some : goal.returns-in-Some
returns-in-Some c = target_puts c.args.t.now c.args.n.now _ c.find_target.ensures _ c.in-Some.is _ c.table_id.ensures c.put_found.ensures

pub returns-in-None : goal.returns-in-None
returns-in-None c = absurd (target_never c.args.t.now c.args.n.now _ c.find_target.ensures c.in-None.is c.requires.1)
