-- `leaves::put_column` meets its contract.
use Rattle.bytes_bundle.specs.Held.{is_held}
use Rattle.write_expression.proofs.Contents.{column_room, column_puts, column_never}
use Rattle.write_expression.proofs.leaves.put_column.Goals as goal

pub find_column-requires : goal.find_column-requires
find_column-requires c = (is_held c.requires.leaf_room.rule.holds, c.requires.name_len_bound)

pub table_id-requires : goal.table_id-requires
table_id-requires c = is_held c.requires.leaf_room.rule.holds

pub put_found-end-requires : goal.put_found-end-requires
put_found-end-requires c =
    column_room c.args.t.now c.args.quoted c.args.name.now _ c.find_column.ensures _ c.in-Some.is c.requires.leaf_room

pub returns-in-Some : goal.returns-in-Some
returns-in-Some c =
    column_puts c.args.t.now c.args.quoted c.args.name.now _ c.find_column.ensures _ c.in-Some.is _ _ c.table_id.ensures c.column_mark-m.ensures c.put_found-end.ensures

pub returns-in-None : goal.returns-in-None
returns-in-None c =
    absurd (column_never c.args.t.now c.args.quoted c.args.name.now _ c.find_column.ensures c.in-None.is c.requires.leaf_room)
