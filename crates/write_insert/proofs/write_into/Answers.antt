-- `write_insert::write_into` meets its contract: each part has room, and stands where the one before it ends.
use Rattle.bytes_bundle.specs.Held.{is_held}
use Rattle.image_parts.specs.Layout.{insertion}
use Rattle.bind_insert.specs.Within.{within_targets}
use Rattle.write_insert.specs.Written.{room_rows, room_code, room_table, behind_table, room_targets, behind_targets, room_values, behind_rows, room_head, written}
use Rattle.write_insert.proofs.write_into.Goals as goal

pub columns-names-requires : goal.columns-names-requires
columns-names-requires c = is_held {f = insertion} c.requires.1.reads

pub rows_in-rows-requires : goal.rows_in-rows-requires
rows_in-rows-requires c = room_rows c.requires.1

pub put_byte-requires : goal.put_byte-requires
put_byte-requires c = room_code c.requires.1

pub put_table-a-requires : goal.put_table-a-requires
put_table-a-requires c = room_table c.requires.1 c.put_byte.ensures

pub put_targets-b-requires : goal.put_targets-b-requires
put_targets-b-requires c = ((within_targets (is_held {f = insertion} c.requires.1.reads) c.requires.0 c.columns-names.ensures).names, room_targets c.requires.1 c.put_byte.ensures c.put_table-a.ensures c.columns-names.ensures)

pub put_rows-c-requires : goal.put_rows-c-requires
put_rows-c-requires c = room_values c.requires.1 c.put_byte.ensures c.put_table-a.ensures c.columns-names.ensures c.put_targets-b.ensures c.rows_in-rows.ensures

pub overflow_sub-a : goal.overflow_sub-a
overflow_sub-a c = behind_table c.requires.1 c.put_byte.ensures c.put_table-a.ensures

pub overflow_sub-b : goal.overflow_sub-b
overflow_sub-b c = behind_targets c.requires.1 c.put_byte.ensures c.put_table-a.ensures c.columns-names.ensures c.put_targets-b.ensures

pub overflow_sub-c : goal.overflow_sub-c
overflow_sub-c c = behind_rows c.requires.1 c.put_byte.ensures c.put_table-a.ensures c.columns-names.ensures c.put_targets-b.ensures c.rows_in-rows.ensures c.put_rows-c.ensures

pub put_head3-requires : goal.put_head3-requires
put_head3-requires c = room_head c.requires.1 c.put_byte.ensures c.put_table-a.ensures c.columns-names.ensures c.put_targets-b.ensures c.rows_in-rows.ensures c.put_rows-c.ensures

pub returns : goal.returns
returns c = written c.requires.1 c.put_byte.ensures c.put_table-a.ensures c.columns-names.ensures c.put_targets-b.ensures c.rows_in-rows.ensures c.put_rows-c.ensures c.put_head3.ensures
