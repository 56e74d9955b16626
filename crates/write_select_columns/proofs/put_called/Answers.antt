-- `write_select_columns::put_called` meets its contract: the name is found, since it is bound.
use Rattle.bytes_bundle.specs.Held.{is_held}
use Rattle.image_catalogue.specs.Layout.{table}
use Rattle.write_select_columns.specs.Columns.{name_is, name_room, name_never, name_wrote}
use Rattle.write_select_columns.proofs.put_called.Goals as goal

pub column_called-requires : goal.column_called-requires
column_called-requires c = name_is _ _ c.requires

pub table_id-requires : goal.table_id-requires
table_id-requires c = is_held {f = table} c.requires.holds

pub put_found-requires : goal.put_found-requires
put_found-requires c = name_room _ _ c.requires c.column_called.ensures c.in-Some.is

pub returns-in-Some : goal.returns-in-Some
returns-in-Some c = λ v x b hv hx h.
    name_wrote _ _ v x c.column_called.ensures c.in-Some.is hv hx h (c.table_id.ensures v hv) c.put_found.ensures

pub returns-in-None : goal.returns-in-None
returns-in-None c = λ v x b hv hx h. absurd (name_never _ _ c.requires c.column_called.ensures c.in-None.is)
