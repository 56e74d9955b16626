-- `write_delete::write_delete` meets its contract: the table that is found is the one that the statement is bound over.
use Rattle.bytes_bundle.specs.Held.{is_held}
use Rattle.image_catalogue.specs.Layout.{catalogue}
use Rattle.image_catalogue.specs.Values.{catalogue_list, catalogue_tables}
use Rattle.bind_table.specs.Steps.{resolved_is, resolved_off}
use Rattle.write_delete.specs.Writes.{bound_ready, bound_whole, never_refused}
use Rattle.write_delete.proofs.write_delete.Goals as goal

pub deleted_table-requires : goal.deleted_table-requires
deleted_table-requires c =
    let p = c.requires in
    (catalogue_list (is_held {f = catalogue} p.1.holds), p.0)

pub condition_of-requires : goal.condition_of-requires
condition_of-requires c = c.requires.0.is

pub put_delete-requires : goal.put_delete-requires
put_delete-requires c =
    let p = c.requires in
    let w = p.1 in
    bound_ready w.tables w.statement w.value w.gives
    (resolved_is _ (c.deleted_table.ensures w.tables w.statement (catalogue_tables _ w.holds) w.reads) c.in-Ok.is)
    _ _ c.condition_of.ensures w.reads p.0 w.room

pub returns-in-Ok : goal.returns-in-Ok
returns-in-Ok c = λ cat v b hc hv h.
    bound_whole cat v b h
    (resolved_is _ (c.deleted_table.ensures cat v (catalogue_tables _ hc) hv) c.in-Ok.is)
    _ _ c.condition_of.ensures hv c.put_delete.ensures

pub returns-in-Err : goal.returns-in-Err
returns-in-Err c = λ cat v b hc hv h.
    absurd (never_refused cat v b h (resolved_off _ (c.deleted_table.ensures cat v (catalogue_tables _ hc) hv) c.in-Err.is))
