-- `write_select::write_select` meets its contract: the table that is found is the one that the statement is bound over.
use Rattle.bytes_bundle.specs.Held.{is_held}
use Rattle.image_catalogue.specs.Layout.{catalogue}
use Rattle.image_catalogue.specs.Values.{catalogue_list, catalogue_tables}
use Rattle.bind_table.specs.Steps.{resolved_is, resolved_off}
use Rattle.image_parts.specs.Layout.{query_body}
use Rattle.write_select.specs.Writes.{select_holds, select_within, never_refused, bound_ready, bound_whole}
use Rattle.write_select.proofs.write_select.Goals as goal

pub body_of-requires : goal.body_of-requires
body_of-requires c = c.requires.0.is

pub select_of-s-requires : goal.select_of-s-requires
select_of-s-requires c = let w = c.requires.1 in is_held {f = query_body} (c.body_of.ensures w.statement w.reads)

pub selected_table-requires : goal.selected_table-requires
selected_table-requires c =
    let p = c.requires in
    let w = p.1 in (
      catalogue_list (is_held {f = catalogue} w.holds),
      select_within _ _ _ c.body_of.ensures c.select_of-s.ensures w.tables w.statement w.value w.reads w.gives p.0,
    )

pub put_select-requires : goal.put_select-requires
put_select-requires c =
    let p = c.requires in
    let w = p.1 in
    let body = c.body_of.ensures in
    let x = select_holds _ _ _ body c.select_of-s.ensures w.tables w.statement w.value w.reads w.gives in
    bound_ready _ _ _ body c.select_of-s.ensures w.tables w.statement w.value w.reads w.gives
    (resolved_is _ (c.selected_table.ensures w.tables _ (catalogue_tables _ w.holds) x) c.in-Ok.is) p.0 w.room

pub returns-in-Ok : goal.returns-in-Ok
returns-in-Ok c = λ cat v b hc hv h.
    let x = select_holds _ _ _ c.body_of.ensures c.select_of-s.ensures cat v b hv h in
    bound_whole _ _ _ c.body_of.ensures c.select_of-s.ensures cat v b hv h
    (resolved_is _ (c.selected_table.ensures cat _ (catalogue_tables _ hc) x) c.in-Ok.is) c.put_select.ensures

pub returns-in-Err : goal.returns-in-Err
returns-in-Err c = λ cat v b hc hv h.
    let x = select_holds _ _ _ c.body_of.ensures c.select_of-s.ensures cat v b hv h in
    absurd (never_refused _ _ _ c.body_of.ensures c.select_of-s.ensures cat v b hv h
    (resolved_off _ (c.selected_table.ensures cat _ (catalogue_tables _ hc) x) c.in-Err.is))
