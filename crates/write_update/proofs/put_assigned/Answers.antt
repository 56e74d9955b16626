-- `write_update::put_assigned` meets its contract: the column, the value behind it, and the head in front of both.
use mathlib.Core.Path.{sym, ◌∙◌}
use native.Mathlib.Omega.{arith}
use Rattle.bytes_bundle.specs.Held.{is_held}
use Rattle.image_catalogue.specs.Layout.{table}
use Rattle.bind_where.specs.Short.{known}
use Rattle.write_update.specs.Assign.{assigned_room, column_room, value_ready, head_room, wrote_assigned}
use Rattle.write_update.proofs.put_assigned.Goals as goal

pub overflow_add-first : goal.overflow_add-first
overflow_add-first c = omega (arith, assigned_room c.requires)

pub table_id-requires : goal.table_id-requires
table_id-requires c = is_held {f = table} c.requires.holds

pub put_found-second-requires : goal.put_found-second-requires
put_found-second-requires c = column_room c.requires

pub put_expression-end-requires : goal.put_expression-end-requires
put_expression-end-requires c = value_ready c.requires c.table_id.result (known c.type_inv.e) c.put_found-second.ensures

pub overflow_sub-end : goal.overflow_sub-end
overflow_sub-end c = let p = c.requires in omega (arith, (c.put_expression-end.ensures p.schema p.tree p.value p.holds p.reads p.binds).end)

pub put_head2-requires : goal.put_head2-requires
put_head2-requires c =
    let p = c.requires in
    head_room p c.table_id.result c.put_found-second.ensures (c.put_expression-end.ensures p.schema p.tree p.value p.holds p.reads p.binds)

pub returns : goal.returns
returns c = λ v x d y hv hx hd i e.
    wrote_assigned y c.table_id.result hd (c.table_id.ensures v hv ∙ sym i) c.put_found-second.ensures (c.put_expression-end.ensures v x y hv hx e) c.put_head2.ensures
