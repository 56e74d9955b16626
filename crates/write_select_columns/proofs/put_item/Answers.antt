-- `write_select_columns::put_item` meets its contract.
use mathlib.Core.Path.{sym, ap, ◌∙◌}
use mathlib.Core.Option.{some}
use Rattle.bytes_bundle.specs.Held.{is_held}
use Rattle.image_catalogue.specs.Layout.{table}
use Rattle.bind_select.specs.Selects.{item_star}
use Rattle.image_parts.specs.Layout.{item}
use Rattle.write_select_columns.specs.Laid.{room_as, laid_as}
use Rattle.write_select_columns.specs.Items.{given_same, as_name, only_column, named_room}
use Rattle.write_select_columns.proofs.put_item.Goals as goal

pub item_code-requires : goal.item_code-requires
item_code-requires c = is_held {f = item} c.requires.made.reads

pub table_id-requires : goal.table_id-requires
table_id-requires c = is_held {f = table} c.requires.made.holds

pub columns-requires : goal.columns-requires
columns-requires c = is_held {f = table} c.requires.made.holds

pub put_columns-requires : goal.put_columns-requires
put_columns-requires c =
    let p = c.requires in
    let m = p.made in
    record {
      schema = m.schema;
      own = c.table_id.ensures m.schema m.holds;
      holds = c.columns.ensures m.schema m.holds;
      room = room_as (given_same (sym m.gives ∙ item_star m.schema m.value (sym (c.item_code.ensures m.value m.reads) ∙ c.if-item_code-eq1.true))) p.room;
    }

pub returns-then-item_code-eq1 : goal.returns-then-item_code-eq1
returns-then-item_code-eq1 c = λ v x cs hv hx h.
    laid_as (given_same (sym (item_star v x (sym (c.item_code.ensures x hx) ∙ c.if-item_code-eq1.true)) ∙ h))
    (c.put_columns.ensures v (c.table_id.ensures v hv) (c.columns.ensures v hv))

pub column_of-requires : goal.column_of-requires
column_of-requires c = is_held {f = item} c.requires.made.reads

pub put_one-requires : goal.put_one-requires
put_one-requires c =
    let p = c.requires in
    let m = p.made in
    let n = as_name m.schema m.value (λ e. c.if-item_code-eq1.false (c.item_code.ensures m.value m.reads ∙ e)) m.gives in
    named_room _ p n c.column_of.ensures

pub returns : goal.returns
returns c = λ v x cs hv hx h.
    let n = as_name v x (λ e. c.if-item_code-eq1.false (c.item_code.ensures x hx ∙ e)) h in
    let g = only_column v x n h in
    laid_as g.is (c.put_one.ensures v n.value g.value hv (c.column_of.ensures n.value (hx ∙ ap some n.is)) g.gives)
