-- `write_select_columns::item_columns` meets its contract.
use mathlib.Core.Path.{sym, ap, ◌∙◌}
use native.Mathlib.Omega.{arith}
use lib.ListN.{length}
use Rattle.bytes_format.proofs.Formats.{list_of}
use Rattle.bytes_bundle.specs.Held.{is_held, list_bundle, list_count}
use Rattle.image_catalogue.specs.Layout.{table}
use Rattle.bind_select.specs.Selects.{item_star}
use Rattle.image_parts.specs.Layout.{item}
use Rattle.image_value.specs.Parts.{column_schema}
use Rattle.write_select_columns.specs.Columns.{columns_count}
use Rattle.write_select_columns.specs.Items.{given_same, as_name, only_column}
use Rattle.write_select_columns.proofs.item_columns.Goals as goal

pub item_code-requires : goal.item_code-requires
item_code-requires c = is_held {f = item} c.requires.reads

pub columns-requires : goal.columns-requires
columns-requires c = is_held {f = table} c.requires.holds

pub parts-requires : goal.parts-requires
parts-requires c =
    let w = c.requires in
    (omega arith, list_bundle (column_schema 2) (is_held {f = list_of 2 (column_schema 2)} {s = c.columns.result.now} (c.columns.ensures w.schema w.holds)))

pub returns-then-item_code-eq1 : goal.returns-then-item_code-eq1
returns-then-item_code-eq1 c = λ v x cs hv hx h.
    let e = given_same (sym (item_star v x (sym (c.item_code.ensures x hx) ∙ c.if-item_code-eq1.true)) ∙ h) in
    omega (arith, c.parts.ensures, list_count (column_schema 2) c.columns.result.now (c.columns.ensures v hv), columns_count v, ap length e)

pub returns : goal.returns
returns c = λ v x cs hv hx h.
    let n = as_name v x (λ e. c.if-item_code-eq1.false (c.item_code.ensures x hx ∙ e)) h in
    ap length (only_column v x n h).is
