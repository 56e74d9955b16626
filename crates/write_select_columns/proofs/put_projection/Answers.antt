-- `write_select_columns::put_projection` meets its contract: the number of the columns, then the columns of the items.
use mathlib.Core.Path.{refl}
use native.Mathlib.Omega.{arith}
use Rattle.image_bound.specs.Bundles.{list_length}
use Rattle.image_bound.specs.Columns.{bound_column_ref}
use Rattle.write_select_columns.specs.Laid.{list_room, laid_list}
use Rattle.write_select_columns.proofs.put_projection.Goals as goal

pub count_columns-n-requires : goal.count_columns-n-requires
count_columns-n-requires c =
    let w = c.requires in
    record { made = w.made; few = omega (arith, w.room, list_length bound_column_ref w.made.columns) }

pub overflow_mul-n : goal.overflow_mul-n
overflow_mul-n c =
    let w = c.requires in
    let m = w.made in
    omega (arith, c.count_columns-n.ensures m.schema m.value m.columns m.holds m.reads m.gives, w.room, list_length bound_column_ref m.columns)

pub overflow_add-row : goal.overflow_add-row
overflow_add-row c =
    let w = c.requires in
    let m = w.made in
    omega (arith, c.count_columns-n.ensures m.schema m.value m.columns m.holds m.reads m.gives, w.room, list_length bound_column_ref m.columns, c.put-row.ensures.end)

pub put_items-end-requires : goal.put_items-end-requires
put_items-end-requires c =
    let w = c.requires in
    let m = w.made in
    record {
      within = w.within;
      made = m;
      room = list_room m.columns w.room c.put-row.ensures (c.count_columns-n.ensures m.schema m.value m.columns m.holds m.reads m.gives);
    }

pub returns : goal.returns
returns c = λ v xs cs hv hx h. laid_list (c.put_items-end.ensures v xs cs hv hx h) c.put-row.ensures (c.count_columns-n.ensures v xs cs hv hx h) refl
