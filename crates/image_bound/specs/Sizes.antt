-- How long the image of each bound statement is, by the lengths of its parts: what is measured before a byte of it is written.
-- Assumes nothing.
use Rattle.std.specs.Prelude.{◌≡◌, refl, List, [], ◌∷◌, ◌+◌, length}
use Rattle.std.proofs.Common.{ap, ◌∙◌, arith}
use Rattle.std.proofs.Math.Option.{none, some}
use Rattle.std.proofs.Math.ListN.{length-append}
use Rattle.bytes_format.specs.Format.{Format}
use Rattle.bytes_format.proofs.Formats.{alone, optional, list_of}
use Rattle.image_value.specs.Parts.{column_id, value, column_schema}
use Rattle.rules.specs.Bound.{
  BoundExpr,
  BoundCreateTable,
  BoundInsert,
  BoundSelect,
  BoundAssignment,
  BoundUpdate,
  BoundDelete,
  bound_create_table,
  bound_insert,
  bound_select,
  bound_update,
  bound_delete,
  bound_begin,
  bound_commit,
  bound_rollback,
  bound_show_tables,
  bound_show_transactions,
}
use Rattle.image_bound.specs.Columns.{bound_table_ref, bound_column_ref}
use Rattle.image_bound.specs.Expression.{bound_expression, bound_expression_not_empty}
use Rattle.image_bound.specs.Layout.{assignment, bound_statement}
use Rattle.image_bound.specs.Bundles.{bodies, list_length, record2_length, record3_length}
use Rattle.image_bound.specs.Statements.{
  create_table_bytes,
  insert_bytes,
  select_bytes,
  assignment_bytes,
  update_bytes_lem,
  delete_bytes,
  create_table_coded,
  insert_coded,
  select_coded,
  update_coded,
  delete_coded,
  begin_coded,
  commit_coded,
  rollback_coded,
  show_tables_coded,
  show_transactions_coded,
}

-- ---- lists: none, and one part more at the front

module _ {A : Type 0} (f : Format A) where
  pub no_parts_length : length ((list_of 4 f).write []) ≡ 4
  no_parts_length = refl

  pub more_parts_length : (v : A) (vs : List A) → length ((list_of 4 f).write (v ∷ vs)) ≡ 4 + length (f.write v) + length ((list_of 4 f).write vs)
  unfolding bodies
  more_parts_length v vs =
      list_length f (v ∷ vs) ∙ omega (arith, list_length f vs, length-append (f.write v) (bodies f vs))

-- ---- a filter that may be there

pub no_filter_length : length ((optional bound_expression bound_expression_not_empty).write none) ≡ 0
no_filter_length = refl

pub filter_length : (e : BoundExpr) → length ((optional bound_expression bound_expression_not_empty).write (some e)) ≡ length (bound_expression.write e)
filter_length e = refl

-- ---- a code, and a record behind it

pub assignment_length : (a : BoundAssignment)
    → length (assignment.write a) ≡ 12 + length (bound_column_ref.write a.column) + length (bound_expression.write a.value)
assignment_length a = ap length (assignment_bytes a) ∙ record2_length (bound_column_ref.write a.column) (bound_expression.write a.value)

pub create_table_length : (c : BoundCreateTable)
    → length (bound_statement.write (bound_create_table c))
    ≡ 17 + length c.table_name + length ((list_of 4 (column_schema 4)).write c.columns) + length ((list_of 4 (alone column_id)).write c.key)
create_table_length c =
    ap length (create_table_coded c)
    ∙ omega (arith, ap length (create_table_bytes c), record3_length c.table_name ((list_of 4 (column_schema 4)).write c.columns) ((list_of 4 (alone column_id)).write c.key))

pub insert_length : (i : BoundInsert)
    → length (bound_statement.write (bound_insert i))
    ≡ 17 + length (bound_table_ref.write i.table) + length ((list_of 4 bound_column_ref).write i.target_columns) + length ((list_of 4 (list_of 4 value)).write i.rows)
insert_length i =
    ap length (insert_coded i)
    ∙ omega (arith, ap length (insert_bytes i), record3_length (bound_table_ref.write i.table) ((list_of 4 bound_column_ref).write i.target_columns) ((list_of 4 (list_of 4 value)).write i.rows))

pub select_length : (s : BoundSelect)
    → length (bound_statement.write (bound_select s))
    ≡ 17 + length (bound_table_ref.write s.table) + length ((list_of 4 bound_column_ref).write s.projection) + length ((optional bound_expression bound_expression_not_empty).write s.filter)
select_length s =
    ap length (select_coded s)
    ∙ omega (arith, ap length (select_bytes s), record3_length (bound_table_ref.write s.table) ((list_of 4 bound_column_ref).write s.projection) ((optional bound_expression bound_expression_not_empty).write s.filter))

pub update_length : (u : BoundUpdate)
    → length (bound_statement.write (bound_update u))
    ≡ 17 + length (bound_table_ref.write u.table) + length ((list_of 4 assignment).write u.assignments) + length (bound_expression.write u.filter)
update_length u =
    ap length (update_coded u)
    ∙ omega (arith, ap length (update_bytes_lem u), record3_length (bound_table_ref.write u.table) ((list_of 4 assignment).write u.assignments) (bound_expression.write u.filter))

pub delete_length : (d : BoundDelete)
    → length (bound_statement.write (bound_delete d)) ≡ 13 + length (bound_table_ref.write d.table) + length (bound_expression.write d.filter)
delete_length d =
    ap length (delete_coded d)
    ∙ omega (arith, ap length (delete_bytes d), record2_length (bound_table_ref.write d.table) (bound_expression.write d.filter))

-- ---- a code alone

pub begin_length : length (bound_statement.write bound_begin) ≡ 1
begin_length = ap length begin_coded

pub commit_length : length (bound_statement.write bound_commit) ≡ 1
commit_length = ap length commit_coded

pub rollback_length : length (bound_statement.write bound_rollback) ≡ 1
rollback_length = ap length rollback_coded

pub show_tables_length : length (bound_statement.write bound_show_tables) ≡ 1
show_tables_length = ap length show_tables_coded

pub show_transactions_length : length (bound_statement.write bound_show_transactions) ≡ 1
show_transactions_length = ap length show_transactions_coded
