-- The bytes of each bound statement by its parts: a code, and a record of the parts.
-- Assumes nothing.
use Rattle.std.specs.Prelude.{◌≡◌, refl, [], ◌∷◌, ◌++◌}
use Rattle.bytes_format.proofs.Formats.{text, alone, optional, list_of}
use Rattle.image_value.specs.Parts.{column_id, value, column_schema}
use Rattle.rules.specs.Bound.{
  BoundCreateTable,
  BoundInsert,
  BoundSelect,
  BoundAssignment,
  BoundUpdate,
  BoundDelete,
  bound_create_table,
  bound_insert,
  bound_select,
  bound_update,
  bound_delete,
  bound_begin,
  bound_commit,
  bound_rollback,
  bound_show_tables,
  bound_show_transactions,
}
use Rattle.image_bound.specs.Columns.{bound_table_ref, bound_column_ref}
use Rattle.image_bound.specs.Expression.{bound_expression, bound_expression_not_empty}
use Rattle.image_bound.specs.Layout.{create_table, insert, select, assignment, update, delete, bound_statement}
use Rattle.image_bound.specs.Bundles.{record2, record3, record2_bytes, record3_bytes}

-- ---- what follows the code

pub create_table_bytes : (c : BoundCreateTable)
    → create_table.write c ≡ record3 c.table_name ((list_of 4 (column_schema 4)).write c.columns) ((list_of 4 (alone column_id)).write c.key)
unfolding create_table
create_table_bytes c = record3_bytes text (list_of 4 (column_schema 4)) (list_of 4 (alone column_id)) c.table_name c.columns c.key

pub insert_bytes : (i : BoundInsert)
    → insert.write i ≡ record3 (bound_table_ref.write i.table) ((list_of 4 bound_column_ref).write i.target_columns) ((list_of 4 (list_of 4 value)).write i.rows)
unfolding insert
insert_bytes i = record3_bytes bound_table_ref (list_of 4 bound_column_ref) (list_of 4 (list_of 4 value)) i.table i.target_columns i.rows

pub select_bytes : (s : BoundSelect)
    → select.write s
    ≡ record3 (bound_table_ref.write s.table) ((list_of 4 bound_column_ref).write s.projection) ((optional bound_expression bound_expression_not_empty).write s.filter)
unfolding select
select_bytes s =
    record3_bytes bound_table_ref (list_of 4 bound_column_ref) (optional bound_expression bound_expression_not_empty) s.table s.projection s.filter

pub assignment_bytes : (a : BoundAssignment) → assignment.write a ≡ record2 (bound_column_ref.write a.column) (bound_expression.write a.value)
unfolding assignment
assignment_bytes a = record2_bytes bound_column_ref bound_expression a.column a.value

pub update_bytes_lem : (u : BoundUpdate)
    → update.write u ≡ record3 (bound_table_ref.write u.table) ((list_of 4 assignment).write u.assignments) (bound_expression.write u.filter)
unfolding update
update_bytes_lem u = record3_bytes bound_table_ref (list_of 4 assignment) bound_expression u.table u.assignments u.filter

pub delete_bytes : (d : BoundDelete) → delete.write d ≡ record2 (bound_table_ref.write d.table) (bound_expression.write d.filter)
unfolding delete
delete_bytes d = record2_bytes bound_table_ref bound_expression d.table d.filter

-- ---- the code

pub create_table_coded : (c : BoundCreateTable) → bound_statement.write (bound_create_table c) ≡ (0 ∷ []) ++ create_table.write c
unfolding bound_statement
create_table_coded c = refl

pub insert_coded : (i : BoundInsert) → bound_statement.write (bound_insert i) ≡ (1 ∷ []) ++ insert.write i
unfolding bound_statement
insert_coded i = refl

pub select_coded : (s : BoundSelect) → bound_statement.write (bound_select s) ≡ (2 ∷ []) ++ select.write s
unfolding bound_statement
select_coded s = refl

pub update_coded : (u : BoundUpdate) → bound_statement.write (bound_update u) ≡ (3 ∷ []) ++ update.write u
unfolding bound_statement
update_coded u = refl

pub delete_coded : (d : BoundDelete) → bound_statement.write (bound_delete d) ≡ (4 ∷ []) ++ delete.write d
unfolding bound_statement
delete_coded d = refl

pub begin_coded : bound_statement.write bound_begin ≡ 5 ∷ []
unfolding bound_statement
begin_coded = refl

pub commit_coded : bound_statement.write bound_commit ≡ 6 ∷ []
unfolding bound_statement
commit_coded = refl

pub rollback_coded : bound_statement.write bound_rollback ≡ 7 ∷ []
unfolding bound_statement
rollback_coded = refl

pub show_tables_coded : bound_statement.write bound_show_tables ≡ 8 ∷ []
unfolding bound_statement
show_tables_coded = refl

pub show_transactions_coded : bound_statement.write bound_show_transactions ≡ 9 ∷ []
unfolding bound_statement
show_transactions_coded = refl
