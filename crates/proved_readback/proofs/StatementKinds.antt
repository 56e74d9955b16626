-- Bound statements kind by kind: which of them have an image, where their bytes are fewer than 2 ^ 32.
-- Assumes nothing.
use Rattle.std.specs.Prelude.{◌≡◌, true, ◌^◌, ◌<◌, length}
use Rattle.std.proofs.Common.{arith}
use Rattle.bytes_utf8.specs.Decide.{is_utf8}
use Rattle.bytes_format.specs.Format.{Every}
use Rattle.bytes_format.proofs.Formats.{text, alone, optional, list_of}
use Rattle.image_value.specs.Parts.{column_id, value, column_numbers, column_schema}
use Rattle.image_bound.specs.Columns.{bound_table_ref, bound_column_ref}
use Rattle.image_bound.specs.Expression.{bound_expression, bound_expression_not_empty}
use Rattle.image_bound.specs.Layout as bound
use Rattle.rules.specs.declared.ColumnId.{ColumnId}
use Rattle.rules.specs.Bound.{
  BoundCreateTable,
  BoundInsert,
  BoundSelect,
  BoundAssignment,
  BoundUpdate,
  BoundDelete,
  BoundStatement,
  bound_create_table,
  bound_insert,
  bound_select,
  bound_update,
  bound_delete,
  bound_begin,
  bound_commit,
  bound_rollback,
  bound_show_tables,
  bound_show_transactions,
}
use Rattle.proved_readback.specs.Lengths.{limit, Fits}
use Rattle.proved_readback.proofs.Fitting.{ok_fits, list_fits, record2_fits, record3_fits, IfThere, optional_fits}
use Rattle.proved_readback.proofs.Bindings.{ColumnFine, Sane, expression_fits}

-- ---- what each kind holds: numbers that fit, and texts that are UTF-8

abbrev pub IdFine : ColumnId → Type 0
IdFine i = i.0 < 256 ^ 8

pub record CreateSane (c : BoundCreateTable) : Type 0 where
  pub name : is_utf8 c.table_name ≡ true
  pub columns : Every ColumnFine c.columns
  pub key : Every IdFine c.key

pub record InsertSane (i : BoundInsert) : Type 0 where
  pub table : bound_table_ref.Ok i.table
  pub columns : Every bound_column_ref.Ok i.target_columns
  pub rows : Every (Every value.Ok) i.rows

pub record SelectSane (s : BoundSelect) : Type 0 where
  pub table : bound_table_ref.Ok s.table
  pub columns : Every bound_column_ref.Ok s.projection
  pub filter : IfThere Sane s.filter

pub record AssignmentSane (a : BoundAssignment) : Type 0 where
  pub column : bound_column_ref.Ok a.column
  pub value : Sane a.value

pub record UpdateSane (u : BoundUpdate) : Type 0 where
  pub table : bound_table_ref.Ok u.table
  pub assignments : Every AssignmentSane u.assignments
  pub filter : Sane u.filter

pub record DeleteSane (d : BoundDelete) : Type 0 where
  pub table : bound_table_ref.Ok d.table
  pub filter : Sane d.filter

abbrev pub BoundSane : BoundStatement → Type 0
BoundSane (bound_create_table c) = CreateSane c
BoundSane (bound_insert i) = InsertSane i
BoundSane (bound_select s) = SelectSane s
BoundSane (bound_update u) = UpdateSane u
BoundSane (bound_delete d) = DeleteSane d
BoundSane bound_begin = Unit {0}
BoundSane bound_commit = Unit {0}
BoundSane bound_rollback = Unit {0}
BoundSane bound_show_tables = Unit {0}
BoundSane bound_show_transactions = Unit {0}

-- ---- their images

column_fits : Fits (column_schema 4) ColumnFine
unfolding column_schema
column_fits c q h =
    record2_fits (alone column_numbers) text (alone column_numbers).Ok text.Ok (ok_fits (alone column_numbers)) (ok_fits text)
    (c.id, (c.ty, c.nullable)) c.name (q.0, (tt, tt)) q.1 h

create_fits : Fits bound.create_table CreateSane
unfolding bound.create_table
create_fits c q h =
    record3_fits text (list_of 4 (column_schema 4)) (list_of 4 (alone column_id)) text.Ok (Every ColumnFine) (Every IdFine)
    (ok_fits text) (list_fits (column_schema 4) ColumnFine column_fits) (list_fits (alone column_id) IdFine (ok_fits (alone column_id)))
    c.table_name c.columns c.key q.name q.columns q.key h

insert_fits : Fits bound.insert InsertSane
unfolding bound.insert
insert_fits i q h =
    record3_fits bound_table_ref (list_of 4 bound_column_ref) (list_of 4 (list_of 4 value)) bound_table_ref.Ok (Every bound_column_ref.Ok)
    (Every (Every value.Ok)) (ok_fits bound_table_ref) (list_fits bound_column_ref bound_column_ref.Ok (ok_fits bound_column_ref))
    (list_fits (list_of 4 value) (Every value.Ok) (list_fits value value.Ok (ok_fits value)))
    i.table i.target_columns i.rows q.table q.columns q.rows h

select_fits : Fits bound.select SelectSane
unfolding bound.select
select_fits s q h =
    record3_fits bound_table_ref (list_of 4 bound_column_ref) (optional bound_expression bound_expression_not_empty) bound_table_ref.Ok
    (Every bound_column_ref.Ok) (IfThere Sane) (ok_fits bound_table_ref) (list_fits bound_column_ref bound_column_ref.Ok (ok_fits bound_column_ref))
    (optional_fits bound_expression bound_expression_not_empty Sane expression_fits)
    s.table s.projection s.filter q.table q.columns q.filter h

assignment_fits : Fits bound.assignment AssignmentSane
unfolding bound.assignment
assignment_fits a q h =
    record2_fits bound_column_ref bound_expression bound_column_ref.Ok Sane (ok_fits bound_column_ref) expression_fits
    a.column a.value q.column q.value h

update_fits : Fits bound.update UpdateSane
unfolding bound.update
update_fits u q h =
    record3_fits bound_table_ref (list_of 4 bound.assignment) bound_expression bound_table_ref.Ok (Every AssignmentSane) Sane
    (ok_fits bound_table_ref) (list_fits bound.assignment AssignmentSane assignment_fits) expression_fits
    u.table u.assignments u.filter q.table q.assignments q.filter h

delete_fits : Fits bound.delete DeleteSane
unfolding bound.delete
delete_fits d q h =
    record2_fits bound_table_ref bound_expression bound_table_ref.Ok Sane (ok_fits bound_table_ref) expression_fits
    d.table d.filter q.table q.filter h

statement_fits_lem : Fits bound.bound_statement BoundSane
unfolding bound.bound_statement
statement_fits_lem (bound_create_table c) q h = create_fits c q (omega arith)
statement_fits_lem (bound_insert i) q h = insert_fits i q (omega arith)
statement_fits_lem (bound_select s) q h = select_fits s q (omega arith)
statement_fits_lem (bound_update u) q h = update_fits u q (omega arith)
statement_fits_lem (bound_delete d) q h = delete_fits d q (omega arith)
statement_fits_lem bound_begin q h = tt
statement_fits_lem bound_commit q h = tt
statement_fits_lem bound_rollback q h = tt
statement_fits_lem bound_show_tables q h = tt
statement_fits_lem bound_show_transactions q h = tt

pub has_image : (b : BoundStatement) → BoundSane b → length (bound.encode b) < limit → bound.HasImage b
unfolding bound.encode bound.HasImage
has_image b q h = statement_fits_lem b q h
