-- What a name in a statement stands for. "Positions count from 0; id 9 may stand at position 1."
-- Assumes nothing: these are definitions.
use Rattle.std.specs.Prelude.{Bool, List, [], ◌∷◌, ℕ, suc}
use Rattle.std.proofs.Math.Option.{Option}
use Rattle.rules.specs.declared.ColumnId.{ColumnId}
use Rattle.rules.specs.declared.ExpressionType.{ExpressionType}
use Rattle.rules.specs.declared.ExpressionType.TheVariants as type
use Rattle.rules.specs.declared.DataType.{DataType}
use Rattle.rules.specs.declared.DataType.TheVariants as data-type
use Rattle.rules.specs.declared.Mark.{Mark}
use Rattle.rules.specs.Lists.{Text, same, any, find}
use Rattle.rules.specs.Tables.{ColumnSchema, TableSchema, same_id}
use Rattle.rules.specs.Bound.{BoundTableRef, BoundColumnRef}

unfoldable pub bound_table : TableSchema → BoundTableRef
bound_table t = record { table_id = t.id; name = t.name; version = t.version }

-- a column with the position that it has in the table. Column ids are distinct, so this is the position that the Rust finds by the id
unfoldable pub bound_column : TableSchema → ℕ → ColumnSchema → BoundColumnRef
bound_column t n c = record {
  table_id = t.id;
  column_id = c.id;
  ordinal = record { 0 = n };
  name = c.name;
  ty = c.ty;
  nullable = c.nullable;
}

unfoldable pub bound_columns_from : TableSchema → ℕ → List ColumnSchema → List BoundColumnRef
bound_columns_from t n [] = []
bound_columns_from t n (c ∷ cs) = bound_column t n c ∷ bound_columns_from t (suc n) cs

-- all columns in order
unfoldable pub bound_columns : TableSchema → List BoundColumnRef
bound_columns t = bound_columns_from t 0 t.columns

abbrev pub ref_named : Text → BoundColumnRef → Bool
ref_named name r = same name r.name

unfoldable pub column_by_name : TableSchema → Text → Option BoundColumnRef
column_by_name t name = find (ref_named name) (bound_columns t)

unfoldable pub in_key : TableSchema → ColumnId → Bool
in_key t id = any (same_id id) t.key

abbrev pub expression_type : DataType → ExpressionType
expression_type data-type.Int = type.Int
expression_type data-type.Text = type.Text
expression_type data-type.Bool = type.Bool

abbrev pub mark : ExpressionType → Bool → Mark
mark t n = record { ty = t; nullable = n }

-- "Name: the column's type and nullability."
abbrev pub column_mark : BoundColumnRef → Mark
column_mark r = mark (expression_type r.ty) r.nullable
