-- Tables and catalogues as plain values, with the names of the Rust's schemas.
-- "A catalogue holds tables, names and ids distinct. Each table: id, name, schema version, tablet count, columns (id, name,
-- INT/TEXT/BOOL, nullable), key ids."
-- Assumes nothing: these are definitions.
use Rattle.std.specs.Prelude.{Bool, not, ◌&&◌, List, ℕ, eqb}
use Rattle.std.proofs.Math.Option.{Option}
use Rattle.rules.specs.declared.TableId.{TableId}
use Rattle.rules.specs.declared.ColumnId.{ColumnId}
use Rattle.rules.specs.declared.DataType.{DataType}
use Rattle.rules.specs.Lists.{Text, same, is_empty, any, all, find, distinct}

pub record ColumnSchema : Type 0 where
  pub id : ColumnId
  pub name : Text
  pub ty : DataType
  pub nullable : Bool

pub record TableSchema : Type 0 where
  pub id : TableId
  pub name : Text
  pub columns : List ColumnSchema
  pub key : List ColumnId
  pub version : ℕ
  pub tablets : ℕ

abbrev pub Catalogue : Type 0
Catalogue = List TableSchema

abbrev pub same_id : ColumnId → ColumnId → Bool
same_id a b = eqb a.0 b.0

abbrev pub column_named : Text → ColumnSchema → Bool
column_named name c = same name c.name

abbrev pub table_named : Text → TableSchema → Bool
table_named name t = same name t.name

unfoldable pub table_by_name : Catalogue → Text → Option TableSchema
table_by_name c name = find (table_named name) c

-- a key id is that of a column, and the column is not nullable
abbrev pub is_key_column : List ColumnSchema → ColumnId → Bool
is_key_column cs k = any (λ (c : ColumnSchema). same_id c.id k && not c.nullable) cs

-- "Column names are distinct, ids distinct and nonzero, the key is not empty, its ids are distinct, present and of columns not
-- nullable."
unfoldable pub sound_table : TableSchema → Bool
sound_table t =
    distinct (λ (a b : ColumnSchema). same a.name b.name) t.columns
    && distinct (λ (a b : ColumnSchema). same_id a.id b.id) t.columns
    && all (λ (c : ColumnSchema). not (eqb c.id.0 0)) t.columns
    && not (is_empty t.key)
    && distinct same_id t.key
    && all (is_key_column t.columns) t.key

-- "tables, names and ids distinct .. Anything else is no catalogue image."
unfoldable pub sound : Catalogue → Bool
sound c =
    distinct (λ (a b : TableSchema). same a.name b.name) c
    && distinct (λ (a b : TableSchema). eqb a.id.0 b.id.0) c
    && all sound_table c
