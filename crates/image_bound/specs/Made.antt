-- The plain values whose bytes the writers put, by the parts that a writer is given.
-- Assumes nothing: these are definitions.
use Rattle.std.specs.Prelude.{Bool, List, map, ℕ}
use Rattle.rules.specs.declared.TableId.{TableId}
use Rattle.rules.specs.declared.ColumnId.{ColumnId}
use Rattle.rules.specs.declared.Ordinal.{Ordinal}
use Rattle.rules.specs.declared.DataType.{DataType}
use Rattle.rules.specs.Tables.{ColumnSchema}
use Rattle.rules.specs.Bound.{BoundTableRef, BoundColumnRef}

abbrev pub table_ref : TableId → ℕ → List ℕ → BoundTableRef
table_ref id version name = record { table_id = id; name = name; version = version }

abbrev pub column_ref : TableId → ColumnId → Ordinal → DataType → Bool → List ℕ → BoundColumnRef
column_ref table id ordinal ty nullable name = record {
  table_id = table;
  column_id = id;
  ordinal = ordinal;
  name = name;
  ty = ty;
  nullable = nullable;
}

abbrev pub column_of : ColumnId → DataType → Bool → List ℕ → ColumnSchema
column_of id ty nullable name = record { id = id; name = name; ty = ty; nullable = nullable }

-- the ids of a key, by their numbers
abbrev pub column_ids : List ℕ → List ColumnId
column_ids ns = map (λ n. record { 0 = n }) ns
