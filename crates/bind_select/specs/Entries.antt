-- How long the list of a projection is: each column adds its length, which has 4 bytes, and its reference.
-- Assumes nothing.
use Rattle.std.specs.Prelude.{◌≡◌, refl, List, [], ◌∷◌, ◌++◌, ℕ, suc, ◌+◌, length}
use Rattle.std.proofs.Common.{◌∙◌, arith}
use Rattle.bytes_format.proofs.Formats.{list_of}
use Rattle.image_bound.specs.Columns.{bound_column_ref}
use Rattle.image_bound.specs.Sizes.{no_parts_length, more_parts_length}
use Rattle.image_bound.specs.Spelt.{column_ref_length}
use Rattle.rules.specs.Bound.{BoundColumnRef}
use Rattle.rules.specs.Lookup.{bound_column, bound_columns_from, bound_columns}
use Rattle.rules.specs.Tables.{ColumnSchema, TableSchema}

-- what columns add
unfoldable pub entries : List BoundColumnRef → ℕ
entries [] = 0
entries (c ∷ cs) = 30 + length c.name + entries cs

-- what all columns of a table add
unfoldable pub column_entries : List ColumnSchema → ℕ
column_entries [] = 0
column_entries (c ∷ cs) = 30 + length c.name + column_entries cs

pub no_entries : entries [] ≡ 0
unfolding entries
no_entries = refl

pub one_entry : (c : BoundColumnRef) → entries (c ∷ []) ≡ 30 + length c.name
unfolding entries
one_entry c = omega arith

pub entries_append : (cs ds : List BoundColumnRef) → entries (cs ++ ds) ≡ entries cs + entries ds
unfolding entries
entries_append [] ds = omega arith
entries_append (c ∷ cs) ds = omega (arith, entries_append cs ds)

pub no_columns : column_entries [] ≡ 0
unfolding column_entries
no_columns = refl

pub more_columns : (c : ColumnSchema) (cs : List ColumnSchema) → column_entries (c ∷ cs) ≡ 30 + length c.name + column_entries cs
unfolding column_entries
more_columns c cs = refl

from_entries : (t : TableSchema) (i : ℕ) (cs : List ColumnSchema) → entries (bound_columns_from t i cs) ≡ column_entries cs
unfolding entries column_entries bound_columns_from bound_column
from_entries t i [] = refl
from_entries t i (c ∷ cs) = omega (arith, from_entries t (suc i) cs)

pub all_entries : (t : TableSchema) → entries (bound_columns t) ≡ column_entries t.columns
unfolding bound_columns
all_entries t = from_entries t 0 t.columns

-- the whole list
pub list_entries : (cs : List BoundColumnRef) → length ((list_of 4 bound_column_ref).write cs) ≡ 4 + entries cs
unfolding entries
list_entries [] = no_parts_length bound_column_ref
list_entries (c ∷ cs) = more_parts_length bound_column_ref c cs ∙ omega (arith, column_ref_length c, list_entries cs)
