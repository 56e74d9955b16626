-- Rows. "A row image holds one value per column: of the column's type, INT in 64 signed bits, or NULL if nullable. Such a row obeys the
-- table."
-- Assumes nothing: these are definitions.
use Rattle.std.specs.Prelude.{Bool, true, false, ◌&&◌, List, [], ◌∷◌}
use Rattle.rules.specs.declared.DataType.TheVariants as data-type
use Rattle.rules.specs.Tables.{ColumnSchema, TableSchema}
use Rattle.rules.specs.Bound.{Value, int, text, bool, null}
use Rattle.rules.specs.Numbers.{in_range}
use Rattle.rules.specs.Analyze.{same_type}

-- the value at position n is that of the column at position n
abbrev pub Row : Type 0
Row = List Value

unfoldable pub value_obeys : ColumnSchema → Value → Bool
value_obeys c (int z) = same_type c.ty data-type.Int && in_range z
value_obeys c (text s) = same_type c.ty data-type.Text
value_obeys c (bool b) = same_type c.ty data-type.Bool
value_obeys c null = c.nullable

unfoldable pub columns_obeyed : List ColumnSchema → Row → Bool
columns_obeyed [] [] = true
columns_obeyed [] (v ∷ vs) = false
columns_obeyed (c ∷ cs) [] = false
columns_obeyed (c ∷ cs) (v ∷ vs) = value_obeys c v && columns_obeyed cs vs

unfoldable pub row_obeys : TableSchema → Row → Bool
row_obeys t row = columns_obeyed t.columns row
