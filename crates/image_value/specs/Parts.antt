-- What several images hold, as docs/IMAGES.md lays it out ("What all four share").
-- Assumes nothing.
use Rattle.std.specs.Prelude.{◌≡◌, refl, Bool, List, [], ◌∷◌, ℕ}
use Rattle.std.proofs.Math.Option.{some}
use Rattle.std.proofs.Math.ListN.{get_elem?}
use Rattle.bytes_format.specs.Format.{Format, Fixed, Coded}
use Rattle.bytes_format.proofs.Formats.{text, nothing, number, code, mark, alone, int64, via, via_field, both, end, ◌and◌, record_of}
use Rattle.bytes_format.proofs.Sums.{Case, case, Some, nth, made, sum, kinds, choice}
use Rattle.rules.specs.declared.TableId.{TableId}
use Rattle.rules.specs.declared.ColumnId.{ColumnId}
use Rattle.rules.specs.declared.DataType.{DataType}
use Rattle.rules.specs.declared.DataType.TheVariants as data-type
use Rattle.rules.specs.declared.ExpressionType.{ExpressionType}
use Rattle.rules.specs.declared.ExpressionType.TheVariants as type
use Rattle.rules.specs.declared.BoundBinaryOperator.{BoundBinaryOperator}
use Rattle.rules.specs.Marking.{types, type_no, operators, operator_no}
use Rattle.rules.proofs.Theorems.Table.{operator_found}
use Rattle.rules.specs.Tables.{ColumnSchema}
use Rattle.rules.specs.Bound.{Value}

-- ids of 8 bytes
abbrev pub column_id : Fixed ColumnId
column_id = via_field (number 8) (λ n. record { 0 = n }) (λ i. i.0) (λ i. refl) (λ n h. refl)

abbrev pub table_id : Fixed TableId
table_id = via_field (number 8) (λ n. record { 0 = n }) (λ i. i.0) (λ i. refl) (λ n h. refl)

-- type codes: 0 INT, 1 TEXT, 2 BOOL, 3 NULL
abbrev pub data_type_no : DataType → ℕ
data_type_no data-type.Int = 0
data_type_no data-type.Text = 1
data_type_no data-type.Bool = 2

pub data_type_found : (t : DataType) → get_elem? (data-type.Int ∷ data-type.Text ∷ data-type.Bool ∷ []) (data_type_no t) ≡ some t
data_type_found data-type.Int = refl
data_type_found data-type.Text = refl
data_type_found data-type.Bool = refl

abbrev pub data_type : Fixed DataType
data_type = code (record { all = data-type.Int ∷ data-type.Text ∷ data-type.Bool ∷ []; index = data_type_no; found = data_type_found; order = refl; few = refl })

pub type_found : (t : ExpressionType) → get_elem? types (type_no t) ≡ some t
type_found type.Int = refl
type_found type.Text = refl
type_found type.Bool = refl
type_found type.Null = refl

abbrev pub expression_type : Fixed ExpressionType
expression_type = code (record { all = types; index = type_no; found = type_found; order = refl; few = refl })

-- the thirteen operators, in the order of `BoundBinaryOperator`
abbrev pub operator_codes : Coded BoundBinaryOperator
operator_codes = kinds (record { all = operators; index = operator_no; found = operator_found; order = refl; few = refl })

-- ---- a value: its type code, and what follows

abbrev pub values : List (Case Value)
values = case (alone int64) Value.int ∷ case text Value.text ∷ case (alone mark) Value.bool ∷ case nothing (λ u. Value.null) ∷ []

abbrev pub which_value : Value → Some values
which_value (Value.int z) = nth values 0 z
which_value (Value.text s) = nth values 1 s
which_value (Value.bool b) = nth values 2 b
which_value Value.null = nth values 3 tt

pub value_made : (v : Value) → made values (which_value v) ≡ v
value_made (Value.int z) = refl
value_made (Value.text s) = refl
value_made (Value.bool b) = refl
value_made Value.null = refl

unfoldable pub value : Format Value
value = choice (sum values which_value value_made refl) refl

-- ---- a column: its numbers (id, type, nullable), and its name; counts have w bytes

abbrev pub ColumnNumbers : Type 0
ColumnNumbers = ColumnId × (DataType × Bool)

abbrev pub column_numbers : Fixed ColumnNumbers
column_numbers = both column_id (both data_type mark)

unfoldable pub column_schema : ℕ → Format ColumnSchema
column_schema w =
    via (record_of w (alone column_numbers and text and end))
    (λ p. record { id = p.0.0; name = p.1.0; ty = p.0.1.0; nullable = p.0.1.1 })
    (λ c. ((c.id, (c.ty, c.nullable)), (c.name, tt)))
    (λ c. refl)
    (λ p h. refl)
