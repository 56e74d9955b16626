-- Whether bytes are a column, or a table: a test for each thing that the code looks at.
-- Assumes nothing.
use Rattle.std.specs.Prelude.{◌≡◌, refl, Bool, ◌&&◌, List, [], ◌∷◌, ℕ, length, get_or, ltb, eqb}
use Rattle.std.proofs.Common.{◌∙◌}
use Rattle.std.proofs.Math.Bool.{and-true}
use Rattle.bytes_format.specs.Format.{Enum}
use Rattle.bytes_format.proofs.Formats.{text, alone, bools, list_of, end, ◌and◌}
use Rattle.bytes_utf8.specs.Decide.{is_utf8}
use Rattle.bytes_bundle.specs.Bundle.{is_there, parts_of, is_record}
use Rattle.bytes_bundle.specs.Decides.{Decides}
use Rattle.bytes_bundle.specs.Laws.{Places, part, part_as, done, via_record_decided}
use Rattle.bytes_bundle.specs.Fields.{Spot, number_spot, code_spot, both_spot, via_spot, field_is, text_is}
use Rattle.image_catalogue.specs.Layout.{table_numbers, table}
use Rattle.image_value.specs.Parts.{column_id, data_type_no, data_type_found, column_numbers, column_schema}
use Rattle.rules.specs.declared.DataType.{DataType}
use Rattle.rules.specs.declared.DataType.TheVariants as data-type

-- ---- a column

abbrev pub is_id : List ℕ → Bool
is_id p = eqb (length p) 8

abbrev pub column_id_spot : Spot column_id
column_id_spot = via_spot (number_spot 8) (λ n. record { 0 = n }) (λ i. i.0) (λ i. refl) (λ n h. refl)

pub id_is : (p : List ℕ) → is_there ((alone column_id).read p) ≡ is_id p
id_is p = field_is column_id_spot p ∙ and-true (is_id p)

abbrev pub is_column : List ℕ → Bool
is_column p = is_there ((column_schema 2).read p)

abbrev pub data_types : Enum DataType
data_types = record { all = data-type.Int ∷ data-type.Text ∷ data-type.Bool ∷ []; index = data_type_no; found = data_type_found; order = refl; few = refl }

abbrev pub column_numbers_spot : Spot column_numbers
column_numbers_spot = both_spot column_id_spot (both_spot (code_spot data_types) (code_spot bools))

pub column_numbers_decided : (s : List ℕ) → Decides (is_there ((alone column_numbers).read s)) (eqb (length s) 10 ∷ ltb (get_or s 8 0) 3 ∷ ltb (get_or s 9 0) 2 ∷ [])
column_numbers_decided s = record { is = field_is column_numbers_spot s }

pub are_column_numbers_lem : (s : List ℕ)
    → is_there ((alone column_numbers).read s) ≡ (eqb (length s) 10 && (ltb (get_or s 8 0) 3 && ltb (get_or s 9 0) 2))
are_column_numbers_lem s = (column_numbers_decided s).is

abbrev pub column_parts : Places (alone column_numbers and text and end)
column_parts = part (alone column_numbers) (part_as text is_utf8 text_is done)

pub column_decided : (s : List ℕ)
    → Decides (is_there ((column_schema 2).read s))
    (is_record 2 2 s ∷ is_there ((alone column_numbers).read (get_or (parts_of 2 s) 0 [])) ∷ is_utf8 (get_or (parts_of 2 s) 1 []) ∷ [])
unfolding column_schema
column_decided s = via_record_decided 2 column_parts s _

pub is_column_lem : (s : List ℕ)
    → is_there ((column_schema 2).read s) ≡ (is_record 2 2 s && (is_there ((alone column_numbers).read (get_or (parts_of 2 s) 0 [])) && is_utf8 (get_or (parts_of 2 s) 1 [])))
is_column_lem s = (column_decided s).is

-- ---- a table

abbrev pub table_numbers_spot : Spot table_numbers
table_numbers_spot = both_spot (via_spot (number_spot 8) (λ n. record { 0 = n }) (λ i. i.0) (λ i. refl) (λ n h. refl)) (both_spot (number_spot 8) (number_spot 4))

abbrev pub are_table_numbers : List ℕ → Bool
are_table_numbers p = eqb (length p) 20

pub table_numbers_are : (p : List ℕ) → is_there ((alone table_numbers).read p) ≡ are_table_numbers p
table_numbers_are p = field_is table_numbers_spot p ∙ and-true (are_table_numbers p)

abbrev pub are_columns : List ℕ → Bool
are_columns p = is_there ((list_of 2 (column_schema 2)).read p)

abbrev pub are_ids : List ℕ → Bool
are_ids p = is_there ((list_of 2 (alone column_id)).read p)

abbrev pub table_parts : Places (alone table_numbers and text and list_of 2 (column_schema 2) and list_of 2 (alone column_id) and end)
table_parts = part_as (alone table_numbers) are_table_numbers table_numbers_are (part_as text is_utf8 text_is (part (list_of 2 (column_schema 2)) (part (list_of 2 (alone column_id)) done)))

abbrev pub table_tests : List ℕ → List Bool
table_tests s =
    is_record 2 4 s ∷ are_table_numbers (get_or (parts_of 2 s) 0 []) ∷ is_utf8 (get_or (parts_of 2 s) 1 []) ∷ are_columns (get_or (parts_of 2 s) 2 []) ∷ are_ids (get_or (parts_of 2 s) 3 []) ∷ []

pub table_decided : (s : List ℕ) → Decides (is_there (table.read s)) (table_tests s)
unfolding table
table_decided s = via_record_decided 2 table_parts s _

pub is_table_lem : (s : List ℕ)
    → is_there (table.read s)
    ≡ (is_record 2 4 s && (eqb (length (get_or (parts_of 2 s) 0 [])) 20 && (is_utf8 (get_or (parts_of 2 s) 1 [])
    && (is_there ((list_of 2 (column_schema 2)).read (get_or (parts_of 2 s) 2 [])) && is_there ((list_of 2 (alone column_id)).read (get_or (parts_of 2 s) 3 []))))))
is_table_lem s = (table_decided s).is
