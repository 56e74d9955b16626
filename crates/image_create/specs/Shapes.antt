-- Whether bytes are a part of a CREATE TABLE: a test for each thing that the code looks at.
-- Assumes nothing.
use Rattle.std.specs.Prelude.{◌≡◌, refl, ◌&&◌, ◌||◌, List, [], ◌∷◌, ℕ, length, drop, get_or, ltb, eqb}
use Rattle.std.proofs.Common.{◌∙◌}
use Rattle.bytes_format.specs.Format.{Enum}
use Rattle.bytes_format.proofs.Formats.{alone, mark, bools, both, headed, list_of, end, ◌and◌}
use Rattle.bytes_bundle.specs.Bundle.{is_there, parts_of, is_record}
use Rattle.bytes_bundle.specs.Decides.{Decides}
use Rattle.bytes_bundle.specs.Laws.{Places, part, part_as, done, record_tests, via_record_decided, there_next}
use Rattle.bytes_bundle.specs.Fields.{Spot, code_spot, both_spot, field_is}
use Rattle.bytes_bundle.specs.Heads.{Marked, headed_marked, Chosen, sum_chosen, bare_or_case, are_marks, marks_are, one_mark, more_marks}
use Rattle.rules.specs.Statements.{ColumnType, OptionKind}
use Rattle.image_parts.specs.Layout.{
  name,
  object_name,
  column_types,
  column_type_no,
  column_type_found,
  column_type,
  option_kinds,
  option_kind_no,
  option_kind_found,
  option_kind,
  option,
  column_definition,
  constraint_cases,
  which_constraint,
  constraint_made,
  constraint,
  create,
}

-- ---- codes

abbrev pub column_type_enum : Enum ColumnType
column_type_enum = record { all = column_types; index = column_type_no; found = column_type_found; order = refl; few = refl }

abbrev pub option_kind_enum : Enum OptionKind
option_kind_enum = record { all = option_kinds; index = option_kind_no; found = option_kind_found; order = refl; few = refl }

pub type_decided : (s : List ℕ) → Decides (is_there ((alone column_type).read s)) (eqb (length s) 1 ∷ ltb (get_or s 0 0) 4 ∷ [])
type_decided s = record { is = field_is (code_spot column_type_enum) s }

pub is_type_lem : (s : List ℕ) → is_there ((alone column_type).read s) ≡ (eqb (length s) 1 && ltb (get_or s 0 0) 4)
is_type_lem s = (type_decided s).is

-- ---- an option

abbrev pub option_spot : Spot (both mark option_kind)
option_spot = both_spot (code_spot bools) (code_spot option_kind_enum)

pub option_decided : (s : List ℕ) → Decides (is_there (option.read s)) (eqb (length s) 2 ∷ ltb (get_or s 0 0) 2 ∷ ltb (get_or s 1 0) 5 ∷ [])
unfolding option
option_decided s = record { is = there_next ((alone (both mark option_kind)).read s) _ ∙ field_is option_spot s }

pub is_option_lem : (s : List ℕ) → is_there (option.read s) ≡ (eqb (length s) 2 && (ltb (get_or s 0 0) 2 && ltb (get_or s 1 0) 5))
is_option_lem s = (option_decided s).is

-- ---- a column

abbrev pub column_definition_parts : Places (alone mark and name and list_of 2 option and alone column_type and end)
column_definition_parts = part_as (alone mark) (are_marks 1) (marks_are one_mark) (part name (part (list_of 2 option) (part (alone column_type) done)))

pub column_definition_decided : (s : List ℕ) → Decides (is_there (column_definition.read s)) (record_tests 2 column_definition_parts s)
unfolding column_definition
column_definition_decided s = via_record_decided 2 column_definition_parts s _

pub is_column_definition_lem : (s : List ℕ)
    → is_there (column_definition.read s)
    ≡ (is_record 2 4 s && (are_marks 1 (get_or (parts_of 2 s) 0 []) && (is_there (name.read (get_or (parts_of 2 s) 1 []))
    && (is_there ((list_of 2 option).read (get_or (parts_of 2 s) 2 [])) && is_there ((alone column_type).read (get_or (parts_of 2 s) 3 []))))))
is_column_definition_lem s = (column_definition_decided s).is

-- ---- a constraint

pub key_marked : (s : List ℕ) → Marked (is_there ((headed mark (λ m. list_of 2 name)).read s)) s (is_there ((list_of 2 name).read (drop 1 s)))
key_marked s = headed_marked (list_of 2 name) s

pub is_key_lem : (s : List ℕ)
    → is_there ((headed mark (λ m. list_of 2 name)).read s) ≡ (ltb 0 (length s) && (ltb (get_or s 0 0) 2 && is_there ((list_of 2 name).read (drop 1 s))))
is_key_lem s = (key_marked s).is

pub constraint_chosen : (s : List ℕ) → Chosen (is_there (constraint.read s)) s constraint_cases
unfolding constraint
constraint_chosen s = sum_chosen constraint_cases which_constraint constraint_made refl refl s

pub is_constraint_lem : (s : List ℕ)
    → is_there (constraint.read s)
    ≡ ((eqb (length s) 1 && eqb (get_or s 0 0) 0)
    || (ltb 0 (length s) && (eqb (get_or s 0 0) 1 && is_there ((headed mark (λ m. list_of 2 name)).read (drop 1 s)))))
is_constraint_lem s = bare_or_case (constraint_chosen s)

-- ---- the whole

abbrev pub create_parts : Places (alone (both mark (both mark mark)) and object_name and list_of 2 column_definition and list_of 2 constraint and end)
create_parts =
    part_as (alone (both mark (both mark mark))) (are_marks 3) (marks_are (more_marks (more_marks one_mark)))
    (part object_name (part (list_of 2 column_definition) (part (list_of 2 constraint) done)))

pub create_decided : (s : List ℕ) → Decides (is_there (create.read s)) (record_tests 2 create_parts s)
unfolding create
create_decided s = via_record_decided 2 create_parts s _

pub is_create_lem : (s : List ℕ)
    → is_there (create.read s)
    ≡ (is_record 2 4 s && (are_marks 3 (get_or (parts_of 2 s) 0 []) && (is_there (object_name.read (get_or (parts_of 2 s) 1 []))
    && (is_there ((list_of 2 column_definition).read (get_or (parts_of 2 s) 2 [])) && is_there ((list_of 2 constraint).read (get_or (parts_of 2 s) 3 []))))))
is_create_lem s = (create_decided s).is
