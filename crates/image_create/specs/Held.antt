-- What the parts of a CREATE TABLE hold, by the bytes that the accessors look at.
-- Assumes nothing.
use Rattle.std.specs.Prelude.{◌≡◌, refl, Bool, true, false, ◌⊎◌, List, [], ℕ, ◌<◌, length, drop, get_or, eqb}
use Rattle.std.proofs.Common.{◌∙◌, ap, subst₂, inl, inr, arith}
use Rattle.std.proofs.Math.Option.{some}
use Rattle.bytes_format.proofs.Formats.{alone, mark, bools, both, headed, list_of}
use Rattle.bytes_bundle.specs.Bundle.{parts_of, IsRecord}
use Rattle.bytes_bundle.specs.Laws.{some_there, via_record_there, via_record_value}
use Rattle.bytes_bundle.specs.Fields.{code_spot, both_spot, field_value}
use Rattle.bytes_bundle.specs.Values.{
  mapped_value,
  code_index,
  mark_is,
  both_value,
  LoneCode,
  lone_code,
  LoneMark,
  lone_mark,
  marked_value,
  CodedHas,
  behind_code,
  chosen_value,
  two_cases,
}
use Rattle.rules.specs.Statements.{Name, ColumnOption, ColumnDefinition, Constraint, primary_key, other_constraint, CreateTable}
use Rattle.image_parts.specs.Layout.{
  name,
  object_name,
  column_type_no,
  option_kind_no,
  option_kind,
  option,
  column_definition,
  constraint_cases,
  which_constraint,
  constraint_made,
  constraint,
  create,
}
use Rattle.image_create.specs.Shapes.{column_type_enum, option_kind_enum, option_spot, column_definition_parts, create_parts}
use Rattle.bytes_bundle.specs.Held.{Is, Holds, Shows}

-- ---- an option

pub record OptionHas (s : List ℕ) (v : ColumnOption) : Type 0 where
  pub wide : length s ≡ 2
  pub named : eqb (get_or s 0 0) 1 ≡ v.named
  pub kind : get_or s 1 0 ≡ option_kind_no v.kind

pub option_has : (s : List ℕ) (v : ColumnOption) → Holds option s v → OptionHas s v
unfolding option
option_has s v e =
    let a = mapped_value ((alone (both mark option_kind)).read s) _ e in
    let k = field_value option_spot s a.1 in
    let b = both_value (code_spot bools) (code_spot option_kind_enum) 0 s k.1 in
    record {
      wide = k.0;
      named = mark_is (get_or s 0 0) b.0 ∙ ap (λ (o : ColumnOption). o.named) a.2;
      kind = code_index option_kind_enum (get_or s 1 0) b.1 ∙ ap (λ (o : ColumnOption). option_kind_no o.kind) a.2;
    }

-- ---- a column

pub record ColumnHas (s : List ℕ) (v : ColumnDefinition) : Type 0 where
  pub whole : IsRecord 2 4 s
  pub collation : LoneMark (get_or (parts_of 2 s) 0 []) v.collation
  pub name : Holds name (get_or (parts_of 2 s) 1 []) v.name
  pub options : Holds (list_of 2 option) (get_or (parts_of 2 s) 2 []) v.options
  pub ty : LoneCode (get_or (parts_of 2 s) 3 []) (column_type_no v.ty)

pub column_has : (s : List ℕ) (v : ColumnDefinition) → Holds column_definition s v → ColumnHas s v
unfolding column_definition
column_has s v e =
    let a = via_record_value 2 column_definition_parts s _ e in
    let k = a.1 in
    record {
      whole = via_record_there 2 column_definition_parts s _ e;
      collation = lone_mark _ (k.0 ∙ ap (λ (c : ColumnDefinition). some c.collation) a.2);
      name = k.1.0 ∙ ap (λ (c : ColumnDefinition). some c.name) a.2;
      options = k.1.1.0 ∙ ap (λ (c : ColumnDefinition). some c.options) a.2;
      ty = lone_code column_type_enum _ (k.1.1.1.0 ∙ ap (λ (c : ColumnDefinition). some c.ty) a.2);
    }

-- ---- a constraint

abbrev pub is_key : Constraint → Bool
is_key (primary_key m names) = true
is_key other_constraint = false

-- what a primary key has behind its code
abbrev pub KeyHas : List ℕ → Bool → List Name → Type 0
KeyHas s m names = CodedHas (list_of 2 name) s m names

pub record ConstraintHas (s : List ℕ) (v : Constraint) : Type 0 where
  pub wide : 0 < length s
  pub code : eqb (get_or s 0 0) 1 ≡ is_key v
  pub key : (m : Bool) (names : List Name) → v ≡ primary_key m names → KeyHas s m names

constraint_case : (s : List ℕ) (v : Constraint) → 0 < length s
    → (((get_or s 0 0 ≡ 0) × (other_constraint ≡ v))
    ⊎ ((get_or s 0 0 ≡ 1) × ((x : Bool × List Name) × ((headed mark (λ m. list_of 2 name)).read (drop 1 s) ≡ some x) × (primary_key x.0 x.1 ≡ v))))
    → ConstraintHas s v
constraint_case s v w (inl h) = record {
  wide = w;
  code = ap (λ (i : ℕ). eqb i 1) h.0 ∙ ap is_key h.1;
  key = λ m names e. let z : ◌≡◌ {A = ℕ} 0 1 = cc in absurd (omega arith);
}
constraint_case s v w (inr h) = record {
  wide = w;
  code = ap (λ (i : ℕ). eqb i 1) h.0 ∙ ap is_key h.1.2;
  key = λ m names e.
      let y : h.1.0.0 ≡ m = cc in
      let z : h.1.0.1 ≡ names = cc in
      subst₂ (KeyHas s) y z (behind_code (list_of 2 name) s (marked_value (list_of 2 name) (drop 1 s) h.1.1));
}

pub constraint_has : (s : List ℕ) (v : Constraint) → Holds constraint s v → ConstraintHas s v
unfolding constraint
constraint_has s v e =
    let h = chosen_value constraint_cases which_constraint constraint_made refl refl s e in
    constraint_case s v h.0 (two_cases other_constraint (headed mark (λ m. list_of 2 name)) (λ p. primary_key p.0 p.1) (get_or s 0 0) (drop 1 s) h.1)

-- ---- the whole

pub record CreateMarks (s : List ℕ) (v : CreateTable) : Type 0 where
  pub wide : length s ≡ 3
  pub if_not_exists : eqb (get_or s 0 0) 1 ≡ v.if_not_exists
  pub as_query : eqb (get_or s 1 0) 1 ≡ v.as_query
  pub other_feature : eqb (get_or s 2 0) 1 ≡ v.other_feature

pub record CreateHas (s : List ℕ) (v : CreateTable) : Type 0 where
  pub whole : IsRecord 2 4 s
  pub marks : CreateMarks (get_or (parts_of 2 s) 0 []) v
  pub name : Holds object_name (get_or (parts_of 2 s) 1 []) v.name
  pub columns : Holds (list_of 2 column_definition) (get_or (parts_of 2 s) 2 []) v.columns
  pub constraints : Holds (list_of 2 constraint) (get_or (parts_of 2 s) 3 []) v.constraints

create_marks : (s : List ℕ) (v : CreateTable) → (alone (both mark (both mark mark))).read s ≡ some (v.if_not_exists, (v.as_query, v.other_feature)) → CreateMarks s v
create_marks s v e =
    let k = field_value (both_spot (code_spot bools) (both_spot (code_spot bools) (code_spot bools))) s e in
    let a = both_value (code_spot bools) (both_spot (code_spot bools) (code_spot bools)) 0 s k.1 in
    let b = both_value (code_spot bools) (code_spot bools) 1 s a.1 in
    record {
      wide = k.0;
      if_not_exists = mark_is (get_or s 0 0) a.0;
      as_query = mark_is (get_or s 1 0) b.0;
      other_feature = mark_is (get_or s 2 0) b.1;
    }

pub create_has : (s : List ℕ) (v : CreateTable) → Holds create s v → CreateHas s v
unfolding create
create_has s v e =
    let a = via_record_value 2 create_parts s _ e in
    let k = a.1 in
    record {
      whole = via_record_there 2 create_parts s _ e;
      marks = create_marks _ v (k.0 ∙ ap (λ (c : CreateTable). some (c.if_not_exists, (c.as_query, c.other_feature))) a.2);
      name = k.1.0 ∙ ap (λ (c : CreateTable). some c.name) a.2;
      columns = k.1.1.0 ∙ ap (λ (c : CreateTable). some c.columns) a.2;
      constraints = k.1.1.1.0 ∙ ap (λ (c : CreateTable). some c.constraints) a.2;
    }

-- ---- what the accessors may rely on

pub option_wide : {s : List ℕ} → Is option s → length s ≡ 2
option_wide {s} i = some_there (option.read s) i.there (λ v e. (option_has s v e).wide)

-- a column's parts
pub record ColumnShape (s : List ℕ) : Type 0 where
  pub whole : IsRecord 2 4 s
  pub collation : length (get_or (parts_of 2 s) 0 []) ≡ 1
  pub ty : length (get_or (parts_of 2 s) 3 []) ≡ 1

pub column_shape : {s : List ℕ} → Is column_definition s → ColumnShape s
column_shape {s} i =
    some_there (column_definition.read s) i.there (λ v e.
    let h = column_has s v e in
    record { whole = h.whole; collation = h.collation.wide; ty = h.ty.wide })

pub constraint_wide : {s : List ℕ} → Is constraint s → 0 < length s
constraint_wide {s} i = some_there (constraint.read s) i.there (λ v e. (constraint_has s v e).wide)

pub key_wide : {s : List ℕ} → Shows constraint is_key s → 1 < length s
key_wide {s} i = some_there (constraint.read s) i.there (λ v e. go v (constraint_has s v e) (i.case v e))
  where
    go : (v : Constraint) → ConstraintHas s v → is_key v ≡ true → 1 < length s
    go (primary_key m names) h e = (h.key m names refl).wide
    go other_constraint h e = let z : ◌≡◌ {A = ℕ} 0 1 = cc in absurd (omega arith)

-- a CREATE TABLE's parts
pub record CreateShape (s : List ℕ) : Type 0 where
  pub whole : IsRecord 2 4 s
  pub marks : length (get_or (parts_of 2 s) 0 []) ≡ 3

pub create_shape : {s : List ℕ} → Is create s → CreateShape s
create_shape {s} i =
    some_there (create.read s) i.there (λ v e. let h = create_has s v e in record { whole = h.whole; marks = h.marks.wide })
