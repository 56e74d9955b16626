-- What a lookup answers, by the answer of the rules.
-- Assumes nothing.
use Rattle.std.specs.Prelude.{◌≡◌, Bool, true, false, List, ◌∷◌, ℕ, suc, ◌+◌, ◌-◌, ◌≤◌, length, take, drop, Option as Maybe, Some, None}
use Rattle.std.specs.Borrow.{Bor}
use Rattle.std.proofs.Common.{sym, ◌∙◌, add-one, arith, drop_of_length-le, drop-drop, take-take}
use Rattle.std.proofs.Math.Path.{ap}
use Rattle.std.proofs.Math.Option.{Option, none, some}
use Rattle.bytes_format.proofs.Formats.{list_of}
use Rattle.bytes_bundle.specs.Bundle.{parts_of}
use Rattle.bytes_bundle.specs.Laws.{drop_take}
use Rattle.bytes_bundle.specs.Held.{Holds, Left, left, list_count}
use Rattle.bytes_bundle.specs.Numbered.{IsPart, valued}
use Rattle.image_value.specs.Parts.{column_schema}
use Rattle.image_catalogue.specs.Layout.{table}
use Rattle.image_catalogue.specs.Entries.{find_hit, find_miss}
use Rattle.catalogue_lookup.specs.Found.{PartIs}
use Rattle.rules.specs.declared.Ordinal.{Ordinal}
use Rattle.rules.specs.Lists.{Text, same, find}
use Rattle.rules.specs.Tables.{ColumnSchema, TableSchema, Catalogue, table_by_name}
use Rattle.rules.specs.Bound.{BoundColumnRef}
use Rattle.rules.specs.Lookup.{bound_column, bound_columns, bound_columns_from, ref_named, column_by_name}
use Rattle.catalogue_lookup.specs.declared.Column.{Column}

-- ---- a table

-- the table's bytes, where there is one
abbrev pub TableIs : Option TableSchema → Maybe (Bor (List ℕ)) → Type 0
TableIs = PartIs table

abbrev pub FindsTable : List ℕ → Text → Maybe (Bor (List ℕ)) → Type 0
FindsTable s name r = (ts : Catalogue) → Holds (list_of 2 table) s ts → TableIs (table_by_name ts name) r

-- ---- a column

-- the first of some columns, the first of which has number i, as the rules bind it in a table
abbrev pub bound_from : Text → TableSchema → ℕ → List ColumnSchema → Option BoundColumnRef
bound_from name t i cs = find (ref_named name) (bound_columns_from t i cs)

abbrev pub ordinal_of : ℕ → Ordinal
ordinal_of i = record { 0 = i }

-- r is column i
pub record ColumnRead (i : ℕ) (r : Column) (v : ColumnSchema) : Type 0 where
  pub id : r.id ≡ v.id
  pub ordinal : r.ordinal ≡ ordinal_of i
  pub ty : r.ty ≡ v.ty
  pub nullable : r.nullable ≡ v.nullable
  pub name : r.name.now ≡ v.name

abbrev pub ReadsColumn : List ℕ → ℕ → Column → Type 0
ReadsColumn c i r = (v : ColumnSchema) → Holds (column_schema 2) c v → ColumnRead i r v

-- r is the first of the columns of this name
pub record ColumnStands (name : Text) (cs : List ColumnSchema) (r : Column) : Type 0 where
  pub number : ℕ
  pub value : ColumnSchema
  pub read : ColumnRead number r value
  pub bound : (t : TableSchema) → bound_from name t 0 cs ≡ some (bound_column t number value)

abbrev pub ColumnAmong : Text → List ColumnSchema → Maybe Column → Type 0
ColumnAmong name cs (Some r) = ColumnStands name cs r
ColumnAmong name cs None = (t : TableSchema) → bound_from name t 0 cs ≡ none

abbrev pub Stands : List ℕ → Text → Maybe Column → Type 0
Stands s name r = (cs : List ColumnSchema) → Holds (list_of 2 (column_schema 2)) s cs → ColumnAmong name cs r

-- r is what the rules bind
pub record ColumnBound (r : Column) (b : BoundColumnRef) : Type 0 where
  pub id : r.id ≡ b.column_id
  pub ordinal : r.ordinal ≡ b.ordinal
  pub ty : r.ty ≡ b.ty
  pub nullable : r.nullable ≡ b.nullable
  pub name : r.name.now ≡ b.name

abbrev pub ColumnIs : Option BoundColumnRef → Maybe Column → Type 0
ColumnIs o (Some r) = (b : BoundColumnRef) × (o ≡ some b) × ColumnBound r b
ColumnIs o None = o ≡ none

abbrev pub FindsColumn : List ℕ → Text → Maybe Column → Type 0
FindsColumn s name r = (v : TableSchema) → Holds table s v → ColumnIs (column_by_name v name) r

-- ---- laws of the lookups

module _ (name : Text) (t : TableSchema) (i : ℕ) (c : ColumnSchema) (cs : List ColumnSchema) where
  pub bound_hit : same name c.name ≡ true → bound_from name t i (c ∷ cs) ≡ some (bound_column t i c)
  unfolding bound_columns_from bound_column
  bound_hit e = find_hit (ref_named name) (bound_column t i c) (bound_columns_from t (suc i) cs) e

  pub bound_miss : same name c.name ≡ false → bound_from name t i (c ∷ cs) ≡ bound_from name t (i + 1) cs
  unfolding bound_columns_from bound_column
  bound_miss e =
      find_miss (ref_named name) (bound_column t i c) (bound_columns_from t (suc i) cs) e ∙ ap (λ (k : ℕ). bound_from name t k cs) (sym (add-one i))

-- a column of the table's list that was found is what the rules bind
pub among_is : (v : TableSchema) (name : Text) (r : Maybe Column) → ColumnAmong name v.columns r → ColumnIs (column_by_name v name) r
unfolding column_by_name bound_columns bound_column
among_is v name (Some r) s =
    let c = s.read in
    (bound_column v s.number s.value, s.bound v, record { id = c.id; ordinal = c.ordinal; ty = c.ty; nullable = c.nullable; name = c.name })
among_is v name None s = s v

-- ---- a loop that counts the columns

-- what the columns that are left decide, by the number of the first of them
pub record BoundLeft (s : List ℕ) (name : Text) (i : ℕ) : Type 0 where
  pub left : (t : TableSchema) → Left (column_schema 2) (λ k cs. bound_from name t k cs) s i

pub bound_left : {s : List ℕ} {name : Text} → BoundLeft s name 0
bound_left = record { left = λ t. left }

module _ {s : List ℕ} {name : Text} {i : ℕ} {p : List ℕ} (w : BoundLeft s name i) (d : IsPart 2 s i p) {r : Bool}
    (says : (v : ColumnSchema) → Holds (column_schema 2) p v → r ≡ same name v.name) where
  -- the column at hand has another name, or is the first of the name
  pub bound_on : r ≡ false → BoundLeft s name (i + 1)
  bound_on e = record {
    left = λ t. record {
      is = λ cs h.
          let v = valued (column_schema 2) d h in
          (w.left t).is cs h ∙ ap (bound_from name t i) v.rest ∙ bound_miss name t i v.value (drop (i + 1) cs) (sym (says v.value v.holds) ∙ e);
    };
  }

  pub bound_found : {c : Column} → r ≡ true → ReadsColumn p i c → Stands s name (Some c)
  bound_found e k cs h =
      let v = valued (column_schema 2) d h in
      record {
        number = i;
        value = v.value;
        read = k v.value v.holds;
        bound = λ t. (w.left t).is cs h ∙ ap (bound_from name t i) v.rest ∙ bound_hit name t i v.value (drop (i + 1) cs) (sym (says v.value v.holds) ∙ e);
      }

-- no column is left
pub bound_end : {s : List ℕ} {name : Text} {i : ℕ} → BoundLeft s name i → length (parts_of 2 s) ≤ i → Stands s name None
unfolding bound_columns_from
bound_end {s} {name} {i} w l cs h t =
    let z : length cs ≤ i = omega (arith, list_count (column_schema 2) s h) in
    (w.left t).is cs h ∙ ap (bound_from name t i) (drop_of_length-le cs {i = i} z)

-- ---- a part of a part

pub part_part : (s : List ℕ) (a m b k : ℕ) → b + k ≤ m → take k (drop b (take m (drop a s))) ≡ take k (drop (a + b) s)
part_part s a m b k h =
    let e : m ≡ b + (m - b) = omega arith in
    ap (λ (n : ℕ). take k (drop b (take n (drop a s)))) e ∙ ap (take k) (drop_take b (m - b) (drop a s))
    ∙ take-take k (m - b) (drop b (drop a s)) (omega arith) ∙ ap (take k) (drop-drop b a s)
