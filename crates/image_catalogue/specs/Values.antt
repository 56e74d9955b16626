-- What the parts of an image say of the value that it holds: where each field of a table and of a column is read.
-- Assumes nothing.
use Rattle.std.specs.Prelude.{◌≡◌, refl, Bool, true, false, cond, List, [], ℕ, zero, suc, ◌+◌, ◌≤◌, ◌<◌, eqb, length, get_or, take, drop}
use Rattle.std.proofs.Common.{sym, ap, ◌∙◌, arith}
use Rattle.std.proofs.Math.Option.{Option, none, some, none-ne-some, some-injective}
use Rattle.std.proofs.Math.ListN.{get_elem?}
use Rattle.bytes_wire.specs.Le.{num}
use Rattle.bytes_utf8.specs.Decide.{is_utf8}
use Rattle.bytes_format.specs.Format.{Fixed}
use Rattle.bytes_format.specs.Ways.{next}
use Rattle.bytes_format.proofs.Formats.{text, alone, bools, list_of}
use Rattle.bytes_bundle.specs.Bundle.{parts_of, IsBundle, IsRecord}
use Rattle.bytes_bundle.specs.Laws.{via_record_value, via_record_there}
use Rattle.bytes_bundle.specs.Fields.{Spot, code_spot, both_spot, both_look, field_value, checked_value}
use Rattle.image_value.specs.Parts.{column_id, column_schema}
use Rattle.rules.specs.declared.TableId.{TableId}
use Rattle.rules.specs.declared.ColumnId.{ColumnId}
use Rattle.rules.specs.declared.DataType.{DataType}
use Rattle.rules.specs.declared.DataType.TheVariants as data-type
use Rattle.rules.specs.Tables.{ColumnSchema, TableSchema, Catalogue, sound}
use Rattle.image_catalogue.specs.Layout.{TableNumbers, table, catalogue}
use Rattle.image_catalogue.specs.Shapes.{data_types, column_id_spot, column_numbers_spot, column_parts, table_numbers_spot, table_parts}
use Rattle.bytes_bundle.specs.Held.{Holds, Is, is_held, held}

-- a text holds itself
text_value : {s v : List ℕ} → Holds text s v → v ≡ s
text_value {s} {v} e = go (is_utf8 s) e
  where
    go : (b : Bool) → cond b (some s) none ≡ some v → v ≡ s
    go true h = sym (some-injective s v h)
    go false h = absurd (none-ne-some v h)

-- two fields, one behind the other
both_value : {A B : Type 0} (o : Option A) (r : Option B) (v : A × B) → next o (λ a. next r (λ b. some (a, b))) ≡ some v → (o ≡ some v.0) × (r ≡ some v.1)
both_value none r v e = absurd (none-ne-some v e)
both_value (some a) none v e = absurd (none-ne-some v e)
both_value {A} {B} (some a) (some b) v e =
    let k = some-injective (a, b) v e in
    (ap (λ (x : A × B). some x.0) k, ap (λ (x : A × B). some x.1) k)

both_looked : {A B : Type 0} {f : Fixed A} {g : Fixed B} (p : Spot f) (q : Spot g) (s : List ℕ) (at : ℕ) (v : A × B)
    → both_look p q at s ≡ some v → (p.look at s ≡ some v.0) × (q.look (at + f.width) s ≡ some v.1)
both_looked {f = f} p q s at v e = both_value (p.look at s) (q.look (at + f.width) s) v e

-- ---- an id

abbrev pub id_of : List ℕ → ColumnId
id_of p = record { 0 = num (take 8 p) }

pub record IdHeld (s : List ℕ) (v : ColumnId) : Type 0 where
  pub wide : length s ≡ 8
  pub id : v ≡ id_of s

pub id_held : (s : List ℕ) {v : ColumnId} → Holds (alone column_id) s v → IdHeld s v
id_held s {v} e =
    let n = field_value column_id_spot s e in
    record { wide = n.0; id = sym (some-injective (id_of s) v n.1) }

pub id_wide : {s : List ℕ} → Is (alone column_id) s → length s ≡ 8
id_wide {s} i = held i (λ v h. (id_held s h).wide)

-- ---- a column

abbrev pub numbers_of : List ℕ → List ℕ
numbers_of s = get_or (parts_of 2 s) 0 []

abbrev pub name_of : List ℕ → List ℕ
name_of s = get_or (parts_of 2 s) 1 []

-- what a type code and a mark say
module _ (n : ℕ) {t : DataType} (e : get_elem? data_types.all n ≡ some t) where
  pub type_int : n ≡ 0 → data-type.Int ≡ t
  type_int z = some-injective data-type.Int t (sym (ap (get_elem? data_types.all) z) ∙ e)

  pub type_text : n ≡ 1 → data-type.Text ≡ t
  type_text z = some-injective data-type.Text t (sym (ap (get_elem? data_types.all) z) ∙ e)

pub type_bool : (n : ℕ) {t : DataType} → get_elem? data_types.all n ≡ some t → (n ≡ 0 → ⊥) → (n ≡ 1 → ⊥) → data-type.Bool ≡ t
type_bool zero e a b = absurd (a refl)
type_bool (suc zero) e a b = absurd (b refl)
type_bool (suc (suc zero)) {t} e a b = some-injective data-type.Bool t e
type_bool (suc (suc (suc n))) {t} e a b = absurd (none-ne-some t e)

pub mark_is : (n : ℕ) {m : Bool} → get_elem? bools.all n ≡ some m → eqb n 1 ≡ m
mark_is zero {m} e = some-injective false m e
mark_is (suc zero) {m} e = some-injective true m e
mark_is (suc (suc n)) {m} e = absurd (none-ne-some m e)

pub record ColumnHeld (s : List ℕ) (v : ColumnSchema) : Type 0 where
  pub shape : IsRecord 2 2 s
  pub wide : length (numbers_of s) ≡ 10
  pub id : v.id ≡ id_of (numbers_of s)
  pub ty : get_elem? data_types.all (get_or (numbers_of s) 8 0) ≡ some v.ty
  pub nullable : get_elem? bools.all (get_or (numbers_of s) 9 0) ≡ some v.nullable
  pub name : v.name ≡ name_of s

pub column_held : {s : List ℕ} {v : ColumnSchema} → Holds (column_schema 2) s v → ColumnHeld s v
unfolding column_schema
column_held {s} {v} e =
    let r = via_record_value 2 column_parts s _ e in
    let n = field_value column_numbers_spot (numbers_of s) r.1.0 in
    let a = both_looked column_id_spot (both_spot (code_spot data_types) (code_spot bools)) (numbers_of s) 0 r.0.0 n.1 in
    let b = both_looked (code_spot data_types) (code_spot bools) (numbers_of s) 8 r.0.0.1 a.1 in
    record {
      shape = via_record_there 2 column_parts s _ e;
      wide = n.0;
      id = sym (some-injective (id_of (numbers_of s)) v.id (a.0 ∙ ap (λ (x : ColumnSchema). some x.id) r.2));
      ty = b.0 ∙ ap (λ (x : ColumnSchema). some x.ty) r.2;
      nullable = b.1 ∙ ap (λ (x : ColumnSchema). some x.nullable) r.2;
      name = sym (ap (λ (x : ColumnSchema). x.name) r.2) ∙ text_value r.1.1.0;
    }

-- ---- a table

abbrev pub table_id_of : List ℕ → TableId
table_id_of p = record { 0 = num (take 8 p) }

abbrev pub columns_of : List ℕ → List ℕ
columns_of s = get_or (parts_of 2 s) 2 []

abbrev pub key_of : List ℕ → List ℕ
key_of s = get_or (parts_of 2 s) 3 []

pub record TableHeld (s : List ℕ) (v : TableSchema) : Type 0 where
  pub shape : IsRecord 2 4 s
  pub wide : length (numbers_of s) ≡ 20
  pub id : v.id ≡ table_id_of (numbers_of s)
  pub version : v.version ≡ num (take 8 (drop 8 (numbers_of s)))
  pub name : v.name ≡ name_of s
  pub columns : Holds (list_of 2 (column_schema 2)) (columns_of s) v.columns
  pub key : Holds (list_of 2 (alone column_id)) (key_of s) v.key

pub table_held : {s : List ℕ} {v : TableSchema} → Holds table s v → TableHeld s v
unfolding table
table_held {s} {v} e =
    let r = via_record_value 2 table_parts s _ e in
    let n = field_value table_numbers_spot (numbers_of s) r.1.0 in
    let k = some-injective _ _ n.1 in
    record {
      shape = via_record_there 2 table_parts s _ e;
      wide = n.0;
      id = sym (ap (λ (x : TableSchema). x.id) r.2) ∙ sym (ap (λ (x : TableNumbers). x.0) k);
      version = sym (ap (λ (x : TableSchema). x.version) r.2) ∙ sym (ap (λ (x : TableNumbers). x.1.0) k);
      name = sym (ap (λ (x : TableSchema). x.name) r.2) ∙ text_value r.1.1.0;
      columns = r.1.1.1.0 ∙ ap (λ (x : TableSchema). some x.columns) r.2;
      key = r.1.1.1.1.0 ∙ ap (λ (x : TableSchema). some x.key) r.2;
    }

-- ---- what the code wants of the shape

pub record TableShape (s : List ℕ) : Type 0 where
  pub shape : IsRecord 2 4 s
  pub wide : length (numbers_of s) ≡ 20
  pub columns : Is (list_of 2 (column_schema 2)) (columns_of s)
  pub key : Is (list_of 2 (alone column_id)) (key_of s)

pub table_shape : {s : List ℕ} → Is table s → TableShape s
table_shape {s} i = held i (λ v e.
    let h = table_held e in
    record { shape = h.shape; wide = h.wide; columns = is_held h.columns; key = is_held h.key })

pub record ColumnShape (s : List ℕ) : Type 0 where
  pub shape : IsRecord 2 2 s
  pub wide : length (numbers_of s) ≡ 10

pub column_shape : {s : List ℕ} → Is (column_schema 2) s → ColumnShape s
column_shape {s} i = held i (λ v e. let h = column_held e in record { shape = h.shape; wide = h.wide })

-- ---- an entry of a list, a table or a column: what both have at the same place

abbrev pub id_number : List ℕ → ℕ
id_number s = num (take 8 (numbers_of s))

pub record HasName (s : List ℕ) : Type 0 where
  pub bundle : IsBundle 2 s
  pub few : 1 < length (parts_of 2 s)

pub record HasNumbers (s : List ℕ) : Type 0 where
  pub bundle : IsBundle 2 s
  pub few : 0 < length (parts_of 2 s)
  pub wide : 8 ≤ length (numbers_of s)

pub column_named_lem : {s : List ℕ} → Is (column_schema 2) s → HasName s
column_named_lem i = let r = column_shape i in record { bundle = r.shape.bundle; few = omega (arith, r.shape.count) }

pub column_numbered : {s : List ℕ} → Is (column_schema 2) s → HasNumbers s
column_numbered i = let r = column_shape i in record { bundle = r.shape.bundle; few = omega (arith, r.shape.count); wide = omega (arith, r.wide) }

pub table_named_lem : {s : List ℕ} → Is table s → HasName s
table_named_lem i = let r = table_shape i in record { bundle = r.shape.bundle; few = omega (arith, r.shape.count) }

pub table_numbered : {s : List ℕ} → Is table s → HasNumbers s
table_numbered i = let r = table_shape i in record { bundle = r.shape.bundle; few = omega (arith, r.shape.count); wide = omega (arith, r.wide) }

-- ---- a catalogue

-- a catalogue is a list of tables
pub catalogue_tables : (s : List ℕ) {v : Catalogue} → Holds catalogue s v → Holds (list_of 2 table) s v
unfolding catalogue
catalogue_tables s h = (checked_value (list_of 2 table) sound s h).0

pub catalogue_list : {s : List ℕ} → Is catalogue s → Is (list_of 2 table) s
catalogue_list {s} i = held i (λ v h. is_held {f = list_of 2 table} (catalogue_tables s h))
