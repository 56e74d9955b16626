-- What makes a table and a catalogue sound, test by test, as the code makes them.
-- Assumes nothing.
use Rattle.std.specs.Prelude.{◌≡◌, refl, Bool, not, ◌&&◌, List, [], ◌∷◌, ℕ, eqb, length}
use Rattle.std.proofs.Common.{sym, ap, ap₂, ◌∙◌}
use Rattle.std.proofs.Math.Dec.{eqb-suc-zero}
use Rattle.bytes_format.proofs.Formats.{alone, list_of}
use Rattle.bytes_bundle.specs.Bundle.{parts_of}
use Rattle.bytes_bundle.specs.Decides.{Decides}
use Rattle.image_value.specs.Parts.{column_id, column_schema}
use Rattle.rules.specs.declared.ColumnId.{ColumnId}
use Rattle.rules.specs.declared.TableId.{TableId}
use Rattle.rules.specs.Lists.{same, is_empty, all, distinct}
use Rattle.rules.specs.Tables.{ColumnSchema, TableSchema, Catalogue, same_id, is_key_column, sound_table, sound}
use Rattle.catalogue_repeats.specs.declared.By.TheVariants as by
use Rattle.image_catalogue.specs.Layout.{table}
use Rattle.image_catalogue.specs.Entries.{chain_is}
use Rattle.bytes_bundle.specs.Held.{Holds, Is, list_count}
use Rattle.image_catalogue.specs.Values.{id_held, column_held, column_named_lem, column_numbered, table_held, table_named_lem, table_numbered}
use Rattle.catalogue_repeats.specs.Repeats.{alike_by, AllTold, distinct_held, all_told}

-- a column's id is not 0
abbrev pub has_id : ColumnSchema → Bool
has_id c = not (eqb c.id.0 0)

-- a column has this id and is not nullable
abbrev pub key_column : ColumnId → ColumnSchema → Bool
key_column k c = same_id c.id k && not c.nullable

-- P of the columns that a list holds
abbrev pub KeyedBy : List ℕ → (List ColumnSchema → Type 0) → Type 0
KeyedBy s P = (cs : List ColumnSchema) → Holds (list_of 2 (column_schema 2)) s cs → P cs

-- ---- what is distinct

abbrev pub same_column_name : ColumnSchema → ColumnSchema → Bool
same_column_name a b = same a.name b.name

abbrev pub same_column_id : ColumnSchema → ColumnSchema → Bool
same_column_id a b = same_id a.id b.id

abbrev pub same_table_name : TableSchema → TableSchema → Bool
same_table_name a b = same a.name b.name

abbrev pub same_table_id : TableSchema → TableSchema → Bool
same_table_id a b = eqb a.id.0 b.id.0

module _ (s : List ℕ) where
  module _ {cs : List ColumnSchema} (h : Holds (list_of 2 (column_schema 2)) s cs) where
    pub column_names : distinct (alike_by by.Name) (parts_of 2 s) ≡ distinct same_column_name cs
    column_names = distinct_held (column_schema 2) (alike_by by.Name) same_column_name
        (λ p q v w a b. ap₂ same (sym (column_held a).name) (sym (column_held b).name)) s h

    pub column_ids_lem : distinct (alike_by by.Id) (parts_of 2 s) ≡ distinct same_column_id cs
    column_ids_lem = distinct_held (column_schema 2) (alike_by by.Id) same_column_id
        (λ p q v w a b. ap₂ same_id (sym (column_held a).id) (sym (column_held b).id)) s h

  pub key_ids_lem : {ids : List ColumnId} → Holds (list_of 2 (alone column_id)) s ids → distinct (alike_by by.Whole) (parts_of 2 s) ≡ distinct same_id ids
  key_ids_lem h = distinct_held (alone column_id) (alike_by by.Whole) same_id (λ p q v w a b. ap₂ same_id (sym (id_held p a).id) (sym (id_held q b).id)) s h

  module _ {ts : Catalogue} (h : Holds (list_of 2 table) s ts) where
    pub table_names_lem : distinct (alike_by by.Name) (parts_of 2 s) ≡ distinct same_table_name ts
    table_names_lem = distinct_held table (alike_by by.Name) same_table_name
        (λ p q v w a b. ap₂ same (sym (table_held a).name) (sym (table_held b).name)) s h

    pub table_ids : distinct (alike_by by.Id) (parts_of 2 s) ≡ distinct same_table_id ts
    table_ids = distinct_held table (alike_by by.Id) same_table_id
        (λ p q v w a b. ap₂ (λ (x y : TableId). eqb x.0 y.0) (sym (table_held a).id) (sym (table_held b).id)) s h

  pub columns_named : Is (list_of 2 (column_schema 2)) s → AllTold by.Name s
  columns_named = all_told (column_schema 2) by.Name (λ p i. column_named_lem i) s

  pub columns_told : Is (list_of 2 (column_schema 2)) s → AllTold by.Id s
  columns_told = all_told (column_schema 2) by.Id (λ p i. column_numbered i) s

  pub ids_told : Is (list_of 2 (alone column_id)) s → AllTold by.Whole s
  ids_told = all_told (alone column_id) by.Whole (λ p i. i) s

  pub tables_named : Is (list_of 2 table) s → AllTold by.Name s
  tables_named = all_told table by.Name (λ p i. table_named_lem i) s

  pub tables_told : Is (list_of 2 table) s → AllTold by.Id s
  tables_told = all_told table by.Id (λ p i. table_numbered i) s

-- ---- the tests

empty_is : {A : Type 0} (l : List A) → is_empty l ≡ eqb (length l) 0
empty_is [] = refl
empty_is (x ∷ l) = sym (eqb-suc-zero (length l))

-- a key is empty where its list has no parts
pub key_empty : (s : List ℕ) {ids : List ColumnId} → Holds (list_of 2 (alone column_id)) s ids → is_empty ids ≡ eqb (length (parts_of 2 s)) 0
key_empty s {ids} h = empty_is ids ∙ ap (λ (n : ℕ). eqb n 0) (list_count (alone column_id) s h)

abbrev pub sound_table_tests : TableSchema → List Bool
sound_table_tests t =
    distinct same_column_name t.columns ∷ distinct same_column_id t.columns ∷ all has_id t.columns ∷ not (is_empty t.key)
    ∷ distinct same_id t.key ∷ all (is_key_column t.columns) t.key ∷ []

pub sound_table_decided : (t : TableSchema) → Decides (sound_table t) (sound_table_tests t)
unfolding sound_table
sound_table_decided t = record {
  is = chain_is (distinct same_column_name t.columns)
      (distinct same_column_id t.columns ∷ all has_id t.columns ∷ not (is_empty t.key) ∷ distinct same_id t.key ∷ all (is_key_column t.columns) t.key ∷ []);
}

pub sound_decided : (c : Catalogue) → Decides (sound c) (distinct same_table_name c ∷ distinct same_table_id c ∷ all sound_table c ∷ [])
unfolding sound
sound_decided c = record { is = chain_is (distinct same_table_name c) (distinct same_table_id c ∷ all sound_table c ∷ []) }
