-- Columns of a table, written: one by its image in the table, one by its name, all of them.
-- Assumes nothing.
use Rattle.std.specs.Prelude.{◌≡◌, refl, Bool, List, [], ◌∷◌, ◌++◌, ℕ, suc, ◌+◌, ◌≤◌, length, drop, Option as Maybe, Some, None}
use Rattle.std.proofs.Common.{sym, ap, ap₂, ◌∙◌, subst, add-one, arith, length-append, drop_of_length-le}
use Rattle.std.proofs.Math.Option.{some, some-injective, none-ne-some}
use Rattle.bytes_format.proofs.Formats.{list_of}
use Rattle.bytes_wire.specs.Sets.{Wrote}
use Rattle.bytes_bundle.specs.Held.{Is, Holds, is_held}
use Rattle.image_bound.specs.Bundles.{bodies}
use Rattle.image_bound.specs.Columns.{bound_column_ref}
use Rattle.image_bound.specs.Made.{column_ref}
use Rattle.image_bound.specs.Spelt.{column_ref_length}
use Rattle.image_bound.specs.Written.{spelt}
use Rattle.catalogue_lookup.specs.declared.Column.{Column}
use Rattle.catalogue_lookup.specs.Finds.{ordinal_of}
use Rattle.image_catalogue.specs.Layout.{table}
use Rattle.bind_table.specs.Short.{ShortText}
use Rattle.rules.specs.declared.ColumnId.{ColumnId}
use Rattle.rules.specs.declared.DataType.{DataType}
use Rattle.rules.specs.declared.TableId.{TableId}
use Rattle.rules.specs.Bound.{BoundColumnRef}
use Rattle.rules.specs.Lookup.{bound_column, bound_columns_from, bound_columns, column_by_name}
use Rattle.rules.specs.Names.{canonical}
use Rattle.rules.specs.Statements.{Name}
use Rattle.rules.specs.Tables.{ColumnSchema, TableSchema}
use Rattle.bind_select.specs.Columns.{Calls, called_found, called_unknown}
use Rattle.image_parts.specs.Layout.{name}
use Rattle.image_value.specs.Parts.{column_schema}
use Rattle.write_expression.specs.Found.{ref_of, ref_is, column_owner}
use Rattle.write_select_columns.specs.Laid.{Room, Laid, Partly, partly_none, partly_room, partly_more, partly_all}

-- ---- what the writers ask for

-- c holds a column, and what is bound of it has room
pub record ColumnRoom (c : List ℕ) (to : ℕ) (o : List ℕ) : Type 0 where
  pub value : ColumnSchema
  pub holds : Holds (column_schema 2) c value
  pub room : to + (26 + length value.name) ≤ length o

-- the name in n stands for a column of the table in t, which has room
pub record NameRoom (t n : List ℕ) (to : ℕ) (o : List ℕ) : Type 0 where
  pub schema : TableSchema
  pub holds : Holds table t schema
  pub value : Name
  pub reads : Holds name n value
  pub short : ShortText n
  pub column : BoundColumnRef
  pub gives : column_by_name schema (canonical value) ≡ some column
  pub room : to + length (bound_column_ref.write column) ≤ length o

-- s holds the columns of the table of this id, and all of them have room
pub record StarRoom (id : TableId) (s : List ℕ) (row to : ℕ) (o : List ℕ) : Type 0 where
  pub schema : TableSchema
  pub own : id ≡ schema.id
  pub holds : Holds (list_of 2 (column_schema 2)) s schema.columns
  pub room : Room bound_column_ref (bound_columns schema) row to o

-- ---- a column by its fields

pub column_read : (v : TableSchema) (x : ColumnSchema) (i : ℕ) {table : TableId} {id : ColumnId} {ty : DataType} {nullable : Bool} {name : List ℕ}
    → table ≡ v.id → id ≡ x.id → ty ≡ x.ty → nullable ≡ x.nullable → name ≡ x.name
    → column_ref table id (ordinal_of i) ty nullable name ≡ bound_column v i x
unfolding bound_column
column_read v x i a b c d e = rw (a, b, c, d, e)

pub column_long : (v : TableSchema) (i : ℕ) (x : ColumnSchema) → length (bound_column_ref.write (bound_column v i x)) ≡ 26 + length x.name
unfolding bound_column
column_long v i x = column_ref_length (bound_column v i x)

-- ---- a column by its name

module _ (t n : List ℕ) {to : ℕ} {o : List ℕ} (w : NameRoom t n to o) where
  pub name_is : Is table t × (Is name n × ShortText n)
  name_is = (is_held {f = table} w.holds, (is_held {f = name} w.reads, w.short))

  module _ {r : Maybe Column} (k : Calls t n r) where
    module _ {c : Column} (q : r ≡ Some c) where
      pub name_room : to + (26 + length c.name.now) ≤ length o
      name_room =
          let f = called_found t n k q w.schema w.value w.holds w.reads in
          let e : f.value ≡ w.column = some-injective f.value w.column (sym f.gives ∙ w.gives) in
          omega (arith, w.room, column_ref_length w.column, ap (λ (b : BoundColumnRef). length b.name) e, ap length f.bound.name)

    pub name_never : r ≡ None → ⊥
    name_never q =
        none-ne-some w.column (sym (called_unknown t n k q w.schema w.value w.holds w.reads) ∙ w.gives)

pub name_wrote : (t n : List ℕ) (v : TableSchema) (x : Name) {r : Maybe Column} {c : Column} {b : BoundColumnRef} {id : TableId} {o o' : List ℕ} {to q : ℕ}
    → Calls t n r → r ≡ Some c → Holds table t v → Holds name n x → column_by_name v (canonical x) ≡ some b → id ≡ v.id
    → Wrote o to (bound_column_ref.write (ref_of c id)) q o'
    → Wrote o to (bound_column_ref.write b) q o'
name_wrote t n v x {b = b} k e hv hx h own p =
    let f = called_found t n k e v x hv hx in
    let z : f.value ≡ b = some-injective f.value b (sym f.gives ∙ h) in
    spelt (ap bound_column_ref.write (ref_is f.bound (own ∙ sym (column_owner v (canonical x) f.gives)) ∙ z)) p

-- room for one column
pub one_room : (b : BoundColumnRef) {row to : ℕ} {o : List ℕ} → Room bound_column_ref (b ∷ []) row to o → (row + 4 ≤ to) × (to + length (bound_column_ref.write b) ≤ length o)
unfolding bodies
one_room b r = (omega (arith, r.entries), omega (arith, r.parts, length-append (bound_column_ref.write b) []))

-- ---- all columns

-- the columns from number i on
abbrev pub columns_from : TableSchema → ℕ → List BoundColumnRef
columns_from v i = bound_columns_from v i (drop i v.columns)

pub columns_all : (v : TableSchema) → bound_columns v ≡ columns_from v 0
unfolding bound_columns
columns_all v = refl

pub columns_turn : (v : TableSchema) (i : ℕ) {x : ColumnSchema} → drop i v.columns ≡ x ∷ drop (i + 1) v.columns
    → columns_from v i ≡ (bound_column v i x ∷ []) ++ columns_from v (i + 1)
unfolding bound_columns_from
columns_turn v i {x} h =
    ap (bound_columns_from v i) h ∙ ap (λ (k : ℕ). bound_column v i x ∷ bound_columns_from v k (drop (i + 1) v.columns)) (sym (add-one i))

pub columns_end : (v : TableSchema) (i : ℕ) → drop i v.columns ≡ [] → columns_from v i ≡ []
unfolding bound_columns_from
columns_end v i h = ap (bound_columns_from v i) h

from_count : (v : TableSchema) (i : ℕ) (cs : List ColumnSchema) → length (bound_columns_from v i cs) ≡ length cs
unfolding bound_columns_from
from_count v i [] = refl
from_count v i (c ∷ cs) = ap suc (from_count v (suc i) cs)

pub columns_count : (v : TableSchema) → length (bound_columns v) ≡ length v.columns
unfolding bound_columns
columns_count v = from_count v 0 v.columns

-- tables of one id with the same columns
from_same : (v w : TableSchema) → v.id ≡ w.id → (i : ℕ) (cs : List ColumnSchema) → bound_columns_from v i cs ≡ bound_columns_from w i cs
unfolding bound_columns_from bound_column
from_same v w e i [] = refl
from_same v w e i (c ∷ cs) = ap₂ (λ (x : BoundColumnRef) (l : List BoundColumnRef). x ∷ l) (rw e) (from_same v w e (suc i) cs)

pub columns_same : (v w : TableSchema) → v.id ≡ w.id → v.columns ≡ w.columns → bound_columns v ≡ bound_columns w
unfolding bound_columns
columns_same v w e h = from_same v w e 0 v.columns ∙ ap (bound_columns_from w 0) h

-- ---- a loop over all columns: those before number i are written

pub record StarPut (v : TableSchema) (i : ℕ) (o : List ℕ) (row to row' to' : ℕ) (o' : List ℕ) : Type 0 where
  pub partly : Partly bound_column_ref (bound_columns v) (columns_from v i) o row to row' to' o'

module _ (v : TableSchema) {o : List ℕ} {row to : ℕ} (r : Room bound_column_ref (bound_columns v) row to o) where
  pub star_none : StarPut v 0 o row to row to o
  star_none = record {
    partly =
        subst (λ (l : List BoundColumnRef). Partly bound_column_ref (bound_columns v) l o row to row to o) (columns_all v) (partly_none (bound_columns v) (omega (arith, r.entries)));
  }

  module _ {i : ℕ} {o₁ : List ℕ} {row₁ to₁ : ℕ} (p : StarPut v i o row to row₁ to₁ o₁) (x : ColumnSchema) (d : drop i v.columns ≡ x ∷ drop (i + 1) v.columns) where
    pub star_room : (row₁ + 4 ≤ to₁) × (to₁ + length (bound_column_ref.write (bound_column v i x)) ≤ length o₁)
    star_room = one_room (bound_column v i x) (partly_room (bound_column v i x ∷ []) (columns_from v (i + 1)) (sym (columns_turn v i d)) r p.partly)

    pub star_more : {o₂ : List ℕ} {row₂ to₂ : ℕ} → Laid bound_column_ref (bound_column v i x ∷ []) o₁ row₁ to₁ row₂ to₂ o₂ → StarPut v (i + 1) o row to row₂ to₂ o₂
    star_more b = record { partly = partly_more (bound_column v i x ∷ []) (columns_from v (i + 1)) (sym (columns_turn v i d)) r p.partly b }

pub star_all : (v : TableSchema) {i : ℕ} {o o₁ : List ℕ} {row to row₁ to₁ : ℕ} → StarPut v i o row to row₁ to₁ o₁ → length v.columns ≤ i
    → Laid bound_column_ref (bound_columns v) o row to row₁ to₁ o₁
star_all v {i} {o} {o₁} {row} {to} {row₁} {to₁} p h =
    partly_all (subst (λ (l : List BoundColumnRef). Partly bound_column_ref (bound_columns v) l o row to row₁ to₁ o₁) (columns_end v i (drop_of_length-le v.columns {i = i} h)) p.partly)
