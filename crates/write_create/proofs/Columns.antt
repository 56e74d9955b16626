-- A column and the list of the columns, written.
-- Assumes nothing.
use mathlib.Core.Path.{◌≡◌, refl, sym, ap, ap₂, ◌∙◌}
use mathlib.Core.Bool.{Bool, true, false, not, ◌&&◌, and-false, and-true}
use mathlib.Core.List.{List, [], ◌∷◌, map}
use Prim.Native.Nat.{ℕ, zero, suc, ◌+◌, ◌-◌, ◌*◌, ◌≤◌}
use native.Mathlib.Omega.{arith}
use lib.ListN.{length, drop, length-map}
use Rattle.bytes_format.proofs.Formats.{list_of}
use Rattle.image_value.specs.Parts.{column_schema}
use Rattle.image_bound.specs.Made.{column_of}
use Rattle.image_bound.specs.Bundles.{bodies, list_length}
use Rattle.image_bound.specs.Spelt.{column_length}
use Rattle.image_bound.specs.Beside.{Listed, listed_space, wrote_long}
use Rattle.bytes_wire.specs.Sets.{Wrote}
use Rattle.bytes_bundle.specs.Held.{Holds, held, held_once, is_held}
use Rattle.bytes_bundle.specs.Numbered.{IsPart, valued}
use Rattle.bind_repeats.specs.declared.Of.TheVariants as of
use Rattle.bind_repeats.specs.Entries.{ShortIn, AllShort, short_name}
use Rattle.bind_repeats.specs.Short.{short_entry}
use borrow.Author.Tests.{le-leb, leb-true}
use mathlib.Core.Option.{some}
use Rattle.bind_repeats.specs.Repeats.{drop_map}
use Rattle.bind_table.specs.Tables.{canonical_length}
use Rattle.rules.specs.declared.ColumnId.{ColumnId}
use Rattle.rules.specs.declared.DataType.{DataType}
use Rattle.rules.specs.declared.DataType.TheVariants as data-type
use Rattle.rules.specs.Lists.{Text, any}
use Rattle.rules.specs.Names.{canonical}
use Rattle.rules.specs.Tables.{same_id}
use Rattle.rules.specs.Statements.{Name, plain, ColumnType, known, other_type, ColumnDefinition}
use Rattle.rules.specs.Analyze.{no_options, options, outside_null}
use Rattle.image_parts.specs.Layout.{name, object_name, column_definition, column_type_no}
use Rattle.bind_create.specs.Defined.{stated, typed, may_be_null, schema, schemas, schemas_length, room_for, room_is}
use Rattle.write_create.specs.Parts.{id_at, made_columns, Roomy, RoomyList, PlainName}

-- ---- a type, by its code

pub type_text : (t : ColumnType) → column_type_no t ≡ 1 → data-type.Text ≡ typed t
type_text (known data-type.Int) e = absurd (omega (arith, e))
type_text (known data-type.Text) e = refl
type_text (known data-type.Bool) e = absurd (omega (arith, e))
type_text other_type e = absurd (omega (arith, e))

pub type_bool : (t : ColumnType) → column_type_no t ≡ 2 → data-type.Bool ≡ typed t
type_bool (known data-type.Int) e = absurd (omega (arith, e))
type_bool (known data-type.Text) e = absurd (omega (arith, e))
type_bool (known data-type.Bool) e = refl
type_bool other_type e = absurd (omega (arith, e))

pub type_int : (t : ColumnType) → (column_type_no t ≡ 1 → ⊥) → (column_type_no t ≡ 2 → ⊥) → data-type.Int ≡ typed t
type_int (known data-type.Int) a b = refl
type_int (known data-type.Text) a b = absurd (a refl)
type_int (known data-type.Bool) a b = absurd (b refl)
type_int other_type a b = refl

-- ---- a column

pub in_key_lem : (a : Bool) {b : Bool} → b ≡ true → false ≡ (a && not b)
in_key_lem a e = sym (ap (λ (x : Bool). a && not x) e ∙ and-false a)

pub out_of_key : (a : Bool) {b : Bool} → b ≡ false → a ≡ (a && not b)
out_of_key a e = sym (ap (λ (x : Bool). a && not x) e ∙ and-true a)

pub column_is : (ids : List ColumnId) (i : ℕ) (v : ColumnDefinition) {ty : DataType} {nullable key : Bool} {name : Text} → ty ≡ typed v.ty
    → nullable ≡ (may_be_null (stated (options no_options v.options)) && not key) → key ≡ any (same_id (id_at i)) ids → name ≡ canonical v.name
    → column_of (id_at i) ty nullable name ≡ outside_null ids (schema i v)
unfolding schema
column_is ids i v {ty} {nullable} {key} {name} a b k c =
    ap₂ (λ (t : DataType) (n : Text). column_of (id_at i) t nullable n) a c
    ∙ ap (λ (x : Bool). column_of (id_at i) (typed v.ty) x (canonical v.name))
    (b ∙ ap (λ (x : Bool). may_be_null (stated (options no_options v.options)) && not x) k)

pub column_size : (ids : List ColumnId) (i : ℕ) (v : ColumnDefinition) → length ((column_schema 4).write (outside_null ids (schema i v))) ≡ 22 + length v.name.text
unfolding schema
column_size ids i v = column_length (outside_null ids (schema i v)) ∙ ap (λ (n : ℕ). 22 + n) (canonical_length v.name)

-- ---- the list

drop_schemas : (i j : ℕ) (cs : List ColumnDefinition) → drop i (schemas j cs) ≡ schemas (j + i) (drop i cs)
unfolding schemas
drop_schemas zero j cs = let e : j ≡ j + 0 = omega arith in ap (λ (k : ℕ). schemas k cs) e
drop_schemas (suc i) j [] = refl
drop_schemas (suc i) j (c ∷ cs) = let e : j + 1 + i ≡ j + suc i = omega arith in drop_schemas i (j + 1) cs ∙ ap (λ (k : ℕ). schemas k (drop i cs)) e

module _ (ids : List ColumnId) (cs : List ColumnDefinition) where
  pub made_next : (i : ℕ) {v : ColumnDefinition} {m : List ColumnDefinition} → drop i cs ≡ v ∷ m
      → drop i (made_columns ids cs) ≡ outside_null ids (schema i v) ∷ map (outside_null ids) (schemas (i + 1) m)
  unfolding schemas
  made_next i {v} {m} d = drop_map (outside_null ids) i (schemas 0 cs) ∙ (let z : 0 + i ≡ i = omega arith in ap (map (outside_null ids)) (drop_schemas i 0 cs ∙ ap₂ schemas z d))

  pub made_length : length (made_columns ids cs) ≡ length cs
  made_length = length-map (schemas 0 cs) (outside_null ids) ∙ schemas_length 0 cs

  pub made_room : room_for cs ≡ 4 + 4 * length cs + length (bodies (column_schema 4) (made_columns ids cs))
  made_room = sym (room_is ids 0 cs) ∙ list_length (column_schema 4) (made_columns ids cs) ∙ ap (λ (n : ℕ). 4 + 4 * n + length (bodies (column_schema 4) (made_columns ids cs))) made_length

-- a list is at least as long as its count and the lengths of its parts
pub room_least : (cs : List ColumnDefinition) → 4 + 4 * length cs ≤ room_for cs
room_least cs = omega (arith, made_room [] cs)

-- the columns before number i are written behind the count, from `at` on, which had room for all
pub record ColumnsSoFar (s : List ℕ) (ids : List ColumnId) (at : ℕ) (o : List ℕ) (i lengths to body : ℕ) (o' : List ℕ) : Type 0 where
  pub short : AllShort of.Columns s
  pub room : RoomyList s at (length o)
  pub begun : lengths ≡ at + 4
  pub listed : (cs : List ColumnDefinition) → Holds (list_of 2 column_definition) s cs → Listed (column_schema 4) (made_columns ids cs) i o lengths to body o'

-- what the loop asks for at column i
pub record ColumnRoom (p : List ℕ) (to body : ℕ) (o' : List ℕ) : Type 0 where
  pub column : Roomy p body (length o')
  pub entry : to + 4 ≤ body
  pub inside : body ≤ length o'

module _ {s : List ℕ} {ids : List ColumnId} {at : ℕ} {o : List ℕ} {i lengths to body : ℕ} {o' : List ℕ} (b : ColumnsSoFar s ids at o i lengths to body o')
    {p : List ℕ} (d : IsPart 2 s i p) where
  pub column_room : ColumnRoom p to body o'
  column_room = held b.short.is (λ cs h.
      let t = valued column_definition d h in
      let z = listed_space (b.listed cs h) (made_next ids cs i t.rest) in
      let r = b.room.fits cs h in
      let m = made_room ids cs in
      let n = made_length ids cs in
      let g = b.begun in
      record {
        column = record {
          fits = λ v k. omega (arith, z.part, z.long, r, m, n, g, column_size ids i t.value, ap (λ (x : ColumnDefinition). length x.name.text) (held_once column_definition t.holds k));
        };
        entry = z.entry;
        inside = omega (arith, z.part, z.long, r, m, n, g);
      })

  -- behind the column
  pub column_went : {r : ℕ} {o'' : List ℕ}
      → ((v : ColumnDefinition) → Holds column_definition p v → Wrote o' body ((column_schema 4).write (outside_null ids (schema i v))) r o'')
      → (body ≤ r) × (r - body ≤ 150) × (to + 4 ≤ length o'')
  column_went w = held b.short.is (λ cs h.
      let t = valued column_definition d h in
      let x = w t.value t.holds in
      let q = leb-true (length t.value.name.text) 128 ((short_entry b.short d).short t.value t.holds) in
      let n = column_size ids i t.value in
      let l = wrote_long x in
      (omega (arith, x.end), omega (arith, x.end, n, q), omega (arith, l, column_room.entry, column_room.inside)))

-- ---- a name of one part

pub plain_short : {o p : List ℕ} {at room : ℕ} → PlainName o at room → ((n : Name) → Holds object_name o (plain n) → Holds name p n) → ShortIn name some p
plain_short {o} {p} w g =
    let h = g w.name w.whole in
    record {
      is = is_held {f = name} h;
      short = λ n e. ap (λ (x : Name). short_name (some x)) (held_once name {s = p} e h) ∙ le-leb (length w.name.text) 128 w.short;
    }
