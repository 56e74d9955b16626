-- Each part of the image as the writes that make it, one behind the other, and its length.
-- Assumes nothing.
use Rattle.std.specs.Prelude.{◌≡◌, refl, Bool, List, [], ◌∷◌, ◌++◌, ℕ, zero, suc, ◌+◌, ◌-◌, ◌*◌, ◌≤◌, ◌<◌, length, get_or, take, drop, ℤ}
use Rattle.std.proofs.Common.{sym, ap, ◌∙◌, arith, length-take-le, get_or-take, of_z}
use Rattle.std.specs.Int.{w64}
use Rattle.bytes_wire.specs.Le.{le}
use Rattle.bytes_format.specs.Format.{Format}
use Rattle.bytes_format.proofs.Formats.{mark, alone, list_of}
use Rattle.bytes_format.proofs.Formats as layout
use Rattle.image_value.specs.Parts.{column_id, data_type, value, column_numbers, column_schema}
use Rattle.rules.specs.declared.ColumnId.{ColumnId}
use Rattle.rules.specs.Tables.{ColumnSchema}
use Rattle.rules.specs.Bound.{Value.int, Value.text, Value.bool, Value.null, BoundTableRef, BoundColumnRef}
use Rattle.image_bound.specs.Columns.{bound_table_ref, bound_column_ref}
use Rattle.image_bound.specs.Bundles.{lengths, bodies, bodies_next, list_length, record2, head2, record2_bytes}

-- ---- tables and columns

pub table_ref_spelt : (t : BoundTableRef) → (le 8 t.table_id.0 ++ le 8 t.version) ++ t.name ≡ bound_table_ref.write t
unfolding bound_table_ref
table_ref_spelt t = refl

pub column_ref_spelt : (r : BoundColumnRef)
    → (le 8 r.table_id.0 ++ (column_id.form.write r.column_id ++ (le 8 r.ordinal.0 ++ (data_type.form.write r.ty ++ mark.form.write r.nullable)))) ++ r.name
    ≡ bound_column_ref.write r
unfolding bound_column_ref
column_ref_spelt r = refl

pub column_spelt : (c : ColumnSchema)
    → le 4 2 ++ ((le 4 10 ++ le 4 (length c.name)) ++ ((column_id.form.write c.id ++ (data_type.form.write c.ty ++ mark.form.write c.nullable)) ++ c.name))
    ≡ (column_schema 4).write c
unfolding column_schema record2 head2
column_spelt c = sym (record2_bytes (alone column_numbers) layout.text (c.id, (c.ty, c.nullable)) c.name)

pub table_ref_length : (t : BoundTableRef) → length (bound_table_ref.write t) ≡ 16 + length t.name
unfolding bound_table_ref
table_ref_length t = omega arith

pub column_ref_length : (r : BoundColumnRef) → length (bound_column_ref.write r) ≡ 26 + length r.name
unfolding bound_column_ref
column_ref_length r = omega arith

pub column_length : (c : ColumnSchema) → length ((column_schema 4).write c) ≡ 22 + length c.name
column_length c = ap length (sym (column_spelt c)) ∙ omega arith

-- ---- values

pub int_spelt : (z : ℤ) → (0 ∷ []) ++ le 8 (of_z w64 z) ≡ value.write (int z)
unfolding value
int_spelt z = refl

pub text_spelt : (s : List ℕ) → (1 ∷ []) ++ s ≡ value.write (text s)
unfolding value
text_spelt s = refl

pub bool_spelt : (b : Bool) → (2 ∷ []) ++ mark.form.write b ≡ value.write (bool b)
unfolding value
bool_spelt b = refl

pub null_spelt : 3 ∷ [] ≡ value.write null
unfolding value
null_spelt = refl

pub int_length : (z : ℤ) → length (value.write (int z)) ≡ 9
unfolding value
int_length z = refl

pub text_length : (s : List ℕ) → length (value.write (text s)) ≡ 1 + length s
unfolding value
text_length s = omega arith

pub bool_length : (b : Bool) → length (value.write (bool b)) ≡ 2
unfolding value
bool_length b = refl

pub null_length : length (value.write null) ≡ 1
unfolding value
null_length = refl

-- ---- the ids of a key

abbrev ids : Format ColumnId
ids = alone column_id

-- the lengths of n ids: each has 8 bytes
unfoldable pub id_lengths : ℕ → List ℕ
id_lengths zero = []
id_lengths (suc n) = le 4 8 ++ id_lengths n

pub id_lengths_length : (n : ℕ) → length (id_lengths n) ≡ 4 * n
unfolding id_lengths
id_lengths_length zero = refl
id_lengths_length (suc n) = omega (arith, id_lengths_length n)

pub ids_lengths : (l : List ColumnId) → id_lengths (length l) ≡ lengths ids l
unfolding id_lengths lengths
ids_lengths [] = refl
ids_lengths (i ∷ l) = ap (λ (m : List ℕ). le 4 8 ++ m) (ids_lengths l)

pub ids_bodies : (l : List ColumnId) → length (bodies ids l) ≡ 8 * length l
unfolding bodies
ids_bodies [] = refl
ids_bodies (i ∷ l) = omega (arith, ids_bodies l)

pub ids_length : (l : List ColumnId) → length ((list_of 4 ids).write l) ≡ 4 + 12 * length l
ids_length l = list_length ids l ∙ omega (arith, ids_bodies l)

-- the next id of a loop
pub id_lengths_next : (n i : ℕ) → i < n → id_lengths (n - i) ≡ le 4 8 ++ id_lengths (n - (i + 1))
unfolding id_lengths
id_lengths_next n i h = let e : n - i ≡ suc (n - (i + 1)) = omega arith in ap id_lengths e

pub ids_bodies_next : (l : List ColumnId) (n i : ℕ) (z : ColumnId) → i < n → n ≤ length l
    → bodies ids (drop i (take n l)) ≡ column_id.form.write (get_or l i z) ++ bodies ids (drop (i + 1) (take n l))
ids_bodies_next l n i z h g =
    let k : i < length (take n l) = omega (arith, length-take-le n l g) in
    bodies_next ids (take n l) i z k ∙ ap (λ (x : ColumnId). column_id.form.write x ++ bodies ids (drop (i + 1) (take n l))) (get_or-take n l i z h)
