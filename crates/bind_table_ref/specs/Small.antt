-- How long parts can be: no part of an image with counts of 2 bytes has more than 65,535 bytes, and so no sum of lengths wraps.
-- Assumes nothing.
use Rattle.std.specs.Prelude.{◌≡◌, List, [], ◌∷◌, ℕ, zero, suc, ◌-◌, ◌<◌, length, take, drop, get_or}
use Rattle.std.proofs.Common.{sym, ap, subst, arith, Fits}
use Rattle.std.specs.Int.{w8}
use Rattle.bytes_wire.specs.Le.{Bytes, take_bytes, drop_bytes}
use Rattle.bytes_format.specs.Format.{Every}
use Rattle.bytes_format.proofs.Formats.{pieces}
use Rattle.bytes_bundle.specs.Bundle.{or_nil, parts_of, IsBundle, Stepped}
use Rattle.bytes_bundle.specs.Laws.{some_there}
use Rattle.bytes_bundle.specs.Held.{Holds}
use Rattle.image_value.specs.Parts.{column_schema}
use Rattle.image_catalogue.specs.Layout.{table}
use Rattle.image_catalogue.specs.Values.{column_held, table_held}
use Rattle.rules.specs.Tables.{ColumnSchema, TableSchema}

-- what is known of a slice's elements
pub known : {s : List ℕ} → ((j : ℕ) → Fits w8 (get_or s j 0)) → Bytes s
known h = record { at = λ j. (h j).fits }

-- the parts of a bundle are few and short
pub record Short (s : List ℕ) : Type 0 where
  pub few : length (parts_of 2 s) < 65536
  pub parts : Every (λ (p : List ℕ). length p < 65536) (parts_of 2 s)

pub parts_short : {s : List ℕ} → Bytes s → IsBundle 2 s → Short s
unfolding parts_of
parts_short {s} b i = some_there ((pieces 2).read s) i.there (λ l e.
    let k = ((pieces 2).back s l b e).1 in
    let q : l ≡ or_nil ((pieces 2).read s) = ap or_nil (sym e) in
    record {
      few = subst (λ (m : List (List ℕ)). length m < 65536) q k.0;
      parts = subst (Every (λ (p : List ℕ). length p < 65536)) q k.1;
    })

part_at : (l : List (List ℕ)) (k : ℕ) → Every (λ (p : List ℕ). length p < 65536) l → length (get_or l k []) < 65536
part_at [] k h = omega arith
part_at (p ∷ l) zero h = h.0
part_at (p ∷ l) (suc k) h = part_at l k h.1

pub part_short : {s : List ℕ} (k : ℕ) → Bytes s → IsBundle 2 s → length (get_or (parts_of 2 s) k []) < 65536
part_short {s} k b i = part_at (parts_of 2 s) k (parts_short b i).parts

-- ---- names

pub table_name_short : {s : List ℕ} {v : TableSchema} → Bytes s → Holds table s v → length v.name < 65536
table_name_short b h = let k = table_held h in omega (arith, ap length k.name, part_short 1 b k.shape.bundle)

pub column_name_short : {s : List ℕ} {v : ColumnSchema} → Bytes s → Holds (column_schema 2) s v → length v.name < 65536
column_name_short b h = let k = column_held h in omega (arith, ap length k.name, part_short 1 b k.shape.bundle)

-- a column of a list
pub listed_name_short : {s : List ℕ} {i at e : ℕ} → Bytes s → Stepped 2 s i at e → {v : ColumnSchema} → Holds (column_schema 2) (take (e - at) (drop at s)) v
    → length v.name < 65536
listed_name_short {at = at} {e = e} b d h = column_name_short (take_bytes (e - at) (drop_bytes at b)) h
