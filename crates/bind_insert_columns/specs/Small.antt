-- How long parts can be: no part of an image with counts of 2 bytes has more than 65,535 bytes, and so no sum of lengths wraps.
-- Assumes nothing.
use Rattle.std.specs.Prelude.{◌≡◌, List, [], ◌∷◌, ℕ, zero, suc, ◌<◌, length, get_or}
use Rattle.std.proofs.Common.{sym, ap, subst, arith}
use Rattle.bytes_wire.specs.Le.{Bytes}
use Rattle.bytes_format.specs.Format.{Every}
use Rattle.bytes_format.proofs.Formats.{pieces}
use Rattle.bytes_bundle.specs.Bundle.{or_nil, parts_of, IsBundle}
use Rattle.bytes_bundle.specs.Numbered.{IsPart}
use Rattle.bytes_bundle.specs.Laws.{some_there}
use Rattle.bytes_bundle.specs.Held.{Holds}
use Rattle.image_catalogue.specs.Layout.{table}
use Rattle.rules.specs.Tables.{TableSchema}

-- ---- a bundle's parts

pub record Short (s : List ℕ) : Type 0 where
  pub few : length (parts_of 2 s) < 65536
  pub parts : Every (λ (p : List ℕ). length p < 65536) (parts_of 2 s)

pub parts_short : {s : List ℕ} → Bytes s → IsBundle 2 s → Short s
unfolding parts_of
parts_short {s} b i = some_there ((pieces 2).read s) i.there (λ l e.
    let k = ((pieces 2).back s l b e).1 in
    let q : l ≡ parts_of 2 s = sym (ap or_nil e) in
    record { few = rw q at k.0; parts = rw q at k.1 })

part_at : (l : List (List ℕ)) (k : ℕ) → Every (λ (p : List ℕ). length p < 65536) l → length (get_or l k []) < 65536
part_at [] k h = omega arith
part_at (p ∷ l) zero h = h.0
part_at (p ∷ l) (suc k) h = part_at l k h.1

pub part_small : {s p : List ℕ} {i : ℕ} → Bytes s → IsBundle 2 s → IsPart 2 s i p → length p < 65536
part_small {s} {i = i} b k d = subst (λ (p : List ℕ). length p < 65536) (sym d.is) (part_at (parts_of 2 s) i (parts_short b k).parts)

-- ---- a table's name

pub table_name_small : {t : List ℕ} {v : TableSchema} → Bytes t → Holds table t v → length v.name < 65536
unfolding table
table_name_small {t} {v} b h = (table.back t v b h).1.1.1.0
