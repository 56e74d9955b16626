-- How long a value of a row is: its length has 4 bytes.
-- Assumes nothing.
use Rattle.std.specs.Prelude.{List, [], ◌∷◌, map, ℕ, zero, suc, ◌^◌, ◌<◌, length, get_or}
use Rattle.std.proofs.Common.{arith}
use Rattle.bytes_wire.specs.Le.{Bytes}
use Rattle.bytes_format.specs.Format.{Every}
use Rattle.bytes_bundle.specs.Held.{Holds}
use Rattle.image_row.specs.Layout.{row}
use Rattle.image_value.specs.Parts.{value}
use Rattle.rules.specs.Bound.{Value}
use Rattle.rules.specs.Rows.{Row}

each_below : (n : ℕ) (x : Row) (i : ℕ) → Every (λ s. length s < n) (map value.write x) → i < length x → length (value.write (get_or x i Value.null)) < n
each_below n [] i h k = absurd (omega arith)
each_below n (v ∷ x) zero h k = h.0
each_below n (v ∷ x) (suc i) h k = each_below n x i h.1 (omega arith)

pub value_below : {r : List ℕ} {x : Row} → Bytes r → Holds row r x → (i : ℕ) → i < length x → length (value.write (get_or x i Value.null)) < 4294967296
unfolding row
value_below {r} {x} b h i k = each_below (256 ^ 4) x i (row.back r x b h).1.1 k
