-- What a slice's rule says of its elements, as `Bytes`.
-- Assumes nothing.
use mathlib.Core.List.{List}
use Prim.Native.Nat.{ℕ}
use lib.ListN.{get_or}
use mir.Syntax.{w8}
use mir.Val.{Fits}
use Rattle.bytes_wire.specs.Le.{Bytes}

pub known : {s : List ℕ} → ((j : ℕ) → Fits w8 (get_or s j 0)) → Bytes s
known h = record { at = λ j. (h j).fits }
