-- The contents of a bundle, the lengths of its parts, and the parts of those lengths, cut one behind the other.
-- Assumes nothing: these are definitions.
use Rattle.std.specs.Prelude.{Bool, ◌&&◌, List, [], ◌∷◌, ℕ, zero, suc, ◌-◌, take, drop, leb, eqb}
use Rattle.bytes_wire.specs.Le.{num}

-- n numbers of w bytes each
abbrev pub lengths : ℕ → ℕ → List ℕ → List ℕ
lengths w zero s = []
lengths w (suc n) s = num (take w s) ∷ lengths w n (drop w s)

-- pieces of the lengths ns are m bytes in all
abbrev pub fills : List ℕ → ℕ → Bool
fills [] m = eqb m 0
fills (n ∷ ns) m = leb n m && fills ns (m - n)

abbrev pub cuts : List ℕ → List ℕ → List (List ℕ)
cuts [] s = []
cuts (n ∷ ns) s = take n s ∷ cuts ns (drop n s)
