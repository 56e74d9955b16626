-- A bundle (docs/IMAGES.md, "What all four share"): how many parts, the length of each, the parts. Counts have w bytes.
-- Assumes nothing: these are definitions.
use Rattle.std.specs.Prelude.{◌≡◌, Bool, true, false, ◌&&◌, List, [], ℕ, ◌+◌, ◌-◌, ◌≤◌, length, take, drop, get_or, eqb}
use Rattle.std.proofs.Math.Option.{Option, none, some}
use Rattle.bytes_format.specs.Ways.{joined}
use Rattle.bytes_format.proofs.Formats.{pieces}

-- a value was read
abbrev pub is_there : {A : Type 0} → Option A → Bool
is_there none = false
is_there (some a) = true

abbrev pub or_nil : {A : Type 0} → Option (List A) → List A
or_nil none = []
or_nil (some l) = l

-- the parts of a bundle; none where the bytes are no bundle
unfoldable pub parts_of : ℕ → List ℕ → List (List ℕ)
parts_of w s = or_nil ((pieces w).read s)

pub record IsBundle (w : ℕ) (s : List ℕ) : Type 0 where
  pub there : is_there ((pieces w).read s) ≡ true

-- a bundle of n parts: what a record of n parts is
unfoldable pub is_record : ℕ → ℕ → List ℕ → Bool
is_record w n s = is_there ((pieces w).read s) && eqb (length (parts_of w s)) n

pub record IsRecord (w n : ℕ) (s : List ℕ) : Type 0 where
  pub bundle : IsBundle w s
  pub count : length (parts_of w s) ≡ n

-- part i begins at byte `at`. Behind the last part, i is the number of parts and `at` the number of bytes.
pub record PartAt (w : ℕ) (s : List ℕ) (i at : ℕ) : Type 0 where
  pub within : at ≤ length s
  pub few : i ≤ length (parts_of w s)
  pub rest : joined (drop i (parts_of w s)) ≡ drop at s

-- part i lies from `at` to r, and the next one begins at r
pub record Stepped (w : ℕ) (s : List ℕ) (i at r : ℕ) : Type 0 where
  pub next : PartAt w s (i + 1) r
  pub forth : at ≤ r
  pub within : r ≤ length s
  pub is : take (r - at) (drop at s) ≡ get_or (parts_of w s) i []
