-- Where a value has an image if its bytes are fewer than 2 ^ 32. What follows is in proofs/Fitting.antt.
-- Assumes nothing.
use Rattle.std.specs.Prelude.{ℕ, ◌<◌, length}
use Rattle.bytes_format.specs.Format.{Format}

-- 2 ^ 32
abbrev pub limit : ℕ
limit = 4294967296

-- where Q holds of a value and its bytes are short, it has an image
abbrev pub Fits : {A : Type 0} → Format A → (A → Type 0) → Type 0
Fits {A} f Q = (a : A) → Q a → length (f.write a) < limit → f.Ok a
