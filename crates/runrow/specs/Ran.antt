-- What `runrow` makes of the bytes that it has read: the outcome as `run` answers it with room for 65,536 bytes, and 7 where an input is longer,
-- which is not judged.
-- Assumes nothing.
use Rattle.std.specs.Prelude.{Bool, cond, ◌||◌, List, ℕ, ltb, length}
use Rattle.rules.specs.Heard.{Outcome, refuses}
use Rattle.op_received.specs.Entry.{run_bytes}

abbrev pub most : ℕ
most = 65536

abbrev pub is_long : List ℕ → Bool
is_long s = ltb most (length s)

unfoldable pub ran_bytes : List ℕ → List ℕ → List ℕ → Outcome (List ℕ)
ran_bytes s c r = cond (is_long s || is_long c || is_long r) (refuses 7) (run_bytes s c r most)
