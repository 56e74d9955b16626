-- What `bindcheck` prints, of the bytes that it has read: the outcome as `bind` answers it with room for 65,536 bytes, and 7 where an input is longer,
-- which is not judged.
-- Assumes nothing.
use Rattle.std.specs.Prelude.{◌≡◌, Bool, ◌||◌, List, ℕ, ◌≤◌, ◌<◌, ltb, length}
use Rattle.std.proofs.Common.{ap}
use Rattle.std.proofs.Math.Bool.{cond}
use borrow.Author.Tests.{lt-ltb, le-ltb}
use Rattle.rules.specs.Heard.{Outcome, refuses}
use Rattle.op_received.specs.Entry.{bind_bytes}
use Rattle.op_reply.specs.Leaves.{Reply, Hears, Leaves, reply, hears_refusal, hears_same}

abbrev pub most : ℕ
most = 65536

abbrev pub is_long : List ℕ → Bool
is_long s = ltb most (length s)

unfoldable pub check_bytes : List ℕ → List ℕ → Outcome (List ℕ)
check_bytes s c = cond (is_long s || is_long c) (refuses 7) (bind_bytes s c most)

-- ---- case by case

module _ (s c : List ℕ) {r : Reply} where
  pub long_statement : most < length s → r ≡ reply 7 0 → Hears (check_bytes s c) r
  unfolding check_bytes
  long_statement l h = hears_refusal (ap (λ (t : Bool). cond (t || is_long c) (refuses 7) (bind_bytes s c most)) (lt-ltb most (length s) l)) h

  module _ (l : length s ≤ most) where
    pub long_catalogue : most < length c → r ≡ reply 7 0 → Hears (check_bytes s c) r
    unfolding check_bytes
    long_catalogue m h = hears_refusal (simp (le-ltb most (length s) l, lt-ltb most (length c) m)) h

    pub judged : length c ≤ most → {old new : List ℕ} → most ≡ length old → Leaves (bind_bytes s c (length old)) old r new → Hears (check_bytes s c) r
    unfolding check_bytes
    judged m {old} e h = hears_same (simp (le-ltb most (length s) l, le-ltb most (length c) m, e)) h.hears
