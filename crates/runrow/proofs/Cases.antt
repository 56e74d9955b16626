-- What `runrow` makes of the bytes that it has read, case by case, and what is kept or said of it.
-- Assumes nothing.
use Rattle.std.specs.Prelude.{◌≡◌, ◌||◌, List, ℕ, ◌≤◌, ◌<◌, length, take, drop}
use Rattle.std.proofs.Common.{sym, ap, ap₂, ◌∙◌, arith, length-append, length-take-le}
use Rattle.std.proofs.Math.Path.{subst}
use borrow.Author.Tests.{lt-ltb, le-ltb}
use Rattle.std.proofs.Math.Seq.{take-append_seam}
use Rattle.rules.specs.Heard.{Outcome, refuses, answers}
use Rattle.op_received.specs.Entry.{run_bytes}
use Rattle.op_reply.specs.Leaves.{Reply, Leaves, reply, leaves_as_it_was}
use Rattle.runrow.specs.Ran.{most, is_long, ran_bytes}
use Rattle.runrow.specs.Zero.{Numbered, test_numbered, run_numbered}

-- ---- case by case

module _ (s c r : List ℕ) {old : List ℕ} {k : Reply} where
  pub long_statement : most < length s → k ≡ reply 7 0 → Leaves (ran_bytes s c r) old k old
  unfolding ran_bytes
  long_statement l h = leaves_as_it_was (simp (lt-ltb most (length s) l)) h

  module _ (l : length s ≤ most) where
    pub long_catalogue : most < length c → k ≡ reply 7 0 → Leaves (ran_bytes s c r) old k old
    unfolding ran_bytes
    long_catalogue m h = leaves_as_it_was (simp (le-ltb most (length s) l, lt-ltb most (length c) m)) h

    module _ (m : length c ≤ most) where
      pub long_row : most < length r → k ≡ reply 7 0 → Leaves (ran_bytes s c r) old k old
      unfolding ran_bytes
      long_row n h = leaves_as_it_was (simp (le-ltb most (length s) l, le-ltb most (length c) m, lt-ltb most (length r) n)) h

      pub judged : length r ≤ most → {new : List ℕ} → most ≡ length old → Leaves (run_bytes s c r (length old)) old k new → Leaves (ran_bytes s c r) old k new
      unfolding ran_bytes
      judged n {new} e h =
          subst (λ (o : Outcome (List ℕ)). Leaves o old k new)
          (simp (le-ltb most (length s) l, le-ltb most (length c) m, le-ltb most (length r) n, e)) h

-- ---- what is kept or said of it

ran_numbered : (s c r : List ℕ) → Numbered (ran_bytes s c r)
unfolding ran_bytes
ran_numbered s c r = test_numbered (is_long s || is_long c || is_long r) 7 (run_bytes s c r most) (λ e. omega arith) (run_numbered s c r most)

module _ {old new : List ℕ} {k : Reply} where
  front : (o : Outcome (List ℕ)) → Numbered o → Leaves o old k new → k.refusal ≡ 0 → o ≡ answers (take k.length new)
  front (refuses n) z h e = absurd (z (sym h.hears.number ∙ e))
  front (answers b) z h e =
      sym (ap answers (ap₂ take h.hears.size h.output ∙ take-append_seam b (drop (length b) old)))

  number : (o : Outcome (List ℕ)) → Leaves o old k new → (k.refusal ≡ 0 → ⊥) → o ≡ refuses k.refusal
  number (refuses n) h e = ap refuses (sym h.hears.number)
  number (answers b) h e = absurd (e h.hears.number)

  inside : (o : Outcome (List ℕ)) → Leaves o old k new → k.length ≤ length new
  inside (refuses n) h = omega (arith, h.hears.size)
  inside (answers b) h = omega (arith, h.hears.size, ap length h.output, length-append b (drop (length b) old))

module _ (s c r : List ℕ) {old new : List ℕ} {k : Reply} (h : Leaves (ran_bytes s c r) old k new) where
  pub new_row : k.refusal ≡ 0 → ran_bytes s c r ≡ answers (take k.length new)
  new_row e = front (ran_bytes s c r) (ran_numbered s c r) h e

  pub refusal_said : (k.refusal ≡ 0 → ⊥) → ran_bytes s c r ≡ refuses k.refusal
  refusal_said e = number (ran_bytes s c r) h e

  pub within : k.length ≤ length new
  within = inside (ran_bytes s c r) h

  pub counted : k.length ≡ length (take k.length new)
  counted = sym (length-take-le k.length new within)
