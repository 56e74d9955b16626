-- What the analysis asks of a statement's bytes: they hold a statement within the limits.
-- Assumes nothing.
use Rattle.std.specs.Prelude.{◌≡◌, true, List, ℕ, length}
use Rattle.std.proofs.Common.{ap, ◌∙◌}
use Rattle.bytes_bundle.specs.Decides.{and_of}
use Rattle.bytes_bundle.specs.Held.{Is, Holds, is_held, held_once}
use Rattle.rules.specs.Statements.{Statement}
use Rattle.rules.specs.Limits.{at_most, held_by, held_within, statement_within}
use Rattle.image_parts.specs.Layout.{statement}

pub record StatementWithin (s : List ℕ) : Type 0 where
  pub is : Is statement s
  pub within : (v : Statement) → Holds statement s v → statement_within (length s) v ≡ true

pub statement_within_lem : {s : List ℕ} {v : Statement} → Holds statement s v → statement_within (length s) v ≡ true → StatementWithin s
statement_within_lem {s} h e = record {
  is = is_held h;
  within = λ v k. ap (λ (x : Statement). statement_within (length s) x) (held_once statement k h) ∙ e;
}

-- so what it holds is within them
pub held_within_lem : {s : List ℕ} → StatementWithin s → (v : Statement) → Holds statement s v → held_within (held_by v.kind) ≡ true
unfolding statement_within
held_within_lem {s} w v h = (and_of (at_most 65536 (length s)) (held_within (held_by v.kind)) (w.within v h)).1
