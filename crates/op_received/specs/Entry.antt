-- What the public operations answer, for every string of bytes. The images are read by their layouts, judged by the rules, and the answer is
-- written by its layout; `op_reply` has what the output then holds.
-- Assumes nothing: these are definitions.
use Rattle.std.proofs.Math.Option.{Option, map}
use Rattle.std.specs.Prelude.{List, ℕ, length}
use Rattle.rules.specs.Tables.{Catalogue}
use Rattle.rules.specs.Statements.{Statement}
use Rattle.rules.specs.Bound.{BoundStatement}
use Rattle.rules.specs.Rows.{Row}
use Rattle.rules.specs.Heard.{Outcome, answers, Read, next, bind_outcome, run_outcome}
use Rattle.image_parts.specs.Layout as statement
use Rattle.image_catalogue.specs.Layout as catalogue
use Rattle.image_row.specs.Layout as row
use Rattle.image_bound.specs.Layout as bound

-- ---- what was read of some bytes

abbrev pub sized : {A : Type 0} → List ℕ → A → Read A
sized s a = record { value = a; size = length s }

unfoldable pub read_statement : List ℕ → Option (Read Statement)
read_statement s = map (sized s) (statement.decode s)

unfoldable pub read_catalogue : List ℕ → Option (Read Catalogue)
read_catalogue s = map (sized s) (catalogue.decode s)

-- ---- the outcome: a refusal, or the bytes of the answer's image

abbrev pub bound_size : BoundStatement → ℕ
bound_size b = length (bound.encode b)

abbrev pub row_size : Row → ℕ
row_size r = length (row.encode r)

unfoldable pub bind_bytes : List ℕ → List ℕ → ℕ → Outcome (List ℕ)
bind_bytes s c room = next (bind_outcome bound_size room (read_statement s) (read_catalogue c)) (λ b. answers (bound.encode b))

unfoldable pub run_bytes : List ℕ → List ℕ → List ℕ → ℕ → Outcome (List ℕ)
run_bytes s c r room = next (run_outcome row_size room (read_statement s) (read_catalogue c) (row.decode r)) (λ new. answers (row.encode new))
