-- What an UPDATE over its table answers, of the bytes of a row, case by case, as the code finds out: 10, 11, 9, then the bytes.
-- Assumes nothing.
use Rattle.std.specs.Prelude.{◌≡◌, Bool, true, false, cond, List, ℕ, ◌≤◌, ◌<◌, leb, length}
use Rattle.std.proofs.Math.Path.{ap}
use Rattle.std.proofs.Common.{◌∙◌, le-leb}
use Rattle.std.proofs.Math.Option.{Option}
use Rattle.std.proofs.lemmas.Bool.{lt-leb}
use Rattle.bytes_bundle.specs.Held.{Holds}
use Rattle.image_row.specs.Layout as row-layout
use Rattle.image_row.specs.Layout.{row}
use Rattle.image_row.specs.Obeyed.{obeyed, refused_ten}
use Rattle.rules.specs.Rows.{Row, row_obeys}
use Rattle.rules.specs.Evaluate.{Worked, worked, update_row}
use Rattle.rules.specs.Heard.{Outcome, refuses, answers, next, fitted, Running, obeying, worked_out, ran_on}
use Rattle.op_received.specs.Entry.{row_size}

-- an outcome, with the image of its row
abbrev pub row_bytes : Outcome Row → Outcome (List ℕ)
row_bytes o = next o (λ new. answers (row-layout.encode new))

-- what an UPDATE answers over its table, of the bytes of a row
unfoldable pub update_bytes : Running → List ℕ → ℕ → Outcome (List ℕ)
update_bytes u r room = row_bytes (fitted row_size room (ran_on (row-layout.decode r) u))

module _ (u : Running) (r : List ℕ) (room : ℕ) where
  abbrev from_obeying : Outcome Row → Outcome (List ℕ)
  from_obeying o = row_bytes (fitted row_size room (next o (λ old. worked_out (update_row u.table u.condition u.assignments old))))

  abbrev from_worked : Worked Row → Outcome (List ℕ)
  from_worked w = row_bytes (fitted row_size room (worked_out w))

  -- 10
  pub update_no_row : obeyed u.table (row.read r) ≡ false → update_bytes u r room ≡ refuses 10
  unfolding update_bytes row-layout.decode
  update_no_row e = ap from_obeying (refused_ten u.table (row.read r) e)

  module _ {x : Row} (h : Holds row r x) (o : row_obeys u.table x ≡ true) where
    update_on : update_bytes u r room ≡ from_worked (update_row u.table u.condition u.assignments x)
    unfolding update_bytes row-layout.decode
    update_on = ap (λ (m : Option Row). from_obeying (obeying u.table m)) h ∙ ap (λ (b : Bool). from_obeying (cond b (answers x) (refuses 10))) o

    -- 11: a fault, and what has no rule
    pub update_fault : worked_out (update_row u.table u.condition u.assignments x) ≡ refuses 11 → update_bytes u r room ≡ refuses 11
    update_fault e = update_on ∙ ap (λ (w : Outcome Row). row_bytes (fitted row_size room w)) e

    module _ {new : Row} (e : update_row u.table u.condition u.assignments x ≡ worked new) where
      update_worked : update_bytes u r room ≡ row_bytes (cond (leb (length (row.write new)) room) (answers new) (refuses 9))
      unfolding row-layout.encode
      update_worked = update_on ∙ ap from_worked e

      -- 9
      pub update_no_room : room < length (row.write new) → update_bytes u r room ≡ refuses 9
      update_no_room l = update_worked ∙ ap (λ (t : Bool). row_bytes (cond t (answers new) (refuses 9))) (lt-leb (length (row.write new)) room l)

      -- the bytes
      pub update_bytes_lem : length (row.write new) ≤ room → update_bytes u r room ≡ answers (row.write new)
      unfolding row-layout.encode
      update_bytes_lem l = update_worked ∙ ap (λ (t : Bool). row_bytes (cond t (answers new) (refuses 9))) (le-leb (length (row.write new)) room l)
