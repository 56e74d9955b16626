-- Demand 3 of what `bind_bytes` and `run_bytes` answer: the theorem of the rules, at the values that the bytes are the images of.
-- Assumes nothing.
use Rattle.std.specs.Prelude.{◌≡◌, refl, true, ◌⊎◌, ◌↔◌, List, ℕ, length}
use Rattle.std.proofs.Common.{ap, ◌∙◌, inl, inr, ⊎_elim}
use Rattle.std.proofs.Math.Option.{some}
use Rattle.rules.specs.Tables.{TableSchema}
use Rattle.rules.specs.Statements.{Expr, Update}
use Rattle.rules.specs.Obeys.{UpdateObeys}
use Rattle.rules.specs.Rows.{Row, row_obeys}
use Rattle.rules.specs.Evaluate.{worked, fault, update_row}
use Rattle.rules.specs.Heard.{Outcome, refuses, answers, next, ran_statement, bind_outcome, run_outcome}
use Rattle.rules.specs.Demand.{Answers, Room}
use Rattle.rules.proofs.Theorems.Demand.{demand}
use Rattle.rules.proofs.Theorems.Steps.{never_answers}
use Rattle.image_row.specs.Layout as row
use Rattle.image_bound.specs.Layout as bound
use Rattle.op_received.specs.Entry.{bound_size, row_size, bind_bytes, run_bytes}
use Rattle.proved_demands.specs.Demand.{TakenBytes, RoomToBind, RoomToRun}

-- an outcome, with the image of its answer
abbrev wrote : {A : Type 0} → (A → List ℕ) → Outcome A → Outcome (List ℕ)
wrote write o = next o (λ a. answers (write a))

wrote_answers : {A : Type 0} (write : A → List ℕ) (o : Outcome A) → Answers (wrote write o) ↔ Answers o
wrote_answers write (refuses k) = (λ h. absurd (never_answers h.1), λ h. absurd (never_answers h.1))
wrote_answers write (answers a) = (λ h. (a, refl), λ h. (write a, refl))

-- ---- the UPDATE that is taken

module _ {s c : List ℕ} {u : Update} {t : TableSchema} {w : Expr} (h : TakenBytes s c u t w) where
  pub answers_exactly : (o : List ℕ) → RoomToBind s c o → (Answers (bind_bytes s c (length o)) ↔ UpdateObeys t u.assignments w)
  unfolding bind_bytes
  answers_exactly o =
      rw (h.is_statement, h.is_catalogue)
      (λ fits.
      let b = (demand h.statement h.catalogue u t w h.taken).0 bound_size (length o) fits in
      let a = wrote_answers bound.encode (bind_outcome bound_size (length o) (some h.statement) (some h.catalogue)) in
      (λ x. b.0 (a.0 x), λ x. a.1 (b.1 x)))

  -- r is the image of the row old
  module _ (r o : List ℕ) (old : Row) (d : row.decode r ≡ some old) where
    run_is : run_bytes s c r (length o) ≡ wrote row.encode (run_outcome row_size (length o) (some h.statement) (some h.catalogue) (some old))
    unfolding run_bytes
    run_is = rw (h.is_statement, h.is_catalogue, d)

    fits_too : RoomToRun s c r o → Room (ran_statement (some h.statement) (some h.catalogue) (some old)) row_size (length o)
    fits_too f = rw (h.is_statement, h.is_catalogue, d) at f

    abbrev pub Faults : Type 0
    Faults = (run_bytes s c r (length o) ≡ refuses 11) × (update_row t w u.assignments old ≡ fault)

    abbrev pub Comes : Row → Type 0
    Comes new =
        (run_bytes s c r (length o) ≡ answers (row.encode new)) × (update_row t w u.assignments old ≡ worked new) × (row_obeys t new ≡ true)

    -- a fault of the value rules, or the row that they name
    pub faults_or_comes : UpdateObeys t u.assignments w → row_obeys t old ≡ true → RoomToRun s c r o → Faults ⊎ ((new : Row) × Comes new)
    faults_or_comes b y f =
        let q = (demand h.statement h.catalogue u t w h.taken).2 row_size (length o) b old y (fits_too f) in
        ⊎_elim
        (λ x. inl (run_is ∙ ap (wrote row.encode) x, q.faults.0 x))
        (λ x. inr (x.0, (run_is ∙ ap (wrote row.encode) x.1, (q.yields x.0).0 x.1, q.obeys x.0 x.1)))
        q.nothing_else
