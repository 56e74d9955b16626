-- A loop over the bytes of the assignments that measures what they are bound to.
-- Assumes nothing.
use Rattle.std.specs.Prelude.{◌≡◌, Bool, List, [], ℕ, ◌+◌, ◌≤◌, length, Option as Maybe}
use Rattle.std.proofs.Common.{ap, ◌∙◌, arith}
use Rattle.bytes_format.proofs.Formats.{list_of}
use Rattle.bytes_bundle.specs.Bundle.{parts_of}
use Rattle.bytes_bundle.specs.Held.{Holds, held, list_count}
use Rattle.bytes_bundle.specs.Numbered.{IsPart, valued}
use Rattle.image_bound.specs.Layout as layout
use Rattle.image_catalogue.specs.Layout.{table}
use Rattle.image_parts.specs.Layout.{assignment}
use Rattle.bind_repeats.specs.declared.Of.TheVariants as of
use Rattle.bind_repeats.specs.Repeats.{is_at, first_repeated}
use Rattle.bind_repeats.specs.Entries.{FindsRepeat}
use Rattle.std.specs.Prelude.{Result, Ok, Err}
use Rattle.bind_table.specs.Steps.{sized_given, sized_is, sized_off}
use Rattle.bind_table.specs.Told.{sized}
use Rattle.rules.specs.declared.Refusal.{Refusal}
use Rattle.rules.specs.Answers.{refused}
use Rattle.rules.specs.Analyze as analyze
use Rattle.rules.specs.Statements.{Assignment}
use Rattle.rules.specs.Tables.{TableSchema}
use Rattle.bind_update.specs.Assigned.{judge_assignment}
use Rattle.bind_update.proofs.Assigning.{names, Summed, summed_none, summed_on, going_off, going_end}
use Rattle.bind_update.specs.Within.{ShortAssignments}
use Rattle.bind_update.specs.Updated.{Sound}

-- there are few parts
pub few_parts : {s : List ℕ} → ShortAssignments s → length (parts_of 2 s) ≤ 64
few_parts {s} h = held h.is (λ xs k. omega (arith, h.few xs k, list_count assignment s k))

-- the loop has come to assignment i
pub record Measuring (t s : List ℕ) (i sum : ℕ) : Type 0 where
  pub at : (v : TableSchema) (xs : List Assignment) → Holds table t v → Holds (list_of 2 assignment) s xs → Summed v xs i sum

pub measuring_none : {t s : List ℕ} → Measuring t s 0 4
measuring_none = record { at = λ v xs hv hs. summed_none v xs }

-- m is what was measured of the assignment p; b tells whether it is repeated
abbrev pub Judges : List ℕ → List ℕ → Bool → Result ℕ Refusal → Type 0
Judges t p b m = (v : TableSchema) (x : Assignment) → Holds table t v → Holds assignment p x → m ≡ sized layout.assignment (judge_assignment b v x)

module _ {t s : List ℕ} {i sum : ℕ} (o : Sound t) (g : Measuring t s i sum) {place : Maybe ℕ} (f : FindsRepeat of.Targets s place) where
  module _ {p : List ℕ} (d : IsPart 2 s i p) {b : Bool} (r : b ≡ is_at i place) {m : Result ℕ Refusal} (j : Judges t p b m) where
    -- what was measured, at the place that the search for repeats found
    judges : (v : TableSchema) (xs : List Assignment) → Holds table t v → (hs : Holds (list_of 2 assignment) s xs)
        → m ≡ sized layout.assignment (judge_assignment (is_at i (first_repeated (names xs))) v (valued assignment d hs).value)
    judges v xs hv hs =
        let w = valued assignment d hs in
        j v w.value hv w.holds ∙ ap (λ (y : Bool). sized layout.assignment (judge_assignment y v w.value)) (r ∙ ap (is_at i) (f xs hs))

    pub measuring_off : {q : Refusal} → m ≡ Err q → (v : TableSchema) (xs : List Assignment) → Holds table t v → Holds (list_of 2 assignment) s xs
        → analyze.assignments v [] xs ≡ refused q
    measuring_off h v xs hv hs =
        going_off (o.sound v hv) (g.at v xs hv hs).going (valued assignment d hs).rest (sized_off layout.assignment (judges v xs hv hs) h)

    pub measuring_on : {k : ℕ} → m ≡ Ok k → Measuring t s (i + 1) (sum + (4 + k))
    measuring_on h = record {
      at = λ v xs hv hs.
          let w = sized_is layout.assignment (judges v xs hv hs) h in
          summed_on (o.sound v hv) (g.at v xs hv hs) (valued assignment d hs).rest w.gives w.long;
    }

-- no assignment is left
pub measuring_end : {t s : List ℕ} {i sum : ℕ} → Measuring t s i sum → length (parts_of 2 s) ≤ i → (v : TableSchema) (xs : List Assignment)
    → Holds table t v → Holds (list_of 2 assignment) s xs → Ok sum ≡ sized (list_of 4 layout.assignment) (analyze.assignments v [] xs)
measuring_end {s = s} g l v xs hv hs =
    let w = g.at v xs hv hs in
    sized_given (list_of 4 layout.assignment) (going_end w.going (omega (arith, l, list_count assignment s hs))) w.long
