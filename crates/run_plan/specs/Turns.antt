-- A loop over the bytes of the assignments that notes where each lands.
-- Assumes nothing.
use Rattle.std.specs.Prelude.{◌≡◌, refl, Bool, true, zero, suc, List, [], ◌∷◌, ℕ, ◌+◌, ◌≤◌, length, drop, set, replicate, Option as Maybe, Some, None}
use Rattle.std.proofs.Common.{sym, ap, ◌∙◌, arith, drop_of_length-le}
use Rattle.std.proofs.Math.Option.{Option, none, some}
use Rattle.bytes_format.proofs.Formats.{list_of}
use Rattle.bytes_format.specs.Ways.{next}
use Rattle.bytes_bundle.specs.Bundle.{parts_of}
use Rattle.bytes_bundle.specs.Decides.{and_of}
use Rattle.bytes_bundle.specs.Held.{Holds, held, held_once, list_count}
use Rattle.bytes_bundle.specs.Numbered.{IsPart, valued, valued_is}
use Rattle.image_catalogue.specs.Layout.{table}
use Rattle.image_row.specs.Layout.{row}
use Rattle.rules.specs.Lists.{all}
use Rattle.rules.specs.Rows.{Row}
use Rattle.rules.specs.Statements.{Assignment}
use Rattle.rules.specs.Tables.{TableSchema}
use Rattle.image_parts.specs.Layout.{assignment}
use Rattle.bind_update.specs.Within.{ShortNames, ShortAssignment, ShortAssignments}
use Rattle.run_plan.specs.Plans.{landing, planned, Plans, plans_on, plans_off}
use Rattle.run_plan.specs.Runs.{Runs, Lands, placed, runs_few, runs_within}

-- the first i assignments are noted
pub record Planning (t s r : List ℕ) (i : ℕ) (from : List (Maybe ℕ)) : Type 0 where
  pub at : (v : TableSchema) (x : Row) (xs : List Assignment) → Holds table t v → Holds row r x → Holds (list_of 2 assignment) s xs
      → planned v x 0 (replicate 64 None) xs ≡ planned v x i from (drop i xs)

pub planning_none : {t s r : List ℕ} {from : List (Maybe ℕ)} → from ≡ replicate 64 None → Planning t s r 0 from
planning_none e = record { at = λ v x xs hv hx hs. ap (λ (f : List (Maybe ℕ)). planned v x 0 f xs) (sym e) }

pub all_here : (f : Assignment → Bool) (j : ℕ) (xs : List Assignment) {a : Assignment} {l : List Assignment} → all f xs ≡ true → drop j xs ≡ a ∷ l → f a ≡ true
all_here f zero [] h e = absurd (omega (arith, ap length e))
all_here f zero (x ∷ xs) {a} h e = let z : x ≡ a = cc in ap f (sym z) ∙ (and_of (f x) (all f xs) h).0
all_here f (suc j) [] h e = absurd (omega (arith, ap length e))
all_here f (suc j) (x ∷ xs) h e = all_here f j xs (and_of (f x) (all f xs) h).1 e

-- the names in a part of the assignments are short
pub part_short : {s : List ℕ} {i : ℕ} {p : List ℕ} → ShortAssignments s → IsPart 2 s i p → ShortAssignment p
part_short {i = i} h d = record {
  is = valued_is assignment d h.is;
  short = λ a k. held h.is (λ xs q.
      let t = valued assignment d q in
      ap ShortNames (held_once assignment k t.holds) ∙ all_here ShortNames i xs (h.short xs q) t.rest);
}

landed : (l : Option ℕ) {o : ℕ} {p : Maybe ℕ} → p ≡ placed l → p ≡ Some o → l ≡ some o
landed none h q = absurd (let z : ◌≡◌ {A = ℕ} 0 1 = cc in omega arith)
landed (some n) h q = cc

lost : (l : Option ℕ) {p : Maybe ℕ} → p ≡ placed l → p ≡ None → l ≡ none
lost none h q = refl
lost (some n) h q = absurd (let z : ◌≡◌ {A = ℕ} 0 1 = cc in omega arith)

planned_on : (v : TableSchema) (x : Row) (i : ℕ) (from : List (Maybe ℕ)) (y : Assignment) (l : List Assignment) {o : ℕ} → landing v x y ≡ some o
    → planned v x i from (y ∷ l) ≡ planned v x (i + 1) (set from o (Some i)) l
unfolding planned
planned_on v x i from y l h = ap (λ (m : Option ℕ). next m (λ o. planned v x (i + 1) (set from o (Some i)) l)) h

planned_off : (v : TableSchema) (x : Row) (i : ℕ) (from : List (Maybe ℕ)) (y : Assignment) (l : List Assignment) → landing v x y ≡ none
    → planned v x i from (y ∷ l) ≡ none
unfolding planned
planned_off v x i from y l h = ap (λ (m : Option ℕ). next m (λ o. planned v x (i + 1) (set from o (Some i)) l)) h

planned_end : (v : TableSchema) (x : Row) (i : ℕ) (from : List (Maybe ℕ)) → planned v x i from [] ≡ some from
unfolding planned
planned_end v x i from = refl

module _ {t s r : List ℕ} {i : ℕ} {from : List (Maybe ℕ)} (g : Planning t s r i from) where
  module _ {p : List ℕ} (d : IsPart 2 s i p) {m : Maybe ℕ} (l : Lands t p r m) where
    pub planning_on : {o : ℕ} → m ≡ Some o → Planning t s r (i + 1) (set from o (Some i))
    planning_on q = record {
      at = λ v x xs hv hx hs.
          let w = valued assignment d hs in
          g.at v x xs hv hx hs ∙ ap (planned v x i from) w.rest
          ∙ planned_on v x i from w.value (drop (i + 1) xs) (landed (landing v x w.value) (l v x w.value hv hx w.holds) q);
    }

    -- one that lands nowhere
    pub planning_off : m ≡ None → (v : TableSchema) (x : Row) (xs : List Assignment) → Holds table t v → Holds row r x → Holds (list_of 2 assignment) s xs → Plans v x xs None
    planning_off q v x xs hv hx hs =
        let w = valued assignment d hs in
        plans_off v x xs 64
        (g.at v x xs hv hx hs ∙ ap (planned v x i from) w.rest
        ∙ planned_off v x i from w.value (drop (i + 1) xs) (lost (landing v x w.value) (l v x w.value hv hx w.holds) q))

  -- no assignment is left
  pub planning_end : Runs t r → length (parts_of 2 s) ≤ i → (v : TableSchema) (x : Row) (xs : List Assignment) → Holds table t v → Holds row r x
      → Holds (list_of 2 assignment) s xs → Plans v x xs (Some from)
  planning_end u h v x xs hv hx hs =
      let z : length xs ≤ i = omega (arith, list_count assignment s hs) in
      plans_on v x xs 64 (runs_within u hv hx) (runs_few u hv hx)
      (g.at v x xs hv hx hs ∙ ap (planned v x i from) (drop_of_length-le xs {i = i} z) ∙ planned_end v x i from)
