-- A loop over the parts of a list by the values that they hold, which knows the parts that are left and no byte's position.
-- Assumes nothing.
use Rattle.std.specs.Prelude.{◌≡◌, refl, List, [], ◌∷◌, ℕ}
use Rattle.std.proofs.Common.{sym, ap, ◌∙◌}
use Rattle.std.proofs.Math.Option.{some, some-injective}
use Rattle.bytes_format.specs.Format.{Format}
use Rattle.bytes_format.specs.Ways.{next, each_join}
use Rattle.bytes_format.proofs.Laws.{next_some}
use Rattle.bytes_format.proofs.Formats.{list_of, each}
use Rattle.bytes_bundle.specs.Bundle.{parts_of}
use Rattle.bytes_bundle.specs.Laws.{bundle_value}
use Rattle.bytes_bundle.specs.Held.{Is, Holds, is_held, held}

-- the parts hold these values, one each
pub record HoldEach {A : Type 0} (f : Format A) (ps : List (List ℕ)) (vs : List A) : Type 0 where
  pub are : each_join f ps ≡ some vs

-- the first of some values, and the others
pub record FirstHeld {A : Type 0} (f : Format A) (p : List ℕ) (ps : List (List ℕ)) (vs : List A) : Type 0 where
  pub value : A
  pub others : List A
  pub holds : Holds f p value
  pub each : HoldEach f ps others
  pub is : vs ≡ value ∷ others

module _ {A : Type 0} {f : Format A} {vs : List A} where
  pub hold_first : {p : List ℕ} {ps : List (List ℕ)} → HoldEach f (p ∷ ps) vs → FirstHeld f p ps vs
  hold_first {p} {ps} h =
      next_some (f.read p) (λ a. next (each_join f ps) (λ m. some (a ∷ m))) h.are
      (λ a e₁ k. next_some (each_join f ps) (λ m. some (a ∷ m)) k
      (λ m e₂ z. record { value = a; others = m; holds = e₁; each = record { are = e₂ }; is = sym (some-injective (a ∷ m) vs z) }))

  pub hold_none : HoldEach f [] vs → vs ≡ []
  hold_none h = sym (some-injective [] vs h.are)

pub list_holds : {A : Type 0} (w : ℕ) (f : Format A) (s : List ℕ) {vs : List A} → Holds (list_of w f) s vs → HoldEach f (parts_of w s) vs
list_holds w f s h = record { are = bundle_value w (each f) s h }

-- what a loop over the list in s has still to find, where the parts ps are left: X of all its values is F of those that ps hold
pub record AheadBy {A B : Type 0} (w : ℕ) (f : Format A) (s : List ℕ) (X : List A → B) (ps : List (List ℕ)) (F : List A → B) : Type 0 where
  pub is : (vs : List A) → Holds (list_of w f) s vs → (us : List A) × HoldEach f ps us × (X vs ≡ F us)

-- counts of 2 bytes, as the statement and the catalogue have
abbrev pub Ahead : {A B : Type 0} → Format A → List ℕ → (List A → B) → List (List ℕ) → (List A → B) → Type 0
Ahead = AheadBy 2

-- before the first turn; `ahead_from` where F is not X as it stands
pub ahead_from : {A B : Type 0} {w : ℕ} {f : Format A} {s : List ℕ} {X F : List A → B} {ps : List (List ℕ)} → ps ≡ parts_of w s → ((vs : List A) → X vs ≡ F vs) → AheadBy w f s X ps F
ahead_from {w = w} {f = f} {s = s} e g = record { is = λ vs h. let k = list_holds w f s h in (vs, rw e k, g vs) }

pub ahead : {A B : Type 0} {w : ℕ} {f : Format A} {s : List ℕ} {X : List A → B} {ps : List (List ℕ)} → ps ≡ parts_of w s → AheadBy w f s X ps X
ahead e = ahead_from e (λ vs. refl)

module _ {A B : Type 0} {w : ℕ} {f : Format A} {s : List ℕ} {X F : List A → B} {ps : List (List ℕ)} (k : AheadBy w f s X ps F) where
  module _ {p : List ℕ} {qs : List (List ℕ)} (e : ps ≡ p ∷ qs) where
    -- the part at hand is of the format
    pub ahead_part : Is (list_of w f) s → Is f p
    ahead_part i = held i (λ vs h. let r = k.is vs h in is_held {f = f} (hold_first (rw e at r.1)).holds)

    -- a value that is passed, and one that decides
    pub ahead_on : {G : List A → B} → ((v : A) (l : List A) → Holds f p v → F (v ∷ l) ≡ G l) → AheadBy w f s X qs G
    ahead_on {G = G} g = record {
      is = λ vs h.
          let r = k.is vs h in
          let m : FirstHeld f p qs r.0 = hold_first (rw e at r.1) in
          (m.others, m.each, r.2 ∙ ap F m.is ∙ g m.value m.others m.holds);
    }

    pub ahead_stop : {x : B} → ((v : A) (l : List A) → Holds f p v → F (v ∷ l) ≡ x) → (vs : List A) → Holds (list_of w f) s vs → X vs ≡ x
    ahead_stop g vs h =
        let r = k.is vs h in
        let m : FirstHeld f p qs r.0 = hold_first (rw e at r.1) in
        r.2 ∙ ap F m.is ∙ g m.value m.others m.holds

  -- no part is left
  pub ahead_end : ps ≡ [] → (vs : List A) → Holds (list_of w f) s vs → X vs ≡ F []
  ahead_end e vs h =
      let r = k.is vs h in
      r.2 ∙ ap F (hold_none (rw e at r.1))
