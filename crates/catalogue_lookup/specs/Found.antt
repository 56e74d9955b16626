-- `find` of an iterator over a list, by the values that its parts hold.
-- Assumes nothing.
use Rattle.std.specs.Prelude.{◌≡◌, Bool, true, false, List, [], ◌∷◌, ℕ, Option as Maybe, Some, None, IfSome}
use Rattle.std.specs.Fn.{CalledAt, TakesAt}
use Rattle.std.specs.List.{FoldsTo}
use Rattle.std.specs.Iterator.{YieldsFirstRef, Yields, YieldsThen, CallableAtEachTurn}
use Rattle.std.proofs.Common.{sym, ap, ◌∙◌, subst}
use Rattle.std.proofs.Math.Option.{Option, none, some}
use denote.Param.Members.{Mut}
use denote.Ref.{Bor}
use Rattle.bytes_format.specs.Format.{Format}
use Rattle.bytes_format.proofs.Formats.{list_of}
use Rattle.bytes_bundle.specs.declared.parts_iter.Parts.{Parts}
use Rattle.bytes_bundle.specs.Bundle.{parts_of}
use Rattle.bytes_bundle.specs.Left.{parts_left}
use Rattle.bytes_bundle.specs.Held.{Is, Holds, is_held, held}
use Rattle.bytes_bundle.specs.Ahead.{HoldEach, FirstHeld, hold_first, hold_none, list_holds}
use Rattle.image_catalogue.specs.Entries.{find_hit, find_miss}
use Rattle.rules.specs.Lists.{find}

-- the part that holds the value o, where there is one
abbrev pub PartIs : {A : Type 0} → Format A → Option A → Maybe (Bor (List ℕ)) → Type 0
PartIs {A} f o (Some p) = (v : A) × (o ≡ some v) × Holds f p.now v
PartIs f o None = o ≡ none

module _ {A F : Type 0} (f : Format A) {g : Mut F (Bor (Bor (List ℕ)) × Unit {0}) Bool} {h : F} where
  takes_lem : ((x : Bor (List ℕ)) (b : Bool) (q : F) → CalledAt g h x b q → q ≡ h)
      → (p : Parts) (vs : List A) → HoldEach f (parts_left p) vs → (xs : List (Bor (List ℕ))) (q : Parts) (j : F) (x : Bor (List ℕ)) (u : Parts)
      → Yields (YieldsFirstRef parts_left) p xs q → FoldsTo (λ p x q. CalledAt g p x false q) h xs j → parts_left q ≡ x.now ∷ parts_left u → Is f x.now × (j ≡ h)
  takes_lem keeps p vs e [] q j x u y c m =
      let d : FirstHeld f x.now (parts_left u) vs = hold_first (rw (ap parts_left y ∙ m) at e) in
      (is_held {f = f} d.holds, sym c)
  takes_lem keeps p vs e (a ∷ xs) q j x u y c m =
      let d : FirstHeld f a.now (parts_left y.0) vs = hold_first (rw y.1 at e) in
      takes_lem keeps y.0 d.others d.each xs q j x u y.2 (rw (keeps a false c.0 c.1) at c.2) m

  -- h may be called at each part of a list, where it may be called at bytes of the format
  pub find_callable : (w : ℕ) (s : List ℕ) (p : Parts) → parts_left p ≡ parts_of w s → Is (list_of w f) s
      → ((x : Bor (List ℕ)) (b : Bool) (q : F) → CalledAt g h x b q → q ≡ h) → ((x : Bor (List ℕ)) → Is f x.now → TakesAt g h x)
      → CallableAtEachTurn (YieldsFirstRef parts_left) (λ p x q. CalledAt g p x false q) (λ p x. TakesAt g p x) p h
  find_callable w s p e i keeps a = held i (λ vs b. record {
    at = λ xs q j x u y c m. let d = takes_lem keeps p vs (rw e (list_holds w f s b)) xs q j x u y c m in rw d.1 (a x d.0);
  })

  module _ (t : A → Bool) (says : (x : Bor (List ℕ)) (b : Bool) (q : F) → CalledAt g h x b q → (q ≡ h) × ((v : A) → Holds f x.now v → b ≡ t v)) where
    found_lem : (p : Parts) (vs : List A) → HoldEach f (parts_left p) vs → (u : Parts) (r : Maybe (Bor (List ℕ))) (xs : List (Bor (List ℕ))) (j : F)
        → YieldsThen (YieldsFirstRef parts_left) p xs r u → FoldsTo (λ p x q. CalledAt g p x false q) h xs j
        → IfSome r (λ x. (k : F) × CalledAt g j x true k) → PartIs f (find t vs) r
    found_lem p vs e u None [] j y c m =
        let a : parts_left p ≡ [] = ap parts_left y.1 ∙ y.2.0 in
        ap (find t) (hold_none (rw a at e))
    found_lem p vs e u (Some x) [] j y c m =
        let a : parts_left p ≡ x.now ∷ parts_left u = ap parts_left y.1 ∙ y.2 in
        let d : FirstHeld f x.now (parts_left u) vs = hold_first (rw a at e) in
        let b : CalledAt g h x true m.0 = rw c m.1 in
        (d.value, ap (find t) d.is ∙ find_hit t d.value d.others (sym ((says x true m.0 b).1 d.value d.holds)), d.holds)
    found_lem p vs e u r (x ∷ xs) j y c m =
        let d : FirstHeld f x.now (parts_left y.1.0) vs = hold_first (rw y.1.1 at e) in
        let b = says x false c.0 c.1 in
        subst (λ (o : Option A). PartIs f o r) (sym (ap (find t) d.is ∙ find_miss t d.value d.others (sym (b.1 d.value d.holds))))
        (found_lem y.1.0 d.others d.each u r xs j (y.0, y.1.2, y.2) (rw b.0 at c.2) m)

    -- the first part that passes
    pub list_found : (w : ℕ) (s : List ℕ) (p : Parts) → parts_left p ≡ parts_of w s → (u : Parts) (r : Maybe (Bor (List ℕ)))
        → (xs : List (Bor (List ℕ))) × (j : F) × YieldsThen (YieldsFirstRef parts_left) p xs r u × FoldsTo (λ p x q. CalledAt g p x false q) h xs j × IfSome r (λ x. (k : F) × CalledAt g j x true k)
        → (vs : List A) → Holds (list_of w f) s vs → PartIs f (find t vs) r
    list_found w s p e u r a vs b = found_lem p vs (rw e (list_holds w f s b)) u r a.0 a.1 a.2 a.3 a.4
