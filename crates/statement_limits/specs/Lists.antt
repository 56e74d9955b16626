-- A list with a top size, by a test of its entries.
-- Assumes nothing.
use Rattle.std.specs.Prelude.{◌≡◌, refl, Bool, true, false, ◌&&◌, List, [], ◌∷◌, ℕ, length, Option, Some, None, MatchOption}
use Rattle.std.specs.Fn.{Called, Takes}
use Rattle.std.specs.List.{FoldsTo}
use Rattle.std.specs.Iterator.{YieldsFirstRef, Yields, YieldsThen, CallableAtEachTurn}
use Rattle.std.proofs.Common.{sym, ap, ap₂, ◌∙◌, subst}
use Rattle.std.proofs.Math.Option.{Option as Maybe, none, some}
use denote.Param.Members.{Mut, MutLaws, FnLaws, step_gives, step_stays_lem}
use denote.Ref.{Bor}
use Rattle.bytes_format.specs.Format.{Format, Every}
use Rattle.bytes_format.proofs.Formats.{list_of}
use Rattle.bytes_bundle.specs.declared.parts_iter.Parts.{Parts}
use Rattle.bytes_bundle.specs.Bundle.{parts_of}
use Rattle.bytes_bundle.specs.Left.{parts_left}
use Rattle.bytes_bundle.specs.Chains.{Stops}
use Rattle.bytes_bundle.specs.Held.{Is, Holds, same, is_held, held, list_count}
use Rattle.bytes_bundle.specs.Ahead.{HoldEach, FirstHeld, hold_first, hold_none, list_holds}
use Rattle.rules.specs.Lists.{all}
use Rattle.rules.specs.Limits.{at_most}
use Rattle.statement_limits.specs.Within.{list_within}

module _ {F : Type 0} (g : Mut F (Bor (List ℕ) × Unit {0}) Bool) (h : F) where
  -- h may be called at each of some parts
  pub record TakesEach (ps : List (List ℕ)) : Type 0 where
    pub at : Every (λ p. (x : Bor (List ℕ)) → x.now ≡ p → g.pre h (x, tt)) ps

  -- and answers of each what t says of it
  pub record TellsEach (t : List ℕ → Bool) (ps : List (List ℕ)) : Type 0 where
    pub at : Every (λ p. (x : Bor (List ℕ)) (b : Bool) → x.now ≡ p → g.post h (x, tt) b → b ≡ t p) ps

-- ---- `all` of an iterator over the parts

module _ {F : Type 0} (g : Mut F (Bor (List ℕ) × Unit {0}) Bool) (law : MutLaws g) (stays : FnLaws g) (h : F) where
  takes_lem : (p : Parts) → TakesEach g h (parts_left p) → (xs : List (Bor (List ℕ))) (q : Parts) (j : F) (x : Bor (List ℕ)) (u : Parts)
      → Yields (YieldsFirstRef parts_left) p xs q → FoldsTo (λ p x q. Called g p (x, tt) true q) h xs j → parts_left q ≡ x.now ∷ parts_left u → g.pre j (x, tt)
  takes_lem p e [] q j x u y c m =
      let d : TakesEach g h (x.now ∷ parts_left u) = subst (TakesEach g h) (ap parts_left y ∙ m) e in
      subst (λ (k : F). g.pre k (x, tt)) c (d.at.0 x refl)
  takes_lem p e (a ∷ xs) q j x u y c m =
      let d : TakesEach g h (a.now ∷ parts_left y.0) = subst (TakesEach g h) y.1 e in
      takes_lem y.0 (record { at = d.at.1 }) xs q j x u y.2 (subst (λ (k : F). FoldsTo (λ p x q. Called g p (x, tt) true q) k xs j) (step_stays_lem g h (a, tt) true c.0 stays c.1) c.2) m

  pub each_callable : (p : Parts) (ps : List (List ℕ)) → parts_left p ≡ ps → TakesEach g h ps
      → CallableAtEachTurn (YieldsFirstRef parts_left) (λ p x q. Called g p (x, tt) true q) (λ p x. Takes g p (x, tt)) p h
  each_callable p ps e k = record { at = λ xs q j x u y c m. takes_lem p (subst (TakesEach g h) (sym e) k) xs q j x u y c m }

  module _ (t : List ℕ → Bool) where
    tells_lem : (p : Parts) → TellsEach g h t (parts_left p) → (u : Parts) (r : Bool) (xs : List (Bor (List ℕ))) (o : Option (Bor (List ℕ))) (j : F)
        → YieldsThen (YieldsFirstRef parts_left) p xs o u → FoldsTo (λ p x q. Called g p (x, tt) true q) h xs j
        → MatchOption o (r ≡ true) (λ x. (r ≡ false) × ((k : F) × Called g j (x, tt) false k)) → r ≡ all t (parts_left p)
    tells_lem p e u r [] None j y c m = m ∙ sym (ap (all t) (ap parts_left y.1 ∙ y.2.0))
    tells_lem p e u r [] (Some x) j y c m =
        let a : parts_left p ≡ x.now ∷ parts_left u = ap parts_left y.1 ∙ y.2 in
        let d : TellsEach g h t (x.now ∷ parts_left u) = subst (TellsEach g h t) a e in
        let b : Called g h (x, tt) false m.1.0 = subst (λ (k : F). Called g k (x, tt) false m.1.0) (sym c) m.1.1 in
        m.0 ∙ ap (λ (b : Bool). b && all t (parts_left u)) (d.at.0 x false refl (step_gives g h (x, tt) false m.1.0 law b)) ∙ sym (ap (all t) a)
    tells_lem p e u r (x ∷ xs) o j y c m =
        let d : TellsEach g h t (x.now ∷ parts_left y.1.0) = subst (TellsEach g h t) y.1.1 e in
        tells_lem y.1.0 (record { at = d.at.1 }) u r xs o j (y.0, y.1.2, y.2) (subst (λ (k : F). FoldsTo (λ p x q. Called g p (x, tt) true q) k xs j) (step_stays_lem g h (x, tt) true c.0 stays c.1) c.2) m
        ∙ ap (λ (b : Bool). b && all t (parts_left y.1.0)) (d.at.0 x true refl (step_gives g h (x, tt) true c.0 law c.1)) ∙ sym (ap (all t) y.1.1)

    pub each_told : (p : Parts) (ps : List (List ℕ)) → parts_left p ≡ ps → TellsEach g h t ps → (u : Parts) (r : Bool) → Stops g true p h r u → r ≡ all t ps
    each_told p ps e k u r a = tells_lem p (subst (TellsEach g h t) (sym e) k) u r a.0 a.1 a.2 a.3 a.4 a.5 ∙ ap (all t) e

-- ---- a list of a format

-- what t says of the value that is there
abbrev said : {A : Type 0} → (A → Bool) → Maybe A → Bool
said t none = false
said t (some v) = t v

module _ {A : Type 0} (f : Format A) where
  module _ {F : Type 0} {g : Mut F (Bor (List ℕ) × Unit {0}) Bool} {h : F} where
    takes_held : ((x : Bor (List ℕ)) → Is f x.now → g.pre h (x, tt)) → (ps : List (List ℕ)) (vs : List A) → HoldEach f ps vs → TakesEach g h ps
    takes_held k [] vs e = record { at = tt }
    takes_held k (p ∷ ps) vs e =
        let d : FirstHeld f p ps vs = hold_first e in
        record { at = (λ x q. k x (is_held {f = f} (same f q d.holds)), (takes_held k ps d.others d.each).at) }

    -- h may be called at each part of a list, where it may be called at bytes of the format
    pub list_takes : (s : List ℕ) → Is (list_of 2 f) s → ((x : Bor (List ℕ)) → Is f x.now → g.pre h (x, tt)) → TakesEach g h (parts_of 2 s)
    list_takes s i k = held i (λ vs b. takes_held k (parts_of 2 s) vs (list_holds 2 f s b))

  module _ (t : A → Bool) where
    abbrev reads : List ℕ → Bool
    reads p = said t (f.read p)

    read_each : (ps : List (List ℕ)) (vs : List A) → HoldEach f ps vs → all reads ps ≡ all t vs
    read_each [] vs e = ap (all t) (sym (hold_none e))
    read_each (p ∷ ps) vs e =
        let d : FirstHeld f p ps vs = hold_first e in
        ap₂ (λ (a b : Bool). a && b) (ap (said t) d.holds) (read_each ps d.others d.each) ∙ ap (all t) (sym d.is)

    module _ {F : Type 0} {g : Mut F (Bor (List ℕ) × Unit {0}) Bool} {h : F} where
      tells_held : ((x : Bor (List ℕ)) (b : Bool) → g.post h (x, tt) b → (v : A) → Holds f x.now v → b ≡ t v)
          → (ps : List (List ℕ)) (vs : List A) → HoldEach f ps vs → TellsEach g h reads ps
      tells_held k [] vs e = record { at = tt }
      tells_held k (p ∷ ps) vs e =
          let d : FirstHeld f p ps vs = hold_first e in
          record { at = (λ x b q c. k x b c d.value (same f q d.holds) ∙ sym (ap (said t) d.holds), (tells_held k ps d.others d.each).at) }

      -- what is found of a list, where h answers of a part what t says of the value that it holds
      pub list_told : (most : ℕ) (s : List ℕ) {r : Bool} → ((u : List ℕ → Bool) → TellsEach g h u (parts_of 2 s) → r ≡ list_within most u (parts_of 2 s))
          → ((x : Bor (List ℕ)) (b : Bool) → g.post h (x, tt) b → (v : A) → Holds f x.now v → b ≡ t v)
          → (vs : List A) → Holds (list_of 2 f) s vs → r ≡ list_within most t vs
      unfolding list_within
      list_told most s e k vs b =
          let w = list_holds 2 f s b in
          e reads (tells_held k (parts_of 2 s) vs w) ∙ ap₂ (λ (n : ℕ) (a : Bool). at_most most n && a) (sym (list_count f s b)) (read_each (parts_of 2 s) vs w)
