-- `all` and `any` of an iterator over a list, by the values that its parts hold, and where their closure may be called.
-- Assumes nothing.
use Rattle.std.specs.Prelude.{◌≡◌, refl, Bool, true, not, ◌&&◌, List, [], ◌∷◌, ℕ, Option, Some, None, MatchOption}
use Rattle.std.specs.Fn.{Called, Takes}
use Rattle.std.specs.List.{FoldsTo, list_all}
use Rattle.std.specs.Iterator.{YieldsFirstRef, Yields, YieldsThen, CallableAtEachTurn}
use Rattle.std.proofs.Common.{sym, ap, ◌∙◌}
use Rattle.std.proofs.lemmas.Iterator.Consumers.{YieldsList-from_first}
use Rattle.std.proofs.lemmas.Iterator.Search.{all_from_yields_List}
use denote.Param.Members.{Mut}
use denote.Ref.{Bor}
use Rattle.bytes_format.specs.Format.{Format}
use Rattle.bytes_format.proofs.Formats.{list_of, pieces}
use Rattle.bytes_bundle.specs.declared.parts_iter.Parts.{Parts}
use Rattle.bytes_bundle.specs.Bundle.{is_there, parts_of}
use Rattle.bytes_bundle.specs.Laws.{all, list_is}
use Rattle.bytes_bundle.specs.Left.{parts_left}
use Rattle.bytes_bundle.specs.Held.{Is, Holds, is_held, held}
use Rattle.bytes_bundle.specs.Looks.{Looks}
use Rattle.bytes_bundle.specs.Ahead.{HoldEach, FirstHeld, hold_first, hold_none, list_holds}

-- each call of h answers of a part what t says of the value that it holds, and leaves h as it was
abbrev pub Tells : {A F : Type 0} → Format A → (A → Bool) → Mut F (Bor (List ℕ) × Unit {0}) Bool → F → Type 0
Tells {A} {F} f t g h = (x : Bor (List ℕ)) (b : Bool) (q : F) → Called g h (x, tt) b q → (q ≡ h) × ((v : A) → Holds f x.now v → b ≡ t v)

-- calls that answered z, up to the end or to one that did not: `ChecksAll` at true, and `ChecksAny` at false
abbrev pub Stops : {F : Type 0} → Mut F (Bor (List ℕ) × Unit {0}) Bool → Bool → Parts → F → Bool → Parts → Type 0
Stops {F} g z p h r u =
    (xs : List (Bor (List ℕ))) × (o : Option (Bor (List ℕ))) × (j : F) × YieldsThen (YieldsFirstRef parts_left) p xs o u
    × FoldsTo (λ p x q. Called g p (x, tt) z q) h xs j × MatchOption o (r ≡ z) (λ x. (r ≡ not z) × ((k : F) × Called g j (x, tt) (not z) k))

module _ {A F : Type 0} (f : Format A) {g : Mut F (Bor (List ℕ) × Unit {0}) Bool} {h : F} where
  stops_lem : {z : Bool} {t : A → Bool} → Tells f t g h → {G : List A → Bool} → Looks G t z
      → (p : Parts) (vs : List A) → HoldEach f (parts_left p) vs → (u : Parts) (r : Bool) (xs : List (Bor (List ℕ))) (o : Option (Bor (List ℕ))) (j : F)
      → YieldsThen (YieldsFirstRef parts_left) p xs o u → FoldsTo (λ p x q. Called g p (x, tt) z q) h xs j
      → MatchOption o (r ≡ z) (λ x. (r ≡ not z) × ((k : F) × Called g j (x, tt) (not z) k)) → r ≡ G vs
  stops_lem {z = z} says {G = G} l p vs e u r [] None j y c m =
      let a : parts_left p ≡ [] = ap parts_left y.1 ∙ y.2.0 in
      m ∙ sym l.nothing ∙ ap G (sym (hold_none (rw a at e)))
  stops_lem {z = z} says {G = G} l p vs e u r [] (Some x) j y c m =
      let a : parts_left p ≡ x.now ∷ parts_left u = ap parts_left y.1 ∙ y.2 in
      let d : FirstHeld f x.now (parts_left u) vs = hold_first (rw a at e) in
      let b : Called g h (x, tt) (not z) m.1.0 = rw c m.1.1 in
      m.0 ∙ sym (l.stop d.value d.others (sym ((says x (not z) m.1.0 b).1 d.value d.holds))) ∙ ap G (sym d.is)
  stops_lem {z = z} says {G = G} l p vs e u r (x ∷ xs) o j y c m =
      let d : FirstHeld f x.now (parts_left y.1.0) vs = hold_first (rw y.1.1 at e) in
      let b = says x z c.0 c.1 in
      stops_lem says l y.1.0 d.others d.each u r xs o j (y.0, y.1.2, y.2) (rw b.0 at c.2) m
      ∙ sym (l.on d.value d.others (sym (b.1 d.value d.holds))) ∙ ap G (sym d.is)

  turn_lem : (z : Bool) → ((x : Bor (List ℕ)) (b : Bool) (q : F) → Called g h (x, tt) b q → q ≡ h)
      → (p : Parts) (vs : List A) → HoldEach f (parts_left p) vs → (xs : List (Bor (List ℕ))) (q : Parts) (j : F) (x : Bor (List ℕ)) (u : Parts)
      → Yields (YieldsFirstRef parts_left) p xs q → FoldsTo (λ p x q. Called g p (x, tt) z q) h xs j → parts_left q ≡ x.now ∷ parts_left u → Is f x.now × (j ≡ h)
  turn_lem z keeps p vs e [] q j x u y c m =
      let d : FirstHeld f x.now (parts_left u) vs = hold_first (rw (ap parts_left y ∙ m) at e) in
      (is_held {f = f} d.holds, sym c)
  turn_lem z keeps p vs e (a ∷ xs) q j x u y c m =
      let d : FirstHeld f a.now (parts_left y.0) vs = hold_first (rw y.1 at e) in
      turn_lem z keeps y.0 d.others d.each xs q j x u y.2 (rw (keeps a z c.0 c.1) at c.2) m

  -- what the calls found
  pub list_looked : {z : Bool} {t : A → Bool} {G : List A → Bool} → Looks G t z → (w : ℕ) (s : List ℕ) (p : Parts) → parts_left p ≡ parts_of w s
      → (u : Parts) (r : Bool) → Stops g z p h r u → Tells f t g h → (vs : List A) → Holds (list_of w f) s vs → r ≡ G vs
  list_looked l w s p e u r a says vs b = stops_lem says l p vs (rw e (list_holds w f s b)) u r a.0 a.1 a.2 a.3 a.4 a.5

  -- h may be called at each part of a list, where it may be called at bytes of the format
  pub list_callable : {z : Bool} (w : ℕ) (s : List ℕ) (p : Parts) → parts_left p ≡ parts_of w s → Is (list_of w f) s
      → ((x : Bor (List ℕ)) (b : Bool) (q : F) → Called g h (x, tt) b q → q ≡ h) → ((x : Bor (List ℕ)) → Is f x.now → Takes g h (x, tt))
      → CallableAtEachTurn (YieldsFirstRef parts_left) (λ p x q. Called g p (x, tt) z q) (λ p x. Takes g p (x, tt)) p h
  list_callable {z} w s p e i keeps a = held i (λ vs b. record {
    at = λ xs q j x u y c m. let d = turn_lem z keeps p vs (rw e (list_holds w f s b)) xs q j x u y c m in rw d.1 (a x d.0);
  })

-- ---- tests of the parts themselves

all_same : (t : List ℕ → Bool) (l : List (List ℕ)) → list_all t l ≡ all t l
all_same t [] = refl
all_same t (p ∷ l) = ap (λ (b : Bool). t p && b) (all_same t l)

module _ {F : Type 0} {g : Mut F (Bor (List ℕ) × Unit {0}) Bool} {h : F} where
  -- the bytes are a list of a format, where each part passes the format's test
  pub list_tested : {A : Type 0} (f : Format A) (w : ℕ) (s : List ℕ) → is_there ((pieces w).read s) ≡ true → (p : Parts) → parts_left p ≡ parts_of w s
      → (u : Parts) (r : Bool) → Stops g true p h r u
      → ((x : Bor (List ℕ)) (b : Bool) (q : F) → Called g h (x, tt) b q → (q ≡ h) × (b ≡ is_there (f.read x.now))) → r ≡ is_there ((list_of w f).read s)
  list_tested f w s t p e u r a says =
      all_from_yields_List (λ q. is_there (f.read q)) u h r a (YieldsList-from_first (λ x. x.now) parts_left (parts_of w s) e) says
      ∙ all_same (λ q. is_there (f.read q)) (parts_of w s) ∙ sym (list_is w f s ∙ ap (λ (b : Bool). b && all (λ q. is_there (f.read q)) (parts_of w s)) t)
