-- The first entry that a later one repeats, of any kind of entry; and entries of an image by the bytes that tell them apart.
-- Assumes nothing.
use Rattle.std.specs.Prelude.{◌≡◌, Bool, ◌&&◌, ◌||◌, ℕ, zero, suc, ◌+◌, ◌<◌, eqb, length, get_or, Option, Some, None, is_none}
use Rattle.std.proofs.Math.Path.{refl, ap}
use Rattle.std.proofs.Common.{sym, ap₂, ◌∙◌, subst, arith}
use Rattle.std.proofs.Math.Option.{some, some-injective}
use Rattle.std.proofs.Math.Bool.{true, false, not, cond}
use mathlib.Core.List.{List, [], ◌∷◌}
use Rattle.std.specs.Fn.{Called, Takes}
use Rattle.std.specs.List.{FoldsTo, list_any}
use Rattle.std.specs.Iterator.{YieldsFirstRef, Yields, CallableAtEachTurn}
use Rattle.std.proofs.lemmas.Iterator.Consumers.{YieldsList-from_first}
use Rattle.std.proofs.lemmas.Iterator.Search.{any_from_yields_List}
use denote.Param.Members.{Mut}
use denote.Ref.{Bor}
use Rattle.bytes_format.specs.Format.{Format, Every}
use Rattle.bytes_format.specs.Ways.{next, each_join}
use Rattle.bytes_format.proofs.Laws.{next_some}
use Rattle.bytes_format.proofs.Formats.{alone, each, list_of}
use Rattle.bytes_bundle.specs.declared.parts_iter.Parts.{Parts}
use Rattle.bytes_bundle.specs.Left.{parts_left}
use Rattle.bytes_bundle.specs.Chains.{Stops}
use Rattle.bytes_bundle.specs.Bundle.{parts_of}
use Rattle.bytes_bundle.specs.Laws.{bundle_value}
use Rattle.image_value.specs.Parts.{column_id}
use Rattle.rules.specs.Lists.{same, any, distinct}
use Rattle.rules.specs.Tables.{same_id}
use Rattle.catalogue_repeats.specs.declared.By.{By}
use Rattle.catalogue_repeats.specs.declared.By.TheVariants as by
use Rattle.bytes_bundle.specs.Held.{Holds, Is, is_held, held}
use Rattle.image_catalogue.specs.Values.{id_of, name_of, id_number, HasName, HasNumbers}

-- ---- the first repeat

module _ {A : Type 0} (alike : A → A → Bool) where
  -- of entries that are counted from i on
  unfoldable pub first_repeated : ℕ → List A → Option ℕ
  first_repeated i [] = None
  first_repeated i (x ∷ l) = cond (any (alike x) l) (Some i) (first_repeated (i + 1) l)

  pub repeat_hit : (i : ℕ) (x : A) (l : List A) → any (alike x) l ≡ true → first_repeated i (x ∷ l) ≡ Some i
  unfolding first_repeated
  repeat_hit i x l e = ap (λ (b : Bool). cond b (Some i) (first_repeated (i + 1) l)) e

  pub repeat_pass : (i : ℕ) (x : A) (l : List A) → any (alike x) l ≡ false → first_repeated i (x ∷ l) ≡ first_repeated (i + 1) l
  unfolding first_repeated
  repeat_pass i x l e = ap (λ (b : Bool). cond b (Some i) (first_repeated (i + 1) l)) e

  pub repeat_end : (i : ℕ) → first_repeated i [] ≡ None
  unfolding first_repeated
  repeat_end i = refl

  -- no place is found where no two are alike
  pub nowhere_is : (i : ℕ) (l : List A) → is_none (first_repeated i l) ≡ distinct alike l
  unfolding first_repeated
  nowhere_is i [] = refl
  nowhere_is i (x ∷ l) = go (any (alike x) l) ∙ ap (λ (b : Bool). not (any (alike x) l) && b) (nowhere_is (i + 1) l)
    where
      go : (b : Bool) → is_none (cond b (Some i) (first_repeated (i + 1) l)) ≡ (not b && is_none (first_repeated (i + 1) l))
      go true = refl
      go false = refl

-- ---- entries of an image

-- what the code compares
abbrev pub alike_by : By → List ℕ → List ℕ → Bool
alike_by by.Name a b = same (name_of a) (name_of b)
alike_by by.Id a b = eqb (id_number a) (id_number b)
alike_by by.Whole a b = same_id (id_of a) (id_of b)

-- it is there
abbrev pub Told : By → List ℕ → Type 0
Told by.Name s = HasName s
Told by.Id s = HasNumbers s
Told by.Whole s = Is (alone column_id) s

pub record AllTold (b : By) (s : List ℕ) : Type 0 where
  pub at : (i : ℕ) → i < length (parts_of 2 s) → Told b (get_or (parts_of 2 s) i [])

-- ---- parts and their values

-- a value for each part
abbrev pub Pairs : {A : Type 0} → Format A → List (List ℕ) → List A → Type 0
Pairs f [] [] = Unit {0}
Pairs f [] (v ∷ vs) = ⊥
Pairs f (p ∷ l) [] = ⊥
Pairs f (p ∷ l) (v ∷ vs) = Holds f p v × Pairs f l vs

module _ {A : Type 0} (f : Format A) where
  each_pairs : (l : List (List ℕ)) (vs : List A) → each_join f l ≡ some vs → Pairs f l vs
  each_pairs [] vs e = subst (Pairs f []) (some-injective [] vs e) tt
  each_pairs (p ∷ l) vs e =
      next_some (f.read p) (λ a. next (each_join f l) (λ m. some (a ∷ m))) e
      (λ a e₁ h. next_some (each_join f l) (λ m. some (a ∷ m)) h
      (λ m e₂ k. subst (Pairs f (p ∷ l)) (some-injective (a ∷ m) vs k) (e₁, each_pairs l m e₂)))

  pub pairs : (s : List ℕ) {vs : List A} → Holds (list_of 2 f) s vs → Pairs f (parts_of 2 s) vs
  pairs s {vs} h = each_pairs (parts_of 2 s) vs (bundle_value 2 (each f) s h)

  -- two tests that agree on each part and its value
  module _ (t : List ℕ → List ℕ → Bool) (u : A → A → Bool) (agree : (p q : List ℕ) (v w : A) → Holds f p v → Holds f q w → t p q ≡ u v w) where
    any_pairs : (p : List ℕ) (v : A) → Holds f p v → (l : List (List ℕ)) (vs : List A) → Pairs f l vs → any (t p) l ≡ any (u v) vs
    any_pairs p v h [] [] r = refl
    any_pairs p v h [] (w ∷ vs) r = absurd r
    any_pairs p v h (q ∷ l) [] r = absurd r
    any_pairs p v h (q ∷ l) (w ∷ vs) r = ap₂ (λ (a b : Bool). a || b) (agree p q v w h r.0) (any_pairs p v h l vs r.1)

    distinct_pairs : (l : List (List ℕ)) (vs : List A) → Pairs f l vs → distinct t l ≡ distinct u vs
    distinct_pairs [] [] r = refl
    distinct_pairs [] (w ∷ vs) r = absurd r
    distinct_pairs (q ∷ l) [] r = absurd r
    distinct_pairs (q ∷ l) (w ∷ vs) r = ap₂ (λ (a b : Bool). not a && b) (any_pairs q w r.0 l vs r.1) (distinct_pairs l vs r.1)

    pub distinct_held : (s : List ℕ) {vs : List A} → Holds (list_of 2 f) s vs → distinct t (parts_of 2 s) ≡ distinct u vs
    distinct_held s {vs} h = distinct_pairs (parts_of 2 s) vs (pairs s h)

  -- each part of a list can be told apart where each of its values can
  pairs_told : (b : By) → ((p : List ℕ) → Is f p → Told b p) → (l : List (List ℕ)) (vs : List A) (i : ℕ) → Pairs f l vs → i < length l → Told b (get_or l i [])
  pairs_told b g [] vs i r h = absurd (omega arith)
  pairs_told b g (p ∷ l) [] i r h = absurd r
  pairs_told b g (p ∷ l) (v ∷ vs) zero r h = g p (is_held {f = f} r.0)
  pairs_told b g (p ∷ l) (v ∷ vs) (suc i) r h = pairs_told b g l vs i r.1 (omega arith)

  pub all_told : (b : By) → ((p : List ℕ) → Is f p → Told b p) → (s : List ℕ) → Is (list_of 2 f) s → AllTold b s
  all_told b g s k = held k (λ vs h. record { at = λ i l. pairs_told b g (parts_of 2 s) vs i (pairs s h) l })

-- ---- a loop over the entries that are left

-- each of some parts can be told apart
pub record EachTold (b : By) (ps : List (List ℕ)) : Type 0 where
  pub at : Every (Told b) ps

pub told_first : {b : By} {p : List ℕ} {ps qs : List (List ℕ)} → EachTold b ps → ps ≡ p ∷ qs → Told b p × EachTold b qs
told_first {b} {p} {ps} {qs} k e = let d : EachTold b (p ∷ qs) = rw e at k in (d.at.0, record { at = d.at.1 })

each_told : (b : By) (ps : List (List ℕ)) → ((i : ℕ) → i < length ps → Told b (get_or ps i [])) → Every (Told b) ps
each_told b [] k = tt
each_told b (p ∷ ps) k = (k 0 (omega arith), each_told b ps (λ i h. k (suc i) (omega (arith, h))))

pub told_each : {b : By} {s : List ℕ} {ps : List (List ℕ)} → ps ≡ parts_of 2 s → AllTold b s → EachTold b ps
told_each {b} {s} e k = record { at = rw e (each_told b (parts_of 2 s) k.at) }

module _ {F : Type 0} {g : Mut F (Bor (List ℕ) × Unit {0}) Bool} {h : F} (keeps : (x : Bor (List ℕ)) (b : Bool) (q : F) → Called g h (x, tt) b q → q ≡ h) where
  told_lem : (b : By) (p : Parts) → Every (Told b) (parts_left p) → (xs : List (Bor (List ℕ))) (q : Parts) (j : F) (x : Bor (List ℕ)) (u : Parts)
      → Yields (YieldsFirstRef parts_left) p xs q → FoldsTo (λ p x q. Called g p (x, tt) false q) h xs j → parts_left q ≡ x.now ∷ parts_left u → Told b x.now × (j ≡ h)
  told_lem b p e [] q j x u y c m =
      let d : Every (Told b) (x.now ∷ parts_left u) = rw (ap parts_left y ∙ m) at e in
      (d.0, sym c)
  told_lem b p e (a ∷ xs) q j x u y c m =
      let d : Every (Told b) (a.now ∷ parts_left y.0) = rw y.1 at e in
      told_lem b y.0 d.1 xs q j x u y.2 (rw (keeps a false c.0 c.1) at c.2) m

  -- h may be called at each entry that is left, where it may be called at one that can be told apart
  pub told_callable : (b : By) (p : Parts) → EachTold b (parts_left p) → ((x : Bor (List ℕ)) → Told b x.now → Takes g h (x, tt))
      → CallableAtEachTurn (YieldsFirstRef parts_left) (λ p x q. Called g p (x, tt) false q) (λ p x. Takes g p (x, tt)) p h
  told_callable b p e a = record { at = λ xs q j x u y c m. let d = told_lem b p e.at xs q j x u y c m in rw d.1 (a x d.0) }

any_same : (t : List ℕ → Bool) (l : List (List ℕ)) → list_any t l ≡ any t l
any_same t [] = refl
any_same t (p ∷ l) = ap (λ (b : Bool). t p || b) (any_same t l)

-- whether some entry that is left passes a test
pub any_left : {F : Type 0} {g : Mut F (Bor (List ℕ) × Unit {0}) Bool} {h : F} (t : List ℕ → Bool) (p u : Parts) (r : Bool) → Stops g false p h r u
    → ((x : Bor (List ℕ)) (b : Bool) (q : F) → Called g h (x, tt) b q → (q ≡ h) × (b ≡ t x.now)) → r ≡ any t (parts_left p)
any_left {h = h} t p u r a says = any_from_yields_List t u h r a (YieldsList-from_first (λ x. x.now) parts_left (parts_left p) refl) says ∙ any_same t (parts_left p)
