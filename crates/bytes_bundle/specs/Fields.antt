-- How fields of known width, headers and codes read, by the bytes that the code looks at: a test for each byte that can be wrong.
-- Assumes nothing.
use Rattle.std.specs.Prelude.{◌≡◌, refl, Bool, true, false, cond, ◌&&◌, ◌⊎◌, List, [], ◌∷◌, ℕ, zero, suc, ◌+◌, ◌-◌, ◌≤◌, ◌<◌, length, take, drop, get_or, leb, ltb, eqb}
use Rattle.std.proofs.Common.{sym, ap, ap₂, ◌∙◌, subst, inl, inr, arith, length-take, length-drop, drop-cons, drop-drop, take_all, take-take, leb-true, leb-false, lt-ltb, le-ltb, eq-eqb, ne_eqb, eqb-true, to_z}
use Rattle.std.proofs.Math.Bool.{and-true, and-false}
use Rattle.std.proofs.Math.Option.{Option, none, some, none-ne-some, some-injective}
use Rattle.std.proofs.Math.ListN.{get_elem?}
use Rattle.std.proofs.Math.Dec.{eqb-suc-zero, leb-suc-suc}
use Rattle.std.proofs.lemmas.Bool.{eqb-false}
use Rattle.std.specs.Int.{w64}
use Rattle.bytes_wire.specs.Le.{num}
use Rattle.bytes_format.specs.Format.{Format, Fixed, Enum, Coded}
use Rattle.bytes_format.specs.Ways.{next, number_read, code_read, some_read, Case, Some, made, spread}
use Rattle.bytes_format.proofs.Laws.{next_some}
use Rattle.bytes_format.proofs.Formats.{text, nothing, number, code, via, checked, via_field, checked_field, int64, headed, both, optional}
use Rattle.bytes_format.proofs.Sums.{choice, kinds, beside, recode, either, sum}
use Rattle.bytes_bundle.specs.Bundle.{is_there}
use Rattle.bytes_bundle.specs.Laws.{there_next, drop_take}
use Rattle.bytes_utf8.specs.Decide.{is_utf8}

-- ---- the same bytes for other values

module _ {A B : Type 0} (c : Format A) (f : A → B) (g : B → A) (fg : (b : B) → f (g b) ≡ b) (gf : (a : A) → c.Ok a → g (f a) ≡ a) (s : List ℕ) where
  pub via_is : is_there ((via c f g fg gf).read s) ≡ is_there (c.read s)
  via_is = there_next (c.read s) f

  pub via_value : {b : B} → (via c f g fg gf).read s ≡ some b → (a : A) × (c.read s ≡ some a) × (f a ≡ b)
  via_value {b} e = next_some (c.read s) (λ a. some (f a)) e (λ a h k. (a, h, some-injective (f a) b k))

-- whether the value passes
abbrev pub passing : {A : Type 0} → (A → Bool) → Option A → Bool
passing t none = false
passing t (some a) = t a

pub not_passing : {A : Type 0} (t : A → Bool) (o : Option A) → is_there o ≡ false → passing t o ≡ false
not_passing t none h = refl
not_passing t (some a) h = let z : ◌≡◌ {A = ℕ} 0 1 = cc in absurd (omega arith)

there_passing : {A : Type 0} (t : A → Bool) (o : Option A) → is_there (next o (λ a. cond (t a) (some a) none)) ≡ passing t o
there_passing t none = refl
there_passing t (some a) = go (t a)
  where
    go : (b : Bool) → is_there (cond b (some a) none) ≡ b
    go true = refl
    go false = refl

module _ {A : Type 0} (c : Format A) (t : A → Bool) (s : List ℕ) where
  pub checked_is : is_there ((checked c t).read s) ≡ passing t (c.read s)
  checked_is = there_passing t (c.read s)

  -- with the value in hand
  pub checked_on : {a : A} → c.read s ≡ some a → is_there ((checked c t).read s) ≡ t a
  checked_on e = checked_is ∙ ap (passing t) e

  pub checked_not : is_there (c.read s) ≡ false → is_there ((checked c t).read s) ≡ false
  checked_not e = checked_is ∙ not_passing t (c.read s) e

  pub checked_value : {a : A} → (checked c t).read s ≡ some a → (c.read s ≡ some a) × (t a ≡ true)
  checked_value {a} e = next_some (c.read s) (λ x. cond (t x) (some x) none) e (λ x h k. go x h (t x) refl k)
    where
      go : (x : A) → c.read s ≡ some x → (b : Bool) → t x ≡ b → cond b (some x) none ≡ some a → (c.read s ≡ some a) × (t a ≡ true)
      go x h true d k = let z : x ≡ a = some-injective x a k in (rw z at h, rw z at d)
      go x h false d k = absurd (none-ne-some a k)

-- nothing at all, or a value
module _ {A : Type 0} (f : Format A) (z : f.read [] ≡ none) where
  pub optional_nil : is_there ((optional f z).read []) ≡ true
  optional_nil = refl

  pub optional_some : (s : List ℕ) → 0 < length s → is_there ((optional f z).read s) ≡ is_there (f.read s)
  optional_some [] h = absurd (omega arith)
  optional_some (b ∷ s) h = there_next (f.read (b ∷ s)) some

pub nothing_is : (s : List ℕ) → is_there (nothing.read s) ≡ eqb (length s) 0
nothing_is [] = refl
nothing_is (b ∷ s) = sym (eqb-suc-zero (length s))

pub text_is : (s : List ℕ) → is_there (text.read s) ≡ is_utf8 s
text_is s = go (is_utf8 s)
  where
    go : (b : Bool) → is_there (cond b (some s) none) ≡ b
    go true = refl
    go false = refl

-- ---- fields

-- a field by the bytes from `at` on: whether it reads, and as what
pub record Spot {A : Type 0} (f : Fixed A) : Type 1 where
  pub test : ℕ → List ℕ → Bool
  pub look : ℕ → List ℕ → Option A
  pub tested : (s : List ℕ) (at : ℕ) → is_there (look at s) ≡ test at s
  pub read : (s : List ℕ) (at : ℕ) → at + f.width ≤ length s → f.form.read (take f.width (drop at s)) ≡ look at s
  -- other widths do not read
  pub wide : (s : List ℕ) → (length s ≡ f.width → ⊥) → f.form.read s ≡ none

pub number_spot_lem : (k : ℕ) (s : List ℕ) (at : ℕ) → at + k ≤ length s → number_read k (take k (drop at s)) ≡ some (num (take k (drop at s)))
number_spot_lem k s at h = rw (eq-eqb (length (take k (drop at s))) k (omega (arith, length-take k (drop at s), length-drop at s)))

pub number_wide : (k : ℕ) (s : List ℕ) → (length s ≡ k → ⊥) → number_read k s ≡ none
number_wide k s h = rw (ne_eqb (length s) k h)

abbrev pub number_spot : (k : ℕ) → Spot (number k)
number_spot k = record {
  test = λ at s. true;
  look = λ at s. some (num (take k (drop at s)));
  tested = λ s at. refl;
  read = number_spot_lem k;
  wide = number_wide k;
}

pub elem_there : {A : Type 0} (l : List A) (i : ℕ) → is_there (get_elem? l i) ≡ ltb i (length l)
elem_there [] i = sym (le-ltb i 0 (omega arith))
elem_there (a ∷ l) zero = sym (lt-ltb 0 (length (a ∷ l)) (omega arith))
elem_there (a ∷ l) (suc i) = elem_there l i ∙ sym (leb-suc-suc (suc i) (length l))

module _ {A : Type 0} (e : Enum A) where
  pub code_spot_lem : (s : List ℕ) (at : ℕ) → at + 1 ≤ length s → code_read e (take 1 (drop at s)) ≡ get_elem? e.all (get_or s at 0)
  code_spot_lem s at h = rw (drop-cons s at 0 (omega arith))

  pub code_wide : (s : List ℕ) → (length s ≡ 1 → ⊥) → code_read e s ≡ none
  code_wide [] h = refl
  code_wide (x ∷ []) h = absurd (h refl)
  code_wide (x ∷ y ∷ s) h = refl

  abbrev pub code_spot : Spot (code e)
  code_spot = record {
    test = λ at s. ltb (get_or s at 0) (length e.all);
    look = λ at s. get_elem? e.all (get_or s at 0);
    tested = λ s at. elem_there e.all (get_or s at 0);
    read = code_spot_lem;
    wide = code_wide;
  }

module _ {A B : Type 0} {f : Fixed A} {g : Fixed B} (p : Spot f) (q : Spot g) where
  both_there : (o : Option A) (r : Option B) → is_there {A = A × B} (next o (λ a. next r (λ b. some (a, b)))) ≡ (is_there o && is_there r)
  both_there none r = refl
  both_there (some a) none = refl
  both_there (some a) (some b) = refl

  abbrev pub both_look : ℕ → List ℕ → Option (A × B)
  both_look at s = next (p.look at s) (λ a. next (q.look (at + f.width) s) (λ b. some (a, b)))

  pub both_tested : (s : List ℕ) (at : ℕ) → is_there (both_look at s) ≡ (p.test at s && q.test (at + f.width) s)
  both_tested s at =
      both_there (p.look at s) (q.look (at + f.width) s) ∙ ap₂ (λ (x y : Bool). x && y) (p.tested s at) (q.tested s (at + f.width))

  pub both_read : (s : List ℕ) (at : ℕ) → at + (f.width + g.width) ≤ length s → (both f g).form.read (take (f.width + g.width) (drop at s)) ≡ both_look at s
  both_read s at h =
      rw (
        take-take f.width (f.width + g.width) (drop at s) (omega arith),
        drop_take f.width g.width (drop at s),
        drop-drop f.width at s,
        p.read s at (omega arith),
        q.read s (at + f.width) (omega arith),
      )

  pub both_wide : (s : List ℕ) → (length s ≡ f.width + g.width → ⊥) → (both f g).form.read s ≡ none
  both_wide s h = go (leb f.width (length s)) refl
    where
      none_behind : (o : Option A) → next {Y = A × B} o (λ a. next none (λ (b : B). some (a, b))) ≡ none
      none_behind none = refl
      none_behind (some a) = refl

      go : (b : Bool) → leb f.width (length s) ≡ b → (both f g).form.read s ≡ none
      go true e =
          let k : f.width ≤ length s = leb-true f.width (length s) e in
          rw (q.wide (drop f.width s) (λ z. h (omega (arith, length-drop f.width s)))) (none_behind (f.form.read (take f.width s)))
      go false e =
          rw (p.wide (take f.width s) (λ z. omega (arith, length-take f.width s, leb-false f.width (length s) e)))

  abbrev pub both_spot : Spot (both f g)
  both_spot = record {
    test = λ at s. p.test at s && q.test (at + f.width) s;
    look = both_look;
    tested = both_tested;
    read = both_read;
    wide = both_wide;
  }

module _ {A B : Type 0} {c : Fixed A} (p : Spot c) (f : A → B) where
  pub map_read : (s : List ℕ) (at : ℕ) → at + c.width ≤ length s → next (c.form.read (take c.width (drop at s))) (λ a. some (f a)) ≡ next (p.look at s) (λ a. some (f a))
  map_read s at h = ap (λ (o : Option A). next o (λ a. some (f a))) (p.read s at h)

  pub map_wide : (s : List ℕ) → (length s ≡ c.width → ⊥) → next (c.form.read s) (λ a. some (f a)) ≡ none
  map_wide s h = ap (λ (o : Option A). next o (λ a. some (f a))) (p.wide s h)

  pub map_tested : (s : List ℕ) (at : ℕ) → is_there (next (p.look at s) (λ a. some (f a))) ≡ p.test at s
  map_tested s at = there_next (p.look at s) f ∙ p.tested s at

module _ {A B : Type 0} {c : Fixed A} (p : Spot c) (f : A → B) (g : B → A) (fg : (b : B) → f (g b) ≡ b) (gf : (a : A) → c.form.Ok a → g (f a) ≡ a) where
  abbrev pub via_spot : Spot (via_field c f g fg gf)
  via_spot = record {
    test = p.test;
    look = λ at s. next (p.look at s) (λ a. some (f a));
    tested = map_tested p f;
    read = map_read p f;
    wide = map_wide p f;
  }

abbrev pub int64_spot : Spot int64
int64_spot = record {
  test = λ at s. true;
  look = λ at s. some (to_z w64 (num (take 8 (drop at s))));
  tested = λ s at. refl;
  read = map_read (number_spot 8) (to_z w64);
  wide = map_wide (number_spot 8) (to_z w64);
}

module _ {A : Type 0} {c : Fixed A} (p : Spot c) (t : A → Bool) where
  pub checked_tested : (s : List ℕ) (at : ℕ) → is_there (next (p.look at s) (λ a. cond (t a) (some a) none)) ≡ passing t (p.look at s)
  checked_tested s at = there_passing t (p.look at s)

  abbrev pub checked_spot : Spot (checked_field c t)
  checked_spot = record {
    test = λ at s. passing t (p.look at s);
    look = λ at s. next (p.look at s) (λ a. cond (t a) (some a) none);
    tested = checked_tested;
    read = λ s at h. ap (λ (o : Option A). next o (λ a. cond (t a) (some a) none)) (p.read s at h);
    wide = λ s h. ap (λ (o : Option A). next o (λ a. cond (t a) (some a) none)) (p.wide s h);
  }

-- a field that fills its bytes
module _ {A : Type 0} {f : Fixed A} (p : Spot f) (s : List ℕ) where
  pub field_read : length s ≡ f.width → f.form.read s ≡ p.look 0 s
  field_read h = sym (ap f.form.read (take_all f.width s (omega arith))) ∙ p.read s 0 (omega arith)

  pub field_is : is_there (f.form.read s) ≡ (eqb (length s) f.width && p.test 0 s)
  field_is = go (eqb (length s) f.width) refl
    where
      go : (b : Bool) → eqb (length s) f.width ≡ b → is_there (f.form.read s) ≡ (b && p.test 0 s)
      go true e = ap is_there (field_read (eqb-true (length s) f.width e)) ∙ p.tested s 0
      go false e = ap is_there (p.wide s (eqb-false (length s) f.width e))

  pub field_value : {v : A} → f.form.read s ≡ some v → (length s ≡ f.width) × (p.look 0 s ≡ some v)
  field_value {v} e = go (eqb (length s) f.width) refl
    where
      go : (b : Bool) → eqb (length s) f.width ≡ b → (length s ≡ f.width) × (p.look 0 s ≡ some v)
      go true h = let k = eqb-true (length s) f.width h in (k, sym (field_read k) ∙ e)
      go false h = absurd (none-ne-some v (sym (p.wide s (eqb-false (length s) f.width h)) ∙ e))

-- ---- a field in front of something else

module _ {A : Type 0} {f : Fixed A} (p : Spot f) (s : List ℕ) where
  front_short : length s < f.width → f.form.read (take f.width s) ≡ none
  front_short h = p.wide (take f.width s) (λ z. omega (arith, length-take f.width s))

  front_there : f.width ≤ length s → is_there (f.form.read (take f.width s)) ≡ p.test 0 s
  front_there h = ap is_there (p.read s 0 (omega arith)) ∙ p.tested s 0

  module _ {B : A → Type 0} (g : (a : A) → Format (B a)) where
    behind_none : (o : Option A) → is_there o ≡ false → is_there (next {Y = (a : A) × B a} o (λ a. next ((g a).read (drop f.width s)) (λ b. some (a, b)))) ≡ false
    behind_none none h = refl
    behind_none (some a) h = let z : ◌≡◌ {A = ℕ} 0 1 = cc in absurd (omega arith)

    pub headed_short : length s < f.width → is_there ((headed f g).read s) ≡ false
    headed_short h = behind_none (f.form.read (take f.width s)) (ap is_there (front_short h))

    pub headed_wrong : f.width ≤ length s → p.test 0 s ≡ false → is_there ((headed f g).read s) ≡ false
    headed_wrong h e = behind_none (f.form.read (take f.width s)) (front_there h ∙ e)

    pub headed_on : {a : A} → f.width ≤ length s → p.look 0 s ≡ some a → is_there ((headed f g).read s) ≡ is_there ((g a).read (drop f.width s))
    headed_on {a} h e =
        ap (λ (o : Option A). is_there (next {Y = (x : A) × B x} o (λ x. next ((g x).read (drop f.width s)) (λ b. some (x, b))))) (p.read s 0 (omega arith) ∙ e)
        ∙ last ((g a).read (drop f.width s))
      where
        last : (o : Option (B a)) → is_there (next {Y = (x : A) × B x} o (λ b. some (a, b))) ≡ is_there o
        last none = refl
        last (some b) = refl

    pub headed_value : {v : (a : A) × B a} → (headed f g).read s ≡ some v
        → (f.width ≤ length s) × (p.look 0 s ≡ some v.0) × ((g v.0).read (drop f.width s) ≡ some v.1)
    headed_value {v} e = go (leb f.width (length s)) refl
      where
        go : (b : Bool) → leb f.width (length s) ≡ b → (f.width ≤ length s) × (p.look 0 s ≡ some v.0) × ((g v.0).read (drop f.width s) ≡ some v.1)
        go true h =
            let k : f.width ≤ length s = leb-true f.width (length s) h in
            next_some (f.form.read (take f.width s)) (λ a. next ((g a).read (drop f.width s)) (λ b. some (a, b))) e
            (λ a e₁ m. next_some ((g a).read (drop f.width s)) (λ b. some (a, b)) m (λ b e₂ z.
            subst (λ (x : (a : A) × B a). (f.width ≤ length s) × (p.look 0 s ≡ some x.0) × ((g x.0).read (drop f.width s) ≡ some x.1)) (some-injective (a, b) v z)
            (k, sym (p.read s 0 (omega arith)) ∙ e₁, e₂)))
        go false h =
            let z : (headed f g).read s ≡ none =
            ap (λ (o : Option A). next {Y = (x : A) × B x} o (λ x. next ((g x).read (drop f.width s)) (λ b. some (x, b)))) (front_short (leb-false f.width (length s) h)) in
            absurd (none-ne-some v (sym z ∙ e))

  -- what follows does not depend on the field
  front_is : {B : Type 0} (r : Option B)
      → is_there {A = A × B} (next (f.form.read (take f.width s)) (λ a. next r (λ b. some (a, b)))) ≡ (leb f.width (length s) && (p.test 0 s && is_there r))
  front_is {B} r = last (f.form.read (take f.width s)) r ∙ go (leb f.width (length s)) refl
    where
      last : (o : Option A) (r : Option B) → is_there {A = A × B} (next o (λ a. next r (λ b. some (a, b)))) ≡ (is_there o && is_there r)
      last none r = refl
      last (some a) none = refl
      last (some a) (some b) = refl

      go : (b : Bool) → leb f.width (length s) ≡ b → (is_there (f.form.read (take f.width s)) && is_there r) ≡ (b && (p.test 0 s && is_there r))
      go true e = ap (λ (b : Bool). b && is_there r) (front_there (leb-true f.width (length s) e))
      go false e = ap (λ (o : Option A). is_there o && is_there r) (front_short (leb-false f.width (length s) e))

  pub headed_is : {B : Type 0} (g : Format B) → is_there ((headed f (λ a. g)).read s) ≡ (leb f.width (length s) && (p.test 0 s && is_there (g.read (drop f.width s))))
  headed_is g = front_is (g.read (drop f.width s))

  pub beside_is : {T : Type 0} (c : Coded T) (i : ℕ) → is_there ((beside f c).read i s) ≡ (leb f.width (length s) && (p.test 0 s && is_there (c.read i (drop f.width s))))
  beside_is c i = front_is (c.read i (drop f.width s))

-- ---- codes

module _ {T : Type 0} (c : Coded T) (few : leb c.count 256 ≡ true) where
  pub choice_read_lem : (s : List ℕ) → 0 < length s → (choice c few).read s ≡ c.read (get_or s 0 0) (drop 1 s)
  choice_read_lem [] h = absurd (omega arith)
  choice_read_lem (i ∷ s) h = refl

  pub choice_is : (s : List ℕ) → is_there ((choice c few).read s) ≡ (ltb 0 (length s) && is_there (c.read (get_or s 0 0) (drop 1 s)))
  choice_is [] = refl
  choice_is (i ∷ s) = rw (lt-ltb 0 (suc (length s)) (omega arith))

  pub choice_value : (s : List ℕ) {t : T} → (choice c few).read s ≡ some t → (0 < length s) × (c.read (get_or s 0 0) (drop 1 s) ≡ some t)
  choice_value [] {t} e = absurd (none-ne-some t e)
  choice_value (i ∷ s) e = (omega arith, e)

-- how the case with the code i reads: at a known code this computes to that case's own format
abbrev pub case_is : {T : Type 0} → List (Case T) → ℕ → List ℕ → Bool
case_is [] i s = false
case_is (c ∷ l) zero s = is_there (c.form.read s)
case_is (c ∷ l) (suc i) s = case_is l i s

abbrev pub CaseHas : {T : Type 0} → List (Case T) → ℕ → List ℕ → T → Type 0
CaseHas [] i s t = ⊥
CaseHas (c ∷ l) zero s t = (x : c.Content) × (c.form.read s ≡ some x) × (c.make x ≡ t)
CaseHas (c ∷ l) (suc i) s t = CaseHas l i s t

module _ {T : Type 0} where
  some_is : (l : List (Case T)) (i : ℕ) (s : List ℕ) → is_there (some_read l i s) ≡ case_is l i s
  some_is [] i s = refl
  some_is (c ∷ l) zero s = there_next (c.form.read s) inl
  some_is (c ∷ l) (suc i) s = there_next (some_read l i s) inr ∙ some_is l i s

  some_has : (l : List (Case T)) (i : ℕ) (s : List ℕ) (x : Some l) → some_read l i s ≡ some x → CaseHas l i s (made l x)
  some_has [] i s x e = x
  some_has (c ∷ l) zero s x e =
      next_some (c.form.read s) (λ y. some (inl y)) e (λ y h k.
      subst (λ (z : Some (c ∷ l)). CaseHas (c ∷ l) zero s (made (c ∷ l) z)) (some-injective (inl y) x k) (y, h, refl))
  some_has (c ∷ l) (suc i) s x e =
      next_some (some_read l i s) (λ y. some (inr y)) e (λ y h k.
      subst (λ (z : Some (c ∷ l)). CaseHas (c ∷ l) (suc i) s (made (c ∷ l) z)) (some-injective (inr y) x k) (some_has l i s y h))

  module _ (l : List (Case T)) (which : T → Some l) (mw : (t : T) → made l (which t) ≡ t) (wm : spread l (λ x. which (made l x)) ≡ spread l (λ x. x)) (i : ℕ) (s : List ℕ) where
    pub sum_is : is_there ((sum l which mw wm).read i s) ≡ case_is l i s
    sum_is = there_next (some_read l i s) (made l) ∙ some_is l i s

    pub sum_has : {t : T} → (sum l which mw wm).read i s ≡ some t → CaseHas l i s t
    sum_has {t} e = next_some (some_read l i s) (λ x. some (made l x)) e (λ x h k. subst (CaseHas l i s) (some-injective (made l x) t k) (some_has l i s x h))

pub kinds_is : {A : Type 0} (e : Enum A) (i : ℕ) (s : List ℕ) → is_there ((kinds e).read i s) ≡ (ltb i (length e.all) && eqb (length s) 0)
kinds_is e i [] = elem_there e.all i ∙ sym (and-true (ltb i (length e.all)))
kinds_is e i (b ∷ s) = sym (ap (λ (t : Bool). ltb i (length e.all) && t) (eqb-suc-zero (length s)) ∙ and-false (ltb i (length e.all)))

pub recode_is : {A T : Type 0} (c : Coded A) (f : A → T) (g : T → A) (fg : (t : T) → f (g t) ≡ t) (gf : (a : A) → g (f a) ≡ a) (i : ℕ) (s : List ℕ)
    → is_there ((recode c f g fg gf).read i s) ≡ is_there (c.read i s)
recode_is c f g fg gf i s = there_next (c.read i s) f

pub either_is : {A B : Type 0} (c : Coded A) (d : Coded B) (i : ℕ) (s : List ℕ)
    → is_there ((either c d).read i s) ≡ cond (ltb i c.count) (is_there (c.read i s)) (is_there (d.read (i - c.count) s))
either_is {A} {B} c d i s = go (ltb i c.count)
  where
    go : (t : Bool) → is_there {A = A ⊎ B} (cond t (next (c.read i s) (λ a. some (inl a))) (next (d.read (i - c.count) s) (λ b. some (inr b)))) ≡ cond t (is_there (c.read i s)) (is_there (d.read (i - c.count) s))
    go true = there_next (c.read i s) inl
    go false = there_next (d.read (i - c.count) s) inr
