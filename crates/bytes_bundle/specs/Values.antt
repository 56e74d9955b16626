-- What a value that was read tells of the bytes that it was read from: codes, marks, and what stands behind them.
-- Assumes nothing.
use Rattle.std.specs.Prelude.{◌≡◌, refl, Bool, true, false, cond, not, ◌⊎◌, List, [], ◌∷◌, ℕ, zero, suc, ◌+◌, ◌<◌, length, drop, get_or, eqb}
use Rattle.std.proofs.Common.{sym, ◌∙◌, ap, inl, inr, arith, length-drop, drop-drop, get_or-drop}
use Rattle.std.proofs.Math.Option.{Option, none, some, none-ne-some, some-injective}
use Rattle.std.proofs.Math.ListN.{get_elem?}
use Rattle.std.proofs.Math.Dec.{eqb-suc-zero}
use Rattle.bytes_utf8.specs.Decide.{is_utf8}
use Rattle.bytes_format.specs.Format.{Format, Fixed, Enum}
use Rattle.bytes_format.specs.Ways.{next, optional_read}
use Rattle.bytes_format.proofs.Laws.{next_some, at_place}
use Rattle.bytes_format.proofs.Formats.{text, nothing, code, bools, mark, headed}
use Rattle.bytes_format.proofs.Sums.{Case, case, Some, made, spread, sum, choice}
use Rattle.bytes_bundle.specs.Bundle.{is_there}
use Rattle.bytes_bundle.specs.Fields.{Spot, code_spot, both_look, field_value, headed_value, choice_value, CaseHas, sum_has}

-- a value that was made of another
pub mapped_value : {A B : Type 0} (o : Option A) (f : A → B) {b : B} → next o (λ a. some (f a)) ≡ some b → (a : A) × (o ≡ some a) × (f a ≡ b)
mapped_value o f {b} e = next_some o (λ a. some (f a)) e (λ a h k. (a, h, some-injective (f a) b k))

-- a text holds itself
pub text_value : (s : List ℕ) {t : List ℕ} → text.read s ≡ some t → s ≡ t
text_value s {t} e = go (is_utf8 s) e
  where
    go : (b : Bool) → cond b (some s) none ≡ some t → s ≡ t
    go true h = some-injective s t h
    go false h = absurd (none-ne-some t h)

-- ---- fields

pub code_index : {A : Type 0} (e : Enum A) (i : ℕ) {a : A} → get_elem? e.all i ≡ some a → i ≡ e.index a
code_index e i {a} h = sym (at_place e i a h).0

pub mark_is : (b : ℕ) {m : Bool} → get_elem? bools.all b ≡ some m → eqb b 1 ≡ m
mark_is b {m} h = ap (λ (i : ℕ). eqb i 1) (code_index bools b h) ∙ go m
  where
    go : (m : Bool) → eqb (bools.index m) 1 ≡ m
    go false = refl
    go true = refl

pub both_value : {A B : Type 0} {f : Fixed A} {g : Fixed B} (p : Spot f) (q : Spot g) (at : ℕ) (s : List ℕ) {v : A × B} → both_look p q at s ≡ some v
    → (p.look at s ≡ some v.0) × (q.look (at + f.width) s ≡ some v.1)
both_value {A} {B} {f = f} p q at s {v} e =
    next_some (p.look at s) (λ a. next (q.look (at + f.width) s) (λ b. some (a, b))) e (λ a e₁ h.
    next_some (q.look (at + f.width) s) (λ b. some (a, b)) h (λ b e₂ k.
    let z : (a, b) ≡ v = some-injective (a, b) v k in
    (e₁ ∙ ap (λ (x : A × B). some x.0) z, e₂ ∙ ap (λ (x : A × B). some x.1) z)))

-- one code alone
pub record LoneCode (s : List ℕ) (i : ℕ) : Type 0 where
  pub wide : length s ≡ 1
  pub is : get_or s 0 0 ≡ i

pub lone_code : {A : Type 0} (e : Enum A) (s : List ℕ) {a : A} → (code e).form.read s ≡ some a → LoneCode s (e.index a)
lone_code e s h = let k = field_value (code_spot e) s h in record { wide = k.0; is = code_index e (get_or s 0 0) k.1 }

-- one mark alone
pub record LoneMark (s : List ℕ) (m : Bool) : Type 0 where
  pub wide : length s ≡ 1
  pub is : eqb (get_or s 0 0) 1 ≡ m

pub lone_mark : (s : List ℕ) {m : Bool} → mark.form.read s ≡ some m → LoneMark s m
lone_mark s h = let k = field_value (code_spot bools) s h in record { wide = k.0; is = mark_is (get_or s 0 0) k.1 }

-- ---- a mark, and something behind it

pub record MarkedHas {A : Type 0} (g : Format A) (s : List ℕ) (m : Bool) (a : A) : Type 0 where
  pub wide : 0 < length s
  pub mark : eqb (get_or s 0 0) 1 ≡ m
  pub behind : g.read (drop 1 s) ≡ some a

module _ {A : Type 0} (g : Format A) (s : List ℕ) where
  pub marked_value : {v : Bool × A} → (headed mark (λ m. g)).read s ≡ some v → MarkedHas g s v.0 v.1
  marked_value e =
      let k = headed_value (code_spot bools) s (λ m. g) e in
      record { wide = k.0; mark = mark_is (get_or s 0 0) k.1; behind = k.2 }

  -- the same where a mark and a thing make a value
  pub via_marked_value : {B : Type 0} (f : Bool × A → B) {b : B} → next ((headed mark (λ m. g)).read s) (λ p. some (f p)) ≡ some b
      → (v : Bool × A) × MarkedHas g s v.0 v.1 × (f v ≡ b)
  via_marked_value f e = let a = mapped_value ((headed mark (λ m. g)).read s) f e in (a.0, marked_value a.1, a.2)

-- the same behind a code
pub record CodedHas {A : Type 0} (g : Format A) (s : List ℕ) (m : Bool) (a : A) : Type 0 where
  pub wide : 1 < length s
  pub mark : eqb (get_or s 1 0) 1 ≡ m
  pub behind : g.read (drop 2 s) ≡ some a

pub behind_code : {A : Type 0} (g : Format A) (s : List ℕ) {m : Bool} {a : A} → MarkedHas g (drop 1 s) m a → CodedHas g s m a
behind_code g s k = record {
  wide = omega (arith, length-drop 1 s, k.wide);
  mark = rw (get_or-drop) at k.mark;
  behind = rw (drop-drop) at k.behind;
}

-- ---- a code, and its case

module _ {T : Type 0} (l : List (Case T)) (which : T → Some l) (mw : (t : T) → made l (which t) ≡ t)
    (wm : spread l (λ x. which (made l x)) ≡ spread l (λ x. x)) (few : _) (s : List ℕ) where
  pub chosen_value : {t : T} → (choice (sum l which mw wm) few).read s ≡ some t → (0 < length s) × CaseHas l (get_or s 0 0) (drop 1 s) t
  chosen_value e =
      let k = choice_value (sum l which mw wm) few s e in
      (k.0, sum_has l which mw wm (get_or s 0 0) (drop 1 s) k.1)

-- of two cases: the one with nothing behind it, or the other
pub two_cases : {A T : Type 0} (t₀ : T) (g : Format A) (make : A → T) (i : ℕ) (s : List ℕ) {t : T} → CaseHas (case nothing (λ u. t₀) ∷ case g make ∷ []) i s t
    → ((i ≡ 0) × (t₀ ≡ t)) ⊎ ((i ≡ 1) × ((x : A) × (g.read s ≡ some x) × (make x ≡ t)))
two_cases t₀ g make zero s h = inl (refl, h.2)
two_cases t₀ g make (suc zero) s h = inr (refl, h)
two_cases t₀ g make (suc (suc i)) s h = absurd h

-- ---- nothing at all, or a value

pub optional_value : {A : Type 0} (f : Format A) (s : List ℕ) {o : Option A} {a : A} → optional_read f s ≡ some o → o ≡ some a → f.read s ≡ some a
optional_value {A} f [] {o} {a} e h = let z : some none ≡ some (some a) = e ∙ ap some h in absurd (none-ne-some a (some-injective none (some a) z))
optional_value f (b ∷ s) {o} {a} e h =
    next_some (f.read (b ∷ s)) (λ x. some (some x)) e (λ x e₁ k. e₁ ∙ some-injective (some x) o k ∙ h)

-- there is a byte exactly where there is a value
pub optional_present : {A : Type 0} (f : Format A) (s : List ℕ) {o : Option A} → optional_read f s ≡ some o → not (eqb (length s) 0) ≡ is_there o
optional_present f [] {o} e = ap is_there (some-injective none o e)
optional_present f (b ∷ s) {o} e =
    next_some (f.read (b ∷ s)) (λ x. some (some x)) e (λ x e₁ k. ap not (eqb-suc-zero (length s)) ∙ ap is_there (some-injective (some x) o k))
