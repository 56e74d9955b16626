-- What bytes hold, and a loop over the parts of a list by the values that they hold.
-- Assumes nothing.
use Rattle.std.specs.Prelude.{◌≡◌, refl, Bool, true, List, [], ◌∷◌, ℕ, ◌+◌, ◌-◌, ◌≤◌, ◌<◌, length, take, drop, get_or}
use Rattle.std.proofs.Common.{sym, ap, ◌∙◌, add-one, arith, length-drop, drop_of_length-le, drop-cons}
use Rattle.std.proofs.Math.Option.{some, some-injective}
use Rattle.bytes_format.specs.Format.{Format}
use Rattle.bytes_format.proofs.Formats.{list_of, pieces}
use Rattle.bytes_bundle.specs.Bundle.{is_there, parts_of, IsBundle, PartAt, Stepped}
use Rattle.bytes_bundle.specs.Decides.{and_of}
use Rattle.bytes_bundle.specs.Laws.{all, some_there, there_some, list_is, Each, list_values}

-- s holds the value v
abbrev pub Holds : {A : Type 0} → Format A → List ℕ → A → Type 0
Holds f s v = f.read s ≡ some v

-- s holds some value
pub record Is {A : Type 0} (f : Format A) (s : List ℕ) : Type 0 where
  pub there : is_there (f.read s) ≡ true

pub is_held : {A : Type 0} {f : Format A} {s : List ℕ} {v : A} → Holds f s v → Is f s
is_held h = record { there = there_some h }

-- s holds a value of which t says yes: one case of a sum
pub record Shows {A : Type 0} (f : Format A) (t : A → Bool) (s : List ℕ) : Type 0 where
  pub there : is_there (f.read s) ≡ true
  pub case : (v : A) → Holds f s v → t v ≡ true

-- the same bytes hold the same
pub same : {A : Type 0} (f : Format A) {p q : List ℕ} {v : A} → p ≡ q → Holds f q v → Holds f p v
same f h e = ap f.read h ∙ e

-- with the value in hand
pub held : {A C : Type 0} {f : Format A} {s : List ℕ} → Is f s → ((v : A) → Holds f s v → C) → C
held {f = f} {s = s} i k = some_there (f.read s) i.there k

-- bytes hold one value
pub held_once : {A : Type 0} (f : Format A) {s : List ℕ} {v w : A} → Holds f s v → Holds f s w → v ≡ w
held_once f {v = v} {w = w} h k = some-injective v w (sym h ∙ k)

-- ---- lists, with counts of w bytes

pub list_bundle_by : {A : Type 0} (w : ℕ) (f : Format A) {s : List ℕ} → Is (list_of w f) s → IsBundle w s
list_bundle_by w f {s} i = record { there = (and_of (is_there ((pieces w).read s)) (all (λ p. is_there (f.read p)) (parts_of w s)) (sym (list_is w f s) ∙ i.there)).0 }

-- counts of 2 bytes, as the statement and the catalogue have; so are `Along` and `Left`
pub list_bundle : {A : Type 0} (f : Format A) {s : List ℕ} → Is (list_of 2 f) s → IsBundle 2 s
list_bundle f i = list_bundle_by 2 f i

pub list_count : {A : Type 0} (f : Format A) (s : List ℕ) {vs : List A} → Holds (list_of 2 f) s vs → length vs ≡ length (parts_of 2 s)
list_count f s h = (list_values 2 f s h).count

-- a loop over the n parts of s, which has reached part i at byte `at`
pub record AlongBy (w : ℕ) (s : List ℕ) (n i at : ℕ) : Type 0 where
  pub bundle : IsBundle w s
  pub count : n ≡ length (parts_of w s)
  pub here : PartAt w s i at

abbrev pub Along : List ℕ → ℕ → ℕ → ℕ → Type 0
Along = AlongBy 2

pub along : {A : Type 0} (f : Format A) {w : ℕ} {s : List ℕ} {n at : ℕ} → Is (list_of w f) s → n ≡ length (parts_of w s) → PartAt w s 0 at → AlongBy w s n 0 at
along f {w} i k h = record { bundle = list_bundle_by w f i; count = k; here = h }

pub along_on : {w : ℕ} {s : List ℕ} {n i at e : ℕ} → AlongBy w s n i at → Stepped w s i at e → AlongBy w s n (i + 1) e
along_on a d = record { bundle = a.bundle; count = a.count; here = d.next }

-- the value of the part that the loop has reached
pub record Turn {A : Type 0} (f : Format A) (s : List ℕ) (vs : List A) (i at e : ℕ) : Type 0 where
  pub value : A
  pub holds : Holds f (take (e - at) (drop at s)) value
  pub rest : drop i vs ≡ value ∷ drop (i + 1) vs

each_turn : {A : Type 0} {f : Format A} {l : List (List ℕ)} {vs : List A} (i : ℕ) → Each f l vs → i < length l
    → (v : A) × (Holds f (get_or l i []) v) × (drop i vs ≡ v ∷ drop (i + 1) vs)
each_turn {A} {f} {l} {vs} i r h = go (drop i vs) refl
  where
    go : (m : List A) → drop i vs ≡ m → (v : A) × (Holds f (get_or l i []) v) × (drop i vs ≡ v ∷ drop (i + 1) vs)
    go [] e = absurd (omega (arith, length-drop i vs, ap length e, r.count))
    go (x ∷ m) e = (get_or vs i x, r.value i x h, drop-cons vs i x (omega (arith, r.count)) ∙ ap (λ (k : ℕ). get_or vs i x ∷ drop k vs) (sym (add-one i)))

module _ {A : Type 0} {f : Format A} {w : ℕ} {s : List ℕ} {i at e : ℕ} (d : Stepped w s i at e) where
  pub turn : {vs : List A} → Holds (list_of w f) s vs → Turn f s vs i at e
  turn h =
      let t = each_turn i (list_values w f s h) (omega (arith, d.next.few)) in
      record { value = t.0; holds = ap f.read d.is ∙ t.1; rest = t.2 }

  pub part_is : Is (list_of w f) s → Is f (take (e - at) (drop at s))
  part_is k = held k (λ vs h. is_held (turn h).holds)

-- what a loop has still to find: F of the values from number i on is F of all of them
pub record LeftBy {A B : Type 0} (w : ℕ) (f : Format A) (F : ℕ → List A → B) (s : List ℕ) (i : ℕ) : Type 0 where
  pub is : (vs : List A) → Holds (list_of w f) s vs → F 0 vs ≡ F i (drop i vs)

abbrev pub Left : {A B : Type 0} → Format A → (ℕ → List A → B) → List ℕ → ℕ → Type 0
Left = LeftBy 2

pub left : {A B : Type 0} {w : ℕ} {f : Format A} {F : ℕ → List A → B} {s : List ℕ} → LeftBy w f F s 0
left = record { is = λ vs h. refl }

module _ {A B : Type 0} {w : ℕ} {f : Format A} {F : ℕ → List A → B} {s : List ℕ} {i : ℕ} (k : LeftBy w f F s i) where
  module _ {at e : ℕ} (d : Stepped w s i at e) where
    pub left_turn : (vs : List A) (h : Holds (list_of w f) s vs) → F 0 vs ≡ F i ((turn {f = f} d h).value ∷ drop (i + 1) vs)
    left_turn vs h = k.is vs h ∙ ap (F i) (turn {f = f} d h).rest

    -- a value that is passed, and one that decides
    pub left_on : ((v : A) (l : List A) → Holds f (take (e - at) (drop at s)) v → F i (v ∷ l) ≡ F (i + 1) l) → LeftBy w f F s (i + 1)
    left_on g = record { is = λ vs h. left_turn vs h ∙ g (turn d h).value (drop (i + 1) vs) (turn d h).holds }

    pub left_stop : {x : B} → ((v : A) (l : List A) → Holds f (take (e - at) (drop at s)) v → F i (v ∷ l) ≡ x) → (vs : List A) → Holds (list_of w f) s vs → F 0 vs ≡ x
    left_stop g vs h = left_turn vs h ∙ g (turn d h).value (drop (i + 1) vs) (turn d h).holds

  -- no value is left
  pub left_end : {n at : ℕ} → AlongBy w s n i at → n ≤ i → (vs : List A) → Holds (list_of w f) s vs → F 0 vs ≡ F i []
  left_end a l vs h =
      let z : length vs ≤ i = omega (arith, a.count, (list_values w f s h).count) in
      k.is vs h ∙ ap (F i) (drop_of_length-le vs {i = i} z)
