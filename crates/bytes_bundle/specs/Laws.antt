-- What a reader of bundles cites: whether bytes read, as a test for each thing that the code looks at, and what was read, as an equation for each part.
-- Assumes nothing.
use Rattle.std.proofs.Math.Path.{◌≡◌, refl, sym, ap}
use Rattle.std.proofs.Common.{ap₂, ◌∙◌, subst, zero-add, suc-add, arith, length-drop, drop_of_length-le, drop-cons, length-take-le, ltb-true, ltb-false, eqb-true}
use Rattle.std.specs.Prelude.{Bool, false, ◌&&◌, ℕ, zero, suc, ◌+◌, ◌-◌, ◌≤◌, ◌<◌, length, take, drop, get_or, ltb, eqb}
use Rattle.std.proofs.Math.Bool.{true, and-true, and_assoc}
use Rattle.std.proofs.Math.Option.{Option, none, some, none-ne-some, some-injective}
use mathlib.Core.List.{List, [], ◌∷◌}
use Rattle.std.proofs.Math.Numerals.{add-one}
use Rattle.std.proofs.Math.Seq.{take-nil}
use Rattle.std.proofs.Math.Dec.{eqb-zero-suc, eqb-suc-zero, eqb-suc-suc}
use Rattle.bytes_format.specs.Format.{Format, Parts}
use Rattle.bytes_format.specs.Ways.{next, joined, each_join, end_join, and_join}
use Rattle.bytes_format.proofs.Laws.{next_some}
use Rattle.bytes_format.proofs.Formats.{pieces, bundle, list_of, each, end, ◌and◌}
use Rattle.bytes_bundle.specs.Decides.{Decides, all_of, all_cons, and_of}
use Rattle.bytes_bundle.specs.Bundle.{is_there, or_nil, parts_of, IsBundle, is_record, IsRecord, PartAt, Stepped}

-- ---- what was read

pub there_some : {A : Type 0} {o : Option A} {a : A} → o ≡ some a → is_there o ≡ true
there_some e = ap is_there e

-- something that is there is some value
pub some_there : {A C : Type 0} (o : Option A) → is_there o ≡ true → ((a : A) → o ≡ some a → C) → C
some_there none e k = let z : ◌≡◌ {A = ℕ} 0 1 = cc in absurd (omega arith)
some_there (some a) e k = k a refl

pub there_next : {A B : Type 0} (o : Option A) (f : A → B) → is_there (next o (λ a. some (f a))) ≡ is_there o
there_next none f = refl
there_next (some a) f = refl

pub drop_take : (m n : ℕ) (s : List ℕ) → drop m (take (m + n) s) ≡ take n (drop m s)
drop_take zero n s = rw (zero-add n)
drop_take (suc m) n [] = rw (suc-add m n, take-nil n)
drop_take (suc m) n (x ∷ s) = rw (suc-add m n) (drop_take m n s)

-- t of each element
abbrev pub all : {A : Type 0} → (A → Bool) → List A → Bool
all t [] = true
all t (a ∷ l) = t a && all t l

-- ---- bundles

module _ {A : Type 0} (w : ℕ) (p : Parts A) (s : List ℕ) where
  pub bundle_is : is_there ((bundle w p).read s) ≡ (is_there ((pieces w).read s) && is_there (p.join (parts_of w s)))
  unfolding parts_of
  bundle_is = go ((pieces w).read s)
    where
      go : (o : Option (List (List ℕ))) → is_there (next o p.join) ≡ (is_there o && is_there (p.join (or_nil o)))
      go none = refl
      go (some l) = refl

  -- no bundle: no value
  pub bundle_not : is_there ((pieces w).read s) ≡ false → is_there ((bundle w p).read s) ≡ false
  bundle_not e = bundle_is ∙ ap (λ (t : Bool). t && is_there (p.join (parts_of w s))) e

  pub bundle_read : IsBundle w s → (bundle w p).read s ≡ p.join (parts_of w s)
  unfolding parts_of
  bundle_read b = go ((pieces w).read s) b.there
    where
      go : (o : Option (List (List ℕ))) → is_there o ≡ true → next o p.join ≡ p.join (or_nil o)
      go none e = let z : ◌≡◌ {A = ℕ} 0 1 = cc in absurd (omega arith)
      go (some l) e = refl

  pub bundle_there : {v : A} → (bundle w p).read s ≡ some v → IsBundle w s
  bundle_there {v} e = record { there = go ((pieces w).read s) e }
    where
      go : (o : Option (List (List ℕ))) → next o p.join ≡ some v → is_there o ≡ true
      go none e = absurd (none-ne-some v e)
      go (some l) e = refl

  pub bundle_value : {v : A} → (bundle w p).read s ≡ some v → p.join (parts_of w s) ≡ some v
  bundle_value e = sym (bundle_read (bundle_there e)) ∙ e

module _ {A B : Type 0} (f : Format A) (p : Parts B) where
  there_and : (o : Option A) (r : Option B) → is_there {A = A × B} (next o (λ a. next r (λ b. some (a, b)))) ≡ (is_there o && is_there r)
  there_and none r = refl
  there_and (some a) none = refl
  there_and (some a) (some b) = refl

  pub and_is : (x : List ℕ) (l : List (List ℕ)) → is_there ((f and p).join (x ∷ l)) ≡ (is_there (f.read x) && is_there (p.join l))
  and_is x l = there_and (f.read x) (p.join l)

pub end_is : (l : List (List ℕ)) → is_there (end.join l) ≡ eqb (length l) 0
end_is [] = refl
end_is (x ∷ l) = sym (eqb-suc-zero (length l))

-- n parts from number i on, by their numbers
abbrev pub spelled : ℕ → ℕ → List (List ℕ) → List (List ℕ)
spelled i zero l = []
spelled i (suc n) l = get_or l i [] ∷ spelled (suc i) n l

pub spelled_is : (n i : ℕ) (l : List (List ℕ)) → length (drop i l) ≡ n → drop i l ≡ spelled i n l
spelled_is zero i l h = let k : length l ≤ i = omega (arith, length-drop i l) in drop_of_length-le l {i = i} k
spelled_is (suc n) i l h =
    let k : i < length l = omega (arith, length-drop i l) in
    let d : drop i l ≡ get_or l i [] ∷ drop (suc i) l = drop-cons l i [] k in
    d ∙ ap (λ (m : List (List ℕ)). get_or l i [] ∷ m) (spelled_is n (suc i) l (omega (arith, ap length d)))

-- where the last part ends, the bytes end
pub part_end : {w : ℕ} {s : List ℕ} {i at : ℕ} → PartAt w s i at → length (parts_of w s) ≤ i → at ≡ length s
part_end {w} {s} {i} {at} p h =
    let z : length (drop at s) ≡ 0 = ap length (sym p.rest ∙ ap joined (drop_of_length-le (parts_of w s) {i = i} h)) in
    omega (arith, length-drop at s, p.within)

pub step_size : {w : ℕ} {s : List ℕ} {i at e : ℕ} → Stepped w s i at e → length (take (e - at) (drop at s)) ≡ e - at
step_size {s = s} {at = at} {e = e} d = length-take-le (e - at) (drop at s) (omega (arith, length-drop at s, d.forth, d.within))

-- ---- lists

-- the parts from number i on all pass a test
unfoldable pub from : ℕ → (List ℕ → Bool) → List ℕ → ℕ → Bool
from w t s i = all t (drop i (parts_of w s))

-- a loop over the parts: `from` the part that comes next is what the loop has still to find
module _ (w : ℕ) (t : List ℕ → Bool) (s : List ℕ) where
  from_turn : (i : ℕ) → i < length (parts_of w s) → from w t s i ≡ (t (get_or (parts_of w s) i []) && from w t s (i + 1))
  unfolding from
  from_turn i h = rw (drop-cons (parts_of w s) i [] h, add-one i)

  module _ {i at e : ℕ} (d : Stepped w s i at e) where
    within : i < length (parts_of w s)
    within = omega (arith, d.next.few)

    turn : from w t s i ≡ (t (take (e - at) (drop at s)) && from w t s (i + 1))
    turn = from_turn i within ∙ ap (λ (p : List ℕ). t p && from w t s (i + 1)) (sym d.is)

    pub hit : t (take (e - at) (drop at s)) ≡ false → from w t s i ≡ false
    hit f = turn ∙ ap (λ (b : Bool). b && from w t s (i + 1)) f

    pub pass : t (take (e - at) (drop at s)) ≡ true → from w t s i ≡ from w t s (i + 1)
    pass f = turn ∙ ap (λ (b : Bool). b && from w t s (i + 1)) f

  pub over : (i : ℕ) → length (parts_of w s) ≤ i → from w t s i ≡ true
  unfolding from
  over i h = rw (drop_of_length-le (parts_of w s) {i = i} h)

module _ {A : Type 0} (f : Format A) where
  each_is : (l : List (List ℕ)) → is_there (each_join f l) ≡ all (λ p. is_there (f.read p)) l
  each_is [] = refl
  each_is (p ∷ l) = go (f.read p) (each_join f l) ∙ ap (λ (b : Bool). is_there (f.read p) && b) (each_is l)
    where
      go : (o : Option A) (r : Option (List A)) → is_there (next o (λ a. next r (λ m. some (a ∷ m)))) ≡ (is_there o && is_there r)
      go none r = refl
      go (some a) none = refl
      go (some a) (some m) = refl

  -- a value for each part
  pub record Each (l : List (List ℕ)) (vs : List A) : Type 0 where
    pub count : length vs ≡ length l
    pub value : (i : ℕ) (d : A) → i < length l → f.read (get_or l i []) ≡ some (get_or vs i d)

  each_cons : (p : List ℕ) (l : List (List ℕ)) (a : A) (vs : List A) → f.read p ≡ some a → Each l vs → Each (p ∷ l) (a ∷ vs)
  each_cons p l a vs e r = record { count = ap suc r.count; value = at }
    where
      at : (i : ℕ) (d : A) → i < length (p ∷ l) → f.read (get_or (p ∷ l) i []) ≡ some (get_or (a ∷ vs) i d)
      at zero d h = e
      at (suc i) d h = r.value i d (omega arith)

  each_values : (l : List (List ℕ)) (vs : List A) → each_join f l ≡ some vs → Each l vs
  each_values [] vs e = subst (Each []) (some-injective [] vs e) (record { count = refl; value = λ i d h. absurd (omega arith) })
  each_values (p ∷ l) vs e =
      next_some (f.read p) (λ a. next (each_join f l) (λ m. some (a ∷ m))) e
      (λ a e₁ h. next_some (each_join f l) (λ m. some (a ∷ m)) h
      (λ m e₂ k. subst (Each (p ∷ l)) (some-injective (a ∷ m) vs k) (each_cons p l a m e₁ (each_values l m e₂))))

module _ {A : Type 0} (w : ℕ) (f : Format A) (s : List ℕ) where
  pub list_is : is_there ((list_of w f).read s) ≡ (is_there ((pieces w).read s) && all (λ p. is_there (f.read p)) (parts_of w s))
  list_is = bundle_is w (each f) s ∙ ap (λ (b : Bool). is_there ((pieces w).read s) && b) (each_is f (parts_of w s))

  pub list_not : is_there ((pieces w).read s) ≡ false → is_there ((list_of w f).read s) ≡ false
  list_not = bundle_not w (each f) s

  pub list_from : is_there ((pieces w).read s) ≡ true → is_there ((list_of w f).read s) ≡ from w (λ p. is_there (f.read p)) s 0
  unfolding from
  list_from e = list_is ∙ ap (λ (b : Bool). b && all (λ p. is_there (f.read p)) (parts_of w s)) e

  pub list_values : {vs : List A} → (list_of w f).read s ≡ some vs → Each f (parts_of w s) vs
  list_values {vs} e = each_values f (parts_of w s) vs (bundle_value w (each f) s e)

-- a loop over the n parts, which has reached part i: X is what the parts that are left decide
pub record Walk (w : ℕ) (t : List ℕ → Bool) (s : List ℕ) (X : Bool) (n i at : ℕ) : Type 0 where
  pub bundle : IsBundle w s
  pub count : n ≡ length (parts_of w s)
  pub here : PartAt w s i at
  pub left : X ≡ from w t s i

-- before the first turn, over a list of f whose parts the code tests by t
pub walk : {A : Type 0} {w n at : ℕ} {s : List ℕ} (f : Format A) (t : List ℕ → Bool) → ((p : List ℕ) → is_there (f.read p) ≡ t p)
    → is_there ((pieces w).read s) ≡ true → n ≡ length (parts_of w s) → PartAt w s 0 at → Walk w t s (is_there ((list_of w f).read s)) n 0 at
unfolding from
walk {w = w} {s = s} f t same e k h =
    record { bundle = record { there = e }; count = k; here = h; left = list_from w f s e ∙ all_same (parts_of w s) }
  where
    all_same : (l : List (List ℕ)) → all (λ p. is_there (f.read p)) l ≡ all t l
    all_same [] = refl
    all_same (p ∷ l) = ap₂ (λ (a b : Bool). a && b) (same p) (all_same l)

module _ {w : ℕ} {t : List ℕ → Bool} {s : List ℕ} {X : Bool} {n i at : ℕ} (k : Walk w t s X n i at) where
  module _ {e : ℕ} (d : Stepped w s i at e) where
    -- a part that fails, and one that passes
    pub walk_stop : t (take (e - at) (drop at s)) ≡ false → false ≡ X
    walk_stop f = sym (k.left ∙ hit w t s d f)

    pub walk_on : t (take (e - at) (drop at s)) ≡ true → Walk w t s X n (i + 1) e
    walk_on f = record { bundle = k.bundle; count = k.count; here = d.next; left = k.left ∙ pass w t s d f }

  -- no part is left
  pub walk_end : n ≤ i → true ≡ X
  walk_end h = sym (k.left ∙ over w t s i (omega (arith, k.count)))

-- the value of the part that a loop has reached
pub list_at : {A : Type 0} {w : ℕ} {f : Format A} {s : List ℕ} {vs : List A} {i at e : ℕ} → Each f (parts_of w s) vs → Stepped w s i at e
    → (d : A) → f.read (take (e - at) (drop at s)) ≡ some (get_or vs i d)
list_at {f = f} {i = i} r k d = ap f.read k.is ∙ r.value i d (omega (arith, k.next.few))

-- ---- records

-- the tests of the parts from number i on, one for each part
abbrev pub tried : ℕ → List (List ℕ → Bool) → List (List ℕ) → List Bool
tried i [] l = []
tried i (t ∷ ts) l = t (get_or l i []) ∷ tried (suc i) ts l

-- the parts of a record by their numbers: `part f (part g done)` for `f and g and end`; `part_as f t same` where the code tests part f by t
pub record Places {A : Type 0} (p : Parts A) : Type 1 where
  -- a test for each part
  pub tests : List (List ℕ → Bool)
  -- what the parts from number i on say of a value: an equation for each part
  pub Are : ℕ → List (List ℕ) → A → Type 0
  pub is : (l : List (List ℕ)) (i : ℕ) → is_there (p.join (drop i l)) ≡ (eqb (length (drop i l)) (length tests) && all_of (tried i tests l))
  pub value : (l : List (List ℕ)) (i : ℕ) (v : A) → p.join (drop i l) ≡ some v → Are i l v
  pub make : (l : List (List ℕ)) (i : ℕ) (v : A) → length (drop i l) ≡ length tests → Are i l v → p.join (drop i l) ≡ some v

pub done_make : (m : List (List ℕ)) (v : Unit {0}) → length m ≡ 0 → end_join m ≡ some v
done_make [] v h = refl
done_make (x ∷ m) v h = absurd (omega arith)

abbrev pub done : Places end
done = record {
  tests = [];
  Are = λ i l v. Unit {0};
  is = λ l i. end_is (drop i l) ∙ sym (and-true (eqb (length (drop i l)) 0));
  value = λ l i v e. tt;
  make = λ l i v h a. done_make (drop i l) v h;
}

module _ {A B : Type 0} (f : Format A) (t : List ℕ → Bool) (same : (x : List ℕ) → is_there (f.read x) ≡ t x) {p : Parts B} (q : Places p) where
  and_swap : (a b c : Bool) → (a && (b && c)) ≡ (b && (a && c))
  and_swap true b c = refl
  and_swap false true c = refl
  and_swap false false c = refl

  pub part_is : (l : List (List ℕ)) (i : ℕ) → is_there ((f and p).join (drop i l)) ≡ (eqb (length (drop i l)) (suc (length q.tests)) && all_of (tried i (t ∷ q.tests) l))
  part_is l i = go (ltb i (length l)) refl
    where
      n : ℕ
      n = length q.tests

      x : List ℕ
      x = get_or l i []

      go : (b : Bool) → ltb i (length l) ≡ b → is_there (and_join f p (drop i l)) ≡ (eqb (length (drop i l)) (suc n) && all_of (tried i (t ∷ q.tests) l))
      go true e =
          rw (all_cons (t x) (tried (suc i) q.tests l), drop-cons l i [] (ltb-true i (length l) e), eqb-suc-suc (length (drop (suc i) l)) n)
          (and_is f p x (drop (suc i) l) ∙ ap₂ (λ (a b : Bool). a && b) (same x) (q.is l (suc i))
          ∙ and_swap (t x) (eqb (length (drop (suc i) l)) n) (all_of (tried (suc i) q.tests l)))
      go false e = rw (drop_of_length-le l {i = i} (ltb-false i (length l) e), eqb-zero-suc n)

  pub part_value : (l : List (List ℕ)) (i : ℕ) (v : A × B) → (f and p).join (drop i l) ≡ some v
      → (f.read (get_or l i []) ≡ some v.0) × q.Are (suc i) l v.1
  part_value l i v e = go (ltb i (length l)) refl
    where
      go : (b : Bool) → ltb i (length l) ≡ b → (f.read (get_or l i []) ≡ some v.0) × q.Are (suc i) l v.1
      go true h =
          let k : and_join f p (get_or l i [] ∷ drop (suc i) l) ≡ some v = rw (drop-cons l i [] (ltb-true i (length l) h)) at e in
          next_some (f.read (get_or l i [])) (λ a. next (p.join (drop (suc i) l)) (λ b. some (a, b))) k
          (λ a e₁ m. next_some (p.join (drop (suc i) l)) (λ b. some (a, b)) m (λ b e₂ z.
          subst (λ (x : A × B). (f.read (get_or l i []) ≡ some x.0) × q.Are (suc i) l x.1) (some-injective (a, b) v z)
          (e₁, q.value l (suc i) b e₂)))
      go false h = absurd (none-ne-some v (rw (drop_of_length-le l {i = i} (ltb-false i (length l) h)) at e))

  pub part_make : (l : List (List ℕ)) (i : ℕ) (v : A × B) → length (drop i l) ≡ suc (length q.tests)
      → (f.read (get_or l i []) ≡ some v.0) × q.Are (suc i) l v.1 → (f and p).join (drop i l) ≡ some v
  part_make l i v h a =
      let k : i < length l = omega (arith, length-drop i l) in
      let d : drop i l ≡ get_or l i [] ∷ drop (suc i) l = drop-cons l i [] k in
      rw (d, a.0, q.make l (suc i) v.1 (omega (arith, ap length d)) a.1)

  abbrev pub part_as : Places (f and p)
  part_as = record {
    tests = t ∷ q.tests;
    Are = λ i l v. (f.read (get_or l i []) ≡ some v.0) × q.Are (suc i) l v.1;
    is = part_is;
    value = part_value;
    make = part_make;
  }

abbrev pub part : {A B : Type 0} (f : Format A) {p : Parts B} → Places p → Places (f and p)
part f q = part_as f (λ x. is_there (f.read x)) (λ x. refl) q

pub shape_decided : (w n : ℕ) (s : List ℕ) → Decides (is_record w n s) (is_there ((pieces w).read s) ∷ eqb (length (parts_of w s)) n ∷ [])
unfolding is_record
shape_decided w n s = record { is = refl }

pub is_record_lem : {w n : ℕ} {s : List ℕ} → is_record w n s ≡ true → IsRecord w n s
unfolding is_record
is_record_lem {w} {n} {s} e =
    let p = and_of (is_there ((pieces w).read s)) (eqb (length (parts_of w s)) n) e in
    record { bundle = record { there = p.0 }; count = eqb-true (length (parts_of w s)) n p.1 }

module _ {A : Type 0} (w : ℕ) {p : Parts A} (q : Places p) (s : List ℕ) where
  pub record_is : is_there ((bundle w p).read s) ≡ (is_record w (length q.tests) s && all_of (tried 0 q.tests (parts_of w s)))
  unfolding is_record
  record_is =
      bundle_is w p s ∙ ap (λ (b : Bool). is_there ((pieces w).read s) && b) (q.is (parts_of w s) 0)
      ∙ sym (and_assoc (is_there ((pieces w).read s)) (eqb (length (parts_of w s)) (length q.tests)) (all_of (tried 0 q.tests (parts_of w s))))

  -- is it a record, and each part in turn
  abbrev pub record_tests : List Bool
  record_tests = is_record w (length q.tests) s ∷ tried 0 q.tests (parts_of w s)

  pub record_decided : Decides (is_there ((bundle w p).read s)) record_tests
  record_decided = record { is = record_is ∙ sym (all_cons (is_record w (length q.tests) s) (tried 0 q.tests (parts_of w s))) }

  pub record_there : {v : A} → (bundle w p).read s ≡ some v → IsRecord w (length q.tests) s
  record_there e = is_record_lem (and_of (is_record w (length q.tests) s) (all_of (tried 0 q.tests (parts_of w s))) (sym record_is ∙ there_some e)).0

  -- an equation for each part
  pub record_values : {v : A} → (bundle w p).read s ≡ some v → q.Are 0 (parts_of w s) v
  record_values {v} e = q.value (parts_of w s) 0 v (bundle_value w p s e)

  pub record_make : (v : A) → IsRecord w (length q.tests) s → q.Are 0 (parts_of w s) v → (bundle w p).read s ≡ some v
  record_make v r a = bundle_read w p s r.bundle ∙ q.make (parts_of w s) 0 v r.count a

  -- the same where a record's parts make a value: `via (record_of w p) f ..` is read so
  module _ {B : Type 0} (f : A → B) where
    pub via_record_decided : Decides (is_there (next ((bundle w p).read s) (λ a. some (f a)))) record_tests
    via_record_decided = record { is = there_next ((bundle w p).read s) f ∙ record_decided.is }

    pub via_record_there : {b : B} → next ((bundle w p).read s) (λ a. some (f a)) ≡ some b → IsRecord w (length q.tests) s
    via_record_there e = next_some ((bundle w p).read s) (λ a. some (f a)) e (λ a h k. record_there h)

    pub via_record_value : {b : B} → next ((bundle w p).read s) (λ a. some (f a)) ≡ some b → (a : A) × (q.Are 0 (parts_of w s) a) × (f a ≡ b)
    via_record_value {b} e = next_some ((bundle w p).read s) (λ a. some (f a)) e (λ a h k. (a, record_values h, some-injective (f a) b k))
