-- The first entry that repeats an earlier one, found in the order in which the rules look at entries.
-- Assumes nothing.
use Rattle.std.specs.Prelude.{◌≡◌, refl, Bool, true, false, ◌||◌, List, [], ◌∷◌, ◌++◌, map, ℕ, zero, suc, ◌+◌, ◌≤◌, ◌<◌, eqb, length, take, drop, Option as Maybe, Some, None}
use Rattle.std.proofs.Common.{sym, ◌∙◌, add-one, arith, drop_of_length-le, eq-eqb, ne_eqb}
use Rattle.std.proofs.Math.Path.{ap}
use Rattle.std.proofs.Math.Bool.{cond}
use Rattle.std.proofs.Math.Option.{Option, none, some}
use Rattle.rules.specs.Lists.{Text, same, any}

-- two entries by the names that they are compared by; one without a name is like none
abbrev pub alike : Option Text → Option Text → Bool
alike none b = false
alike (some x) none = false
alike (some x) (some y) = same x y

-- of entries from number i on; `before` are those before them, the last one first
unfoldable pub repeating : ℕ → List (Option Text) → List (Option Text) → Maybe ℕ
repeating i before [] = None
repeating i before (x ∷ l) = cond (any (alike x) before) (Some i) (repeating (i + 1) (x ∷ before) l)

abbrev pub first_repeated : List (Option Text) → Maybe ℕ
first_repeated l = repeating 0 [] l

abbrev pub is_at : ℕ → Maybe ℕ → Bool
is_at i None = false
is_at i (Some k) = eqb k i

-- ---- a loop over the entries, beside the rules

module _ (i : ℕ) (before : List (Option Text)) (x : Option Text) (l : List (Option Text)) where
  pub repeat_hit : any (alike x) before ≡ true → repeating i before (x ∷ l) ≡ Some i
  unfolding repeating
  repeat_hit e = ap (λ (b : Bool). cond b (Some i) (repeating (i + 1) (x ∷ before) l)) e

  -- an entry that repeats none is passed
  pub repeat_pass : any (alike x) before ≡ false → repeating i before (x ∷ l) ≡ repeating (i + 1) (x ∷ before) l
  unfolding repeating
  repeat_pass e = ap (λ (b : Bool). cond b (Some i) (repeating (i + 1) (x ∷ before) l)) e

pub repeat_end : (i : ℕ) (before : List (Option Text)) → repeating i before [] ≡ None
unfolding repeating
repeat_end i before = refl

-- no place before i
later : (j i : ℕ) (before l : List (Option Text)) → j < i → is_at j (repeating i before l) ≡ false
unfolding repeating
later j i before [] h = refl
later j i before (x ∷ l) h = go (later j (i + 1) (x ∷ before) l (omega arith)) (any (alike x) before)
  where
    go : is_at j (repeating (i + 1) (x ∷ before) l) ≡ false → (b : Bool) → is_at j (cond b (Some i) (repeating (i + 1) (x ∷ before) l)) ≡ false
    go k true = ne_eqb i j (λ e. omega (arith, e))
    go k false = k

-- the place is entry i exactly if the entry repeats one before it: the rules' test in its turn
pub repeat_turn : (i : ℕ) (before : List (Option Text)) (x : Option Text) (l : List (Option Text)) → is_at i (repeating i before (x ∷ l)) ≡ any (alike x) before
unfolding repeating
repeat_turn i before x l = go (any (alike x) before)
  where
    go : (b : Bool) → is_at i (cond b (Some i) (repeating (i + 1) (x ∷ before) l)) ≡ b
    go true = eq-eqb i i refl
    go false = later i (i + 1) (x ∷ before) l (omega arith)

-- ---- some entry

module _ {A : Type 0} (p : A → Bool) where
  -- at the end or in front, it is the same for `any`
  pub any_last : (l : List A) (x : A) → any p (l ++ (x ∷ [])) ≡ any p (x ∷ l)
  any_last [] x = refl
  any_last (y ∷ l) x = ap (λ (b : Bool). p y || b) (any_last l x) ∙ swap (p y) (p x) (any p l)
    where
      swap : (a b c : Bool) → (a || (b || c)) ≡ (b || (a || c))
      swap true true c = refl
      swap true false c = refl
      swap false true c = refl
      swap false false c = refl

-- names that are all there
pub any_plain : (x : Text) (l : List Text) → any (alike (some x)) (map some l) ≡ any (same x) l
any_plain x [] = refl
any_plain x (y ∷ l) = ap (λ (b : Bool). same x y || b) (any_plain x l)

-- ---- lists, one entry further

module _ {A : Type 0} where
  pub take_next : (i : ℕ) (l : List A) {x : A} {m : List A} → drop i l ≡ x ∷ m → take (i + 1) l ≡ take i l ++ (x ∷ [])
  take_next i l {x} {m} e = ap (λ (k : ℕ). take k l) (add-one i) ∙ go i l e
    where
      go : (i : ℕ) (l : List A) → drop i l ≡ x ∷ m → take (suc i) l ≡ take i l ++ (x ∷ [])
      go zero l e = ap (take 1) e
      go (suc i) [] e = absurd (omega (arith, ap length e))
      go (suc i) (y ∷ l) e = ap (λ (k : List A). y ∷ k) (go i l e)

  pub drop_next : (i : ℕ) (l : List A) {x : A} {m : List A} → drop i l ≡ x ∷ m → drop (i + 1) l ≡ m
  drop_next i l {x} {m} e = ap (λ (k : ℕ). drop k l) (add-one i) ∙ go i l e
    where
      go : (i : ℕ) (l : List A) → drop i l ≡ x ∷ m → drop (suc i) l ≡ m
      go zero l e = ap (drop 1) e
      go (suc i) [] e = absurd (omega (arith, ap length e))
      go (suc i) (y ∷ l) e = go i l e

module _ {A B : Type 0} (f : A → B) where
  pub drop_map : (i : ℕ) (l : List A) → drop i (map f l) ≡ map f (drop i l)
  drop_map zero l = refl
  drop_map (suc i) [] = refl
  drop_map (suc i) (x ∷ l) = drop_map i l

  pub take_map : (i : ℕ) (l : List A) → take i (map f l) ≡ map f (take i l)
  take_map zero l = refl
  take_map (suc i) [] = refl
  take_map (suc i) (x ∷ l) = ap (λ (k : List B). f x ∷ k) (take_map i l)

-- ---- a loop over the entries that knows the place: how far it has come

-- it has reached entry i, and none before repeats an earlier one
pub record Reached (l : List (Option Text)) (i : ℕ) : Type 0 where
  pub before : List (Option Text)
  pub is : first_repeated l ≡ repeating i before (drop i l)
  pub same : (p : Option Text → Bool) → any p before ≡ any p (take i l)

pub reached_none : (l : List (Option Text)) → Reached l 0
reached_none l = record { before = []; is = refl; same = λ p. refl }

module _ {l : List (Option Text)} {i : ℕ} (r : Reached l i) {x : Option Text} {m : List (Option Text)} (d : drop i l ≡ x ∷ m) where
  -- whether the place is entry i: whether the entry repeats one before it
  pub reached_turn : is_at i (first_repeated l) ≡ any (alike x) (take i l)
  reached_turn =
      ap (is_at i) (r.is ∙ ap (repeating i r.before) d) ∙ repeat_turn i r.before x m ∙ r.same (alike x)

  pub reached_hit : any (alike x) (take i l) ≡ true → first_repeated l ≡ Some i
  reached_hit e = r.is ∙ ap (repeating i r.before) d ∙ repeat_hit i r.before x m (r.same (alike x) ∙ e)

  pub reached_on : any (alike x) (take i l) ≡ false → Reached l (i + 1)
  reached_on e = record {
    before = x ∷ r.before;
    is =
        r.is ∙ ap (repeating i r.before) d ∙ repeat_pass i r.before x m (r.same (alike x) ∙ e)
        ∙ ap (repeating (i + 1) (x ∷ r.before)) (sym (drop_next i l d));
    same = λ p. ap (λ (b : Bool). p x || b) (r.same p) ∙ sym (any_last p (take i l) x) ∙ ap (any p) (sym (take_next i l d));
  }

-- it has reached the end
pub reached_end : {l : List (Option Text)} {i : ℕ} → Reached l i → length l ≤ i → first_repeated l ≡ None
reached_end {l} {i} r h = r.is ∙ ap (repeating i r.before) (drop_of_length-le l {i = i} h) ∙ repeat_end i r.before
