-- A search for the first entry that repeats an earlier one, by the values that the list's parts hold.
-- Assumes nothing.
use mathlib.Core.Path.{◌≡◌, refl, sym, ap, ap₂, ◌∙◌}
use mathlib.Core.Bool.{Bool, true, false, ◌||◌, or-true}
use mathlib.Core.List.{List, [], ◌∷◌, map}
use mathlib.Core.Option.{Option}
use Prim.Native.Nat.{ℕ, zero, suc, ◌+◌, ◌-◌, ◌≤◌, ◌<◌}
use native.Mathlib.Omega.{arith}
use lib.ListN.{length, take, drop, length-map}
use Rattle.bytes_format.proofs.Formats.{list_of}
use Rattle.bytes_bundle.specs.Bundle.{Stepped}
use Rattle.bytes_bundle.specs.Held.{Holds, Along, Turn, turn, list_count, same}
use Rattle.rules.specs.Lists.{Text, any}
use Rattle.std.specs.Prelude.{Some, None}
use Rattle.bind_repeats.specs.declared.Of.{Of}
use Rattle.bind_repeats.specs.Repeats.{alike, any_last, take_next, drop_map, Reached, reached_none, reached_hit, reached_on, reached_end}
use Rattle.bind_repeats.specs.Entries.{Entry, form, entry, Compares, FindsRepeat}

module _ {A : Type 0} where
  any_take : (p : A → Bool) (j i : ℕ) (l : List A) (x : A) (m : List A) → drop j l ≡ x ∷ m → j < i → p x ≡ true → any p (take i l) ≡ true
  any_take p j zero l x m e h q = absurd (omega arith)
  any_take p zero (suc i) l x m e h q = ap (λ (k : List A). any p (take (suc i) k)) e ∙ ap (λ (b : Bool). b || any p (take i m)) q
  any_take p (suc j) (suc i) [] x m e h q = absurd (omega (arith, ap length e))
  any_take p (suc j) (suc i) (y ∷ l) x m e h q = ap (λ (b : Bool). p y || b) (any_take p j i l x m e (omega arith) q) ∙ or-true (p y)

-- the names of the entries
abbrev names : (o : Of) → List (Entry o) → List (Option Text)
names o vs = map (entry o) vs

-- the turn of entry i, by the names
turned : (o : Of) {s : List ℕ} {vs : List (Entry o)} {i at e : ℕ} (t : Turn (form o) s vs i at e) → drop i (names o vs) ≡ entry o t.value ∷ names o (drop (i + 1) vs)
turned o {vs = vs} {i = i} t = drop_map (entry o) i vs ∙ ap (names o) t.rest

-- a search that has reached entry i and found no repeat
pub record Searching (o : Of) (s : List ℕ) (i : ℕ) : Type 0 where
  pub at : (vs : List (Entry o)) → Holds (list_of 2 (form o)) s vs → Reached (names o vs) i

pub searching : {o : Of} {s : List ℕ} → Searching o s 0
searching {o} = record { at = λ vs h. reached_none (names o vs) }

-- the entry in p is like none of the first j
pub record LikeNone (o : Of) (s p : List ℕ) (j : ℕ) : Type 0 where
  pub is : (v : Entry o) → Holds (form o) p v → (vs : List (Entry o)) → Holds (list_of 2 (form o)) s vs → any (alike (entry o v)) (take j (names o vs)) ≡ false

pub like_none : {o : Of} {s p : List ℕ} → LikeNone o s p 0
like_none = record { is = λ v h vs k. refl }

module _ {o : Of} {s p : List ℕ} {j from to : ℕ} (d : Stepped 2 s j from to) {r : Bool} (c : Compares o p (take (to - from) (drop from s)) r) where
  pub like_none_on : LikeNone o s p j → r ≡ false → LikeNone o s p (j + 1)
  like_none_on l e = record {
    is = λ v h vs k.
        let t = turn d k in
        ap (any (alike (entry o v))) (take_next j (names o vs) (turned o t)) ∙ any_last (alike (entry o v)) (take j (names o vs)) (entry o t.value)
        ∙ ap₂ (λ (a b : Bool). a || b) (sym (c v t.value h t.holds) ∙ e) (l.is v h vs k);
  }

  -- entry i is like entry j
  pub repeat_found : {i at e : ℕ} → Searching o s i → Stepped 2 s i at e → p ≡ take (e - at) (drop at s) → j < i → r ≡ true → FindsRepeat o s (Some i)
  repeat_found {i} f g q l e vs k =
      let t = turn g k in
      let u = turn d k in
      let found : alike (entry o t.value) (entry o u.value) ≡ true = sym (c t.value u.value (same (form o) q t.holds) u.holds) ∙ e in
      sym (reached_hit (f.at vs k) (turned o t) (any_take (alike (entry o t.value)) j i (names o vs) (entry o u.value) (names o (drop (j + 1) vs)) (turned o u) l found))

module _ {o : Of} {s : List ℕ} {i : ℕ} (f : Searching o s i) where
  -- entry i is like none before it
  pub searching_on : {at e j : ℕ} → Stepped 2 s i at e → LikeNone o s (take (e - at) (drop at s)) j → j ≡ i → Searching o s (i + 1)
  searching_on {at} {e} {j} d l q = record {
    at = λ vs k.
        let t = turn d k in
        reached_on (f.at vs k) (turned o t) (ap (λ (n : ℕ). any (alike (entry o t.value)) (take n (names o vs))) (sym q) ∙ l.is t.value t.holds vs k);
  }

  pub no_repeat : {n at : ℕ} → Along s n i at → n ≤ i → FindsRepeat o s None
  no_repeat a l vs k =
      let z : length (names o vs) ≤ i = omega (arith, a.count, list_count (form o) s k, length-map vs (entry o)) in
      sym (reached_end (f.at vs k) z)
