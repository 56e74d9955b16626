-- A list written in a loop over a list that is read: each part of the one gives a part of the other.
-- Assumes nothing.
use Rattle.std.specs.Prelude.{◌≡◌, refl}
use Rattle.std.proofs.Common.{sym, ◌∙◌, arith}
use Rattle.std.proofs.Math.Path.{ap, subst}
use mathlib.Core.List.{List, [], ◌∷◌}
use Prim.Native.Nat.{ℕ, zero, suc, ◌+◌, ◌-◌, ◌*◌, ◌≤◌}
use Rattle.std.proofs.Math.ListN.{length, drop}
use Rattle.bytes_wire.specs.Le.{le}
use Rattle.bytes_wire.specs.Sets.{Wrote}
use Rattle.bytes_format.specs.Format.{Format}
use Rattle.bytes_format.proofs.Formats.{list_of}
use Rattle.bytes_bundle.specs.Bundle.{parts_of}
use Rattle.bytes_bundle.specs.Held.{Is, Holds, is_held, held, held_once, list_count}
use Rattle.bytes_bundle.specs.Numbered.{IsPart, valued, valued_is}
use Rattle.rules.specs.declared.Refusal.{Refusal}
use Rattle.rules.specs.Answers.{Answer, given, refused, each}
use Rattle.rules.proofs.Theorems.Answered.{never_given}
use Rattle.rules.proofs.Theorems.Steps.{step}
use Rattle.rules.specs.Bound.{Value}
use Rattle.rules.specs.Statements.{Expr}
use Rattle.rules.specs.Analyze.{insert_literal}
use Rattle.image_bound.specs.Bundles.{list_length}
use Rattle.image_bound.specs.Written.{spelt}
use Rattle.image_bound.specs.Beside.{Listed, wrote_long, listed_none, listed_space, listed_more, listed_all}

-- the values of a row
abbrev pub literals : List Expr → Answer (List Value)
literals es = each insert_literal es

-- ---- what a writer of one part asks, and what it says

-- p holds what gives a value, and there is room for its bytes from `at` on
pub record Gives {A B : Type 0} (f : Format A) (p : List ℕ) (F : A → Answer B) (g : Format B) (at : ℕ) (o : List ℕ) : Type 0 where
  pub is : Is f p
  pub value : B
  pub gives : (a : A) → Holds f p a → F a ≡ given value
  pub room : at + length (g.write value) ≤ length o

-- the bytes of what it gives are written
pub record Puts {A B : Type 0} (f : Format A) (p : List ℕ) (F : A → Answer B) (g : Format B) (o : List ℕ) (from to : ℕ) (o' : List ℕ) : Type 0 where
  pub at : (a : A) (b : B) → Holds f p a → F a ≡ given b → Wrote o from (g.write b) to o'

pub given_once : {A : Type 0} {a b : A} → given a ≡ given b → a ≡ b
given_once e = cc

module _ {A B : Type 0} {f : Format A} {p : List ℕ} {F : A → Answer B} {g : Format B} where
  pub gives_held : {a : A} {b : B} {at : ℕ} {o : List ℕ} → Holds f p a → F a ≡ given b → at + length (g.write b) ≤ length o → Gives f p F g at o
  gives_held {b = b} h e r = record { is = is_held {f = f} h; value = b; gives = λ c k. ap F (held_once f {s = p} k h) ∙ e; room = r }

  pub puts : {v : B} {o o' : List ℕ} {at r : ℕ} → ((a : A) → Holds f p a → F a ≡ given v) → Wrote o at (g.write v) r o' → Puts f p F g o at r o'
  puts h w = record { at = λ a b k e. spelt (ap g.write (given_once (sym (h a k) ∙ e))) w }

  module _ {at : ℕ} {o : List ℕ} (w : Gives f p F g at o) where
    -- room for what is known to be given, and no refusal
    pub gives_room : {v : B} → ((a : A) → Holds f p a → F a ≡ given v) → at + length (g.write v) ≤ length o
    gives_room h =
        held w.is (λ a k. subst (λ (b : B). at + length (g.write b) ≤ length o) (given_once (sym (w.gives a k) ∙ h a k)) w.room)

    pub gives_never : {r : Refusal} → ((a : A) → Holds f p a → F a ≡ refused r) → ⊥
    gives_never h = held w.is (λ a k. never_given (sym (h a k) ∙ w.gives a k))

    module _ {r : ℕ} {o' : List ℕ} (q : Puts f p F g o at r o') where
      pub puts_wrote : Wrote o at (g.write w.value) r o'
      puts_wrote = held w.is (λ a k. q.at a w.value k (w.gives a k))

      pub puts_forth : at ≤ r
      puts_forth = omega (arith, puts_wrote.end)

      pub puts_long : length o' ≡ length o
      puts_long = wrote_long puts_wrote

-- ---- each of a list gives one

module _ {A B : Type 0} (F : A → Answer B) where
  each_count : (xs : List A) {bs : List B} → each F xs ≡ given bs → length xs ≡ length bs
  unfolding each
  each_count [] {bs} e = let z : [] ≡ bs = cc in ap length z
  each_count (a ∷ xs) {bs} e = step (F a) _ e (λ b p h. step (each F xs) _ h (λ l q k. let z : b ∷ l ≡ bs = cc in ap suc (each_count xs q) ∙ ap length z))

  each_turn : (i : ℕ) (xs : List A) {bs : List B} {a : A} {m : List A} → each F xs ≡ given bs → drop i xs ≡ a ∷ m → (b : B) × (F a ≡ given b) × (drop i bs ≡ b ∷ drop (suc i) bs)
  unfolding each
  each_turn zero [] e d = absurd (omega (arith, ap length d))
  each_turn (suc i) [] e d = absurd (omega (arith, ap length d))
  each_turn zero (x ∷ xs) {bs} {a} e d = step (F x) _ e (λ b p h. step (each F xs) _ h (λ l q k.
      let z : b ∷ l ≡ bs = cc in
      let y : x ≡ a = cc in
      (b, ap F (sym y) ∙ p, subst (λ (c : List B). c ≡ b ∷ drop 1 c) z refl)))
  each_turn (suc i) (x ∷ xs) {bs} e d = step (F x) _ e (λ b p h. step (each F xs) _ h (λ l q k.
      let z : b ∷ l ≡ bs = cc in
      let t = each_turn i xs q d in
      (t.0, t.1, subst (λ (c : List B). drop (suc i) c ≡ t.0 ∷ drop (suc (suc i)) c) z t.2)))

-- s holds a list that gives bs
pub record Making {A B : Type 0} (f : Format A) (F : A → Answer B) (s : List ℕ) (bs : List B) : Type 0 where
  pub is : Is (list_of 2 f) s
  pub gives : (xs : List A) → Holds (list_of 2 f) s xs → each F xs ≡ given bs

-- the part that the loop has reached gives one
record Made {A B : Type 0} (f : Format A) (F : A → Answer B) (p : List ℕ) (bs : List B) (n : ℕ) : Type 0 where
  pub value : B
  pub rest : drop n bs ≡ value ∷ drop (suc n) bs
  pub gives : (a : A) → Holds f p a → F a ≡ given value

module _ {A B : Type 0} {f : Format A} {F : A → Answer B} {s : List ℕ} where
  making_count : {bs : List B} → Making f F s bs → length bs ≡ length (parts_of 2 s)
  making_count w = held w.is (λ xs h. sym (each_count F xs (w.gives xs h)) ∙ list_count f s h)

  made : {bs : List B} {n : ℕ} {p : List ℕ} → Making f F s bs → IsPart 2 s n p → Made f F p bs n
  made {n = n} {p = p} w d = held w.is (λ xs h.
      let t = valued f d h in
      let u = each_turn F n xs (w.gives xs h) t.rest in
      record { value = u.0; rest = u.2; gives = λ a k. ap F (held_once f {s = p} k t.holds) ∙ u.1 })

-- the number of the parts and the length of each have room
pub list_room : {A B : Type 0} (f : Format A) (F : A → Answer B) (g : Format B) {s o : List ℕ} {at n : ℕ} → Gives (list_of 2 f) s (each F) (list_of 4 g) at o
    → n ≡ length (parts_of 2 s) → at + (4 + 4 * n) ≤ length o
list_room f F g {s} w q =
    let m : Making f F s w.value = record { is = w.is; gives = w.gives } in
    omega (arith, w.room, list_length g w.value, making_count m, q)

-- ---- the loop

-- the first n parts of the list that s gives are written, their lengths from i to k and their bytes up to l
pub record Listing {A B : Type 0} (f : Format A) (F : A → Answer B) (g : Format B) (s o : List ℕ) (n i k l : ℕ) (o' : List ℕ) : Type 0 where
  pub at : (bs : List B) → Making f F s bs → Listed g bs n o i k l o'

module _ {A B : Type 0} {f : Format A} {F : A → Answer B} {g : Format B} {s o : List ℕ} where
  pub listing_none : {i j n : ℕ} → j ≡ i + 4 * n → n ≡ length (parts_of 2 s) → Listing f F g s o 0 i i j o
  listing_none {i} {j} {n} h c = record { at = λ bs w. listed_none (omega (arith, h, c, making_count w)) }

  module _ {n i k l : ℕ} {o₁ : List ℕ} (b : Listing f F g s o n i k l o₁) where
    module _ {p : List ℕ} (d : IsPart 2 s n p) {start : ℕ} {o₀ : List ℕ} (w : Gives (list_of 2 f) s (each F) (list_of 4 g) start o₀) where
      making : Making f F s w.value
      making = record { is = w.is; gives = w.gives }

      listing_entry : k + 4 ≤ l
      listing_entry = (listed_space (b.at w.value making) (made making d).rest).entry

      module _ (c : ℕ) (q : Wrote o₀ start (le 4 c) i o) where
        -- there is room for the part
        pub listing_gives : Gives f p F g l o₁
        listing_gives =
            let m = made making d in
            let x = listed_space (b.at w.value making) m.rest in
            record {
              is = valued_is f d w.is;
              value = m.value;
              gives = m.gives;
              room = omega (arith, x.part, x.long, w.room, list_length g w.value, q.end, wrote_long q);
            }

        -- and then for its length
        pub listing_room : {l' : ℕ} {o₂ : List ℕ} → Puts f p F g o₁ l l' o₂ → k + 4 ≤ length o₂
        listing_room r = omega (arith, listing_entry, listing_gives.room, puts_long listing_gives r)

    -- the next part, then its length
    pub listing_more : {p : List ℕ} → IsPart 2 s n p → {o₂ o₃ : List ℕ} {k' l' : ℕ} → Puts f p F g o₁ l l' o₂ → Wrote o₂ k (le 4 (l' - l)) k' o₃
        → Listing f F g s o (n + 1) i k' l' o₃
    listing_more d r q = record {
      at = λ bs v.
          let m = made v d in
          held v.is (λ xs h.
          let t = valued f d h in
          listed_more (b.at bs v) m.rest (r.at t.value m.value t.holds (m.gives t.value t.holds)) q);
    }

    -- all parts, behind their number
    pub listing_all : {o₀ : List ℕ} {start c : ℕ} → c ≡ length (parts_of 2 s) → length (parts_of 2 s) ≤ n → Wrote o₀ start (le 4 c) i o → Is (list_of 2 f) s
        → Puts (list_of 2 f) s (each F) (list_of 4 g) o₀ start l o₁
    listing_all q h w is = record {
      at = λ xs bs k e.
          let m : Making f F s bs = record { is = is; gives = λ cs j. ap (each F) (held_once (list_of 2 f) {s = s} j k) ∙ e } in
          let z = making_count m in
          listed_all (b.at bs m) (omega (arith, z, q, h)) w (omega (arith, z, q));
    }
