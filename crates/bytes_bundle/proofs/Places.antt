-- Where the parts of a bundle stand, and the turns of the loop that adds the lengths up.
-- Assumes nothing.
use mathlib.Core.Path.{◌≡◌, refl, sym, ap, ap₂, ◌∙◌}
use mathlib.Core.Bool.{Bool, true, false, cond, ◌&&◌}
use mathlib.Core.Option.{none, some}
use mathlib.Core.List.{List, [], ◌∷◌, ◌++◌}
use Prim.Native.Nat.{ℕ, zero, suc, ◌+◌, ◌-◌, ◌*◌, ◌^◌, ◌≤◌, ◌<◌}
use native.Mathlib.Nat.{zero-mul, suc-mul, mul-le-mul, mul-le-mul_right, pow-le-pow_right, lt_of_lt_of_le, add-sub_cancel_left}
use native.Mathlib.Numerals.{add-one}
use native.Mathlib.Omega.{arith}
use lib.ListN.{length, take, drop, get_or, length-drop, length-append, take-append-drop}
use lib.Seq.{take-take, drop-drop, drop-cons, take_at, drop_at, length-take-le}
use lib.Dec.{leb, eqb, lit<}
use borrow.Author.Tests.{le-leb, lt-leb, leb-true, eq-eqb, ne_eqb, eqb-true, eqb-false}
use Rattle.bytes_wire.specs.Le.{num}
use Rattle.bytes_format.specs.Ways.{joined}
use Rattle.bytes_format.proofs.Formats.{pieces}
use Rattle.bytes_bundle.specs.Bundle.{is_there, or_nil, parts_of, IsBundle, PartAt, Stepped}
use Rattle.bytes_bundle.specs.Decides.{and_of}
use Rattle.bytes_bundle.specs.Contents.{lengths, fills, cuts}
use Rattle.bytes_bundle.specs.Laws.{drop_take}
use Rattle.bytes_bundle.proofs.Cuts.{count, head, sizes, whole, pieces_of, pieces_read}

same_eqb : (a b x y : ℕ) → (a ≡ b → x ≡ y) → (x ≡ y → a ≡ b) → eqb a b ≡ eqb x y
same_eqb a b x y f g = go (eqb a b) refl
  where
    go : (t : Bool) → eqb a b ≡ t → eqb a b ≡ eqb x y
    go true e = e ∙ sym (eq-eqb x y (f (eqb-true a b e)))
    go false e = e ∙ sym (ne_eqb x y (λ z. eqb-false a b e (g z)))

-- ---- lengths and cuts

lengths_length : (w n : ℕ) (s : List ℕ) → length (lengths w n s) ≡ n
lengths_length w zero s = refl
lengths_length w (suc n) s = ap suc (lengths_length w n (drop w s))

lengths_at_lem : (w n : ℕ) (s : List ℕ) (i : ℕ) → i < n → get_or (lengths w n s) i 0 ≡ num (take w (drop (i * w) s))
lengths_at_lem w zero s i h = absurd (omega arith)
lengths_at_lem w (suc n) s zero h = rw (zero-mul w)
lengths_at_lem w (suc n) s (suc i) h =
    let m : w + i * w ≡ suc i * w = omega (arith, suc-mul i w) in
    lengths_at_lem w n (drop w s) i (omega arith) ∙ rw (drop-drop (i * w) w s, m)

cuts_length : (ns s : List ℕ) → length (cuts ns s) ≡ length ns
cuts_length [] s = refl
cuts_length (n ∷ ns) s = ap suc (cuts_length ns (drop n s))

module _ (n : ℕ) (ns s : List ℕ) (f : fills (n ∷ ns) (length s) ≡ true) where
  front : n ≤ length s
  front = leb-true n (length s) (and_of (leb n (length s)) (fills ns (length s - n)) f).0

  behind : fills ns (length (drop n s)) ≡ true
  behind = rw (length-drop n s) (and_of (leb n (length s)) (fills ns (length s - n)) f).1

-- the cuts, one behind the other, are the bytes
cuts_joined : (ns s : List ℕ) → fills ns (length s) ≡ true → joined (cuts ns s) ≡ s
cuts_joined [] [] f = refl
cuts_joined [] (b ∷ s) f = absurd (omega (arith, eqb-true (length (b ∷ s)) 0 f))
cuts_joined (n ∷ ns) s f = ap (λ (l : List ℕ). take n s ++ l) (cuts_joined ns (drop n s) (behind n ns s f)) ∙ take-append-drop n s

cut_size : (ns s : List ℕ) (i : ℕ) → fills ns (length s) ≡ true → i < length ns → length (get_or (cuts ns s) i []) ≡ get_or ns i 0
cut_size [] s i f h = absurd (omega arith)
cut_size (n ∷ ns) s zero f h = length-take-le n s (front n ns s f)
cut_size (n ∷ ns) s (suc i) f h = cut_size ns (drop n s) i (behind n ns s f) (omega arith)

-- ---- the test

there_cond : {A : Type 0} (t : Bool) (a : A) → is_there (cond t (some a) none) ≡ t
there_cond true a = refl
there_cond false a = refl

pub there_whole : (w : ℕ) (s : List ℕ) → is_there ((pieces w).read s) ≡ whole w s
there_whole w s = ap is_there (pieces_read w s) ∙ there_cond (whole w s) (pieces_of w s)

module _ (w : ℕ) (s : List ℕ) where
  pub no_count : length s < w → is_there ((pieces w).read s) ≡ false
  no_count h = there_whole w s ∙ rw (lt-leb w (length s) h)

  module _ (n : ℕ) (e : n ≡ count w s) (h : w ≤ length s) where
    pub no_contents : length s < w + n * w → is_there ((pieces w).read s) ≡ false
    no_contents k = let l : length s < head w s = rw (← e) k in there_whole w s ∙ rw (le-leb w (length s) h, lt-leb (head w s) (length s) l)

    pub contents : w + n * w ≤ length s → is_there ((pieces w).read s) ≡ fills (lengths w n (drop w s)) (length s - (w + n * w))
    contents k = let l : head w s ≤ length s = rw (← e) k in there_whole w s ∙ rw (le-leb w (length s) h, le-leb (head w s) (length s) l, e)

  -- a turn of the loop that adds the lengths up
  module _ (left to m k : ℕ) (h : 0 < left) (e : k ≡ num (take w (drop to s))) where
    on : fills (lengths w left (drop to s)) m ≡ (leb k m && fills (lengths w (left - 1) (drop (to + w) s)) (m - k))
    on =
        let d : left ≡ suc (left - 1) = omega arith in
        ap (λ (n : ℕ). fills (lengths w n (drop to s)) m) d
        ∙ ap₂ (λ (n : ℕ) (l : List ℕ). leb n m && fills (lengths w (left - 1) l) (m - n)) (sym e) (drop-drop w to s)

    pub fills_short : m < k → fills (lengths w left (drop to s)) m ≡ false
    fills_short l = on ∙ rw (lt-leb k m l)

    pub fills_turn : k ≤ m → fills (lengths w left (drop to s)) m ≡ fills (lengths w (left - 1) (drop (to + w) s)) (m - k)
    fills_turn l = on ∙ rw (le-leb k m l)

  pub fills_end : (l : List ℕ) (left at : ℕ) → left ≡ 0 → at ≤ length s → fills (lengths w left l) (length s - at) ≡ eqb at (length s)
  fills_end l left at z h = rw z (same_eqb (length s - at) 0 at (length s) (λ k. omega arith) (λ k. omega arith))

-- ---- a bundle

pub record Sized (w : ℕ) (s : List ℕ) : Type 0 where
  pub room : w ≤ length s
  pub contents : head w s ≤ length s
  pub fit : fills (sizes w s) (length s - head w s) ≡ true
  pub parts : parts_of w s ≡ pieces_of w s

module _ {w : ℕ} {s : List ℕ} (b : IsBundle w s) where
  pub sized : Sized w s
  unfolding parts_of
  sized =
      let t : whole w s ≡ true = sym (there_whole w s) ∙ b.there in
      let p = and_of (leb w (length s)) (leb (head w s) (length s) && fills (sizes w s) (length s - head w s)) t in
      let q = and_of (leb (head w s) (length s)) (fills (sizes w s) (length s - head w s)) p.1 in
      record {
        room = leb-true w (length s) p.0;
        contents = leb-true (head w s) (length s) q.0;
        fit = q.1;
        parts = ap or_nil (pieces_read w s) ∙ ap (λ (t : Bool). or_nil (cond t (some (pieces_of w s)) none)) t;
      }

  pub parts_count : length (parts_of w s) ≡ count w s
  parts_count = ap length sized.parts ∙ cuts_length (sizes w s) (drop (head w s) s) ∙ lengths_length w (count w s) (drop w s)

  fit : fills (sizes w s) (length (drop (head w s) s)) ≡ true
  fit = rw (length-drop (head w s) s) sized.fit

  module _ (n : ℕ) (e : n ≡ count w s) where
    pub first_room : w + n * w ≤ length s
    first_room = rw e sized.contents

    pub first_at : PartAt w s 0 (w + n * w)
    first_at = record {
      within = first_room;
      few = omega arith;
      rest = rw e (ap joined sized.parts ∙ cuts_joined (sizes w s) (drop (head w s) s) fit);
    }

  module _ (i : ℕ) (h : i < length (parts_of w s)) where
    -- the length of part i stands in the contents
    pub size_room : w + i * w + w ≤ length s
    size_room = omega (arith, suc-mul i w, sized.contents, mul-le-mul_right {m = suc i} {n = count w s} w (omega (arith, parts_count)))

    pub part_size : length (get_or (parts_of w s) i []) ≡ num (take w (drop (w + i * w) s))
    part_size =
        ap (λ (l : List (List ℕ)). length (get_or l i [])) sized.parts
        ∙ cut_size (sizes w s) (drop (head w s) s) i fit (omega (arith, parts_count, lengths_length w (count w s) (drop w s)))
        ∙ lengths_at_lem w (count w s) (drop w s) i (omega (arith, parts_count))
        ∙ rw (drop-drop (i * w) w s)

    module _ (at k : ℕ) (p : PartAt w s i at) (e : k ≡ num (take w (drop (w + i * w) s))) where
      here : drop at s ≡ get_or (parts_of w s) i [] ++ joined (drop (suc i) (parts_of w s))
      here = sym p.rest ∙ ap joined (drop-cons (parts_of w s) i [] h)

      size : length (get_or (parts_of w s) i []) ≡ k
      size = part_size ∙ sym e

      pub step_room : at + k ≤ length s
      step_room = omega (arith, p.within, length-drop at s, ap length here, length-append (get_or (parts_of w s) i []) (joined (drop (suc i) (parts_of w s))), size)

      pub stepped : Stepped w s i at (at + k)
      stepped = record {
        next = record {
          within = step_room;
          few = omega arith;
          rest =
              ap (λ (n : ℕ). joined (drop n (parts_of w s))) (add-one i)
              ∙ sym (drop_at (get_or (parts_of w s) i []) (joined (drop (suc i) (parts_of w s))) k size)
              ∙ ap (drop k) (sym here) ∙ drop-drop k at s;
        };
        forth = omega arith;
        within = step_room;
        is =
            ap (λ (n : ℕ). take n (drop at s)) (add-sub_cancel_left at k)
            ∙ ap (take k) here ∙ take_at (get_or (parts_of w s) i []) (joined (drop (suc i) (parts_of w s))) k size;
      }

-- ---- the parts one behind the other

-- nothing is read of the lengths behind the n ones
lengths_cut : (w n : ℕ) (s : List ℕ) → lengths w n (take (n * w) s) ≡ lengths w n s
lengths_cut w zero s = refl
lengths_cut w (suc n) s =
    let m : suc n * w ≡ w + n * w = omega (arith, suc-mul n w) in
    rw (m, take-take w (w + n * w) s (omega arith), drop_take w (n * w) s, lengths_cut w n (drop w s))

-- before the first turn
module _ {w : ℕ} {s : List ℕ} (b : IsBundle w s) (n : ℕ) (e : n ≡ length (parts_of w s)) where
  counted : n ≡ count w s
  counted = e ∙ parts_count b

  pub contents_room : w + n * w ≤ length s
  contents_room = first_room b n counted

  pub contents_fill : fills (lengths w n (take (n * w) (drop w s))) (length (drop (n * w) (drop w s))) ≡ true
  contents_fill = rw (lengths_cut w n (drop w s), drop-drop (n * w) w s, counted) (fit b)

  pub contents_cut : cuts (lengths w n (take (n * w) (drop w s))) (drop (n * w) (drop w s)) ≡ parts_of w s
  contents_cut = rw (lengths_cut w n (drop w s), drop-drop (n * w) w s, counted) (sym (sized b).parts)

-- a turn
pub turn_cuts : (w left : ℕ) (s t : List ℕ) (k : ℕ) → 0 < left → k ≡ num (take w s)
    → cuts (lengths w left s) t ≡ take k t ∷ cuts (lengths w (left - 1) (drop w s)) (drop k t)
turn_cuts w left s t k h e =
    let d : left ≡ suc (left - 1) = omega arith in
    ap (λ (n : ℕ). cuts (lengths w n s) t) d ∙ ap (λ (n : ℕ). take n t ∷ cuts (lengths w (left - 1) (drop w s)) (drop n t)) (sym e)

-- ---- sums that fit

-- a count of at most 4 bytes, times its width
pub small : (n w : ℕ) → w ≤ 4 → n < 256 ^ w → n * w ≤ 256 ^ 4 * 4
small n w h l =
    let k : n < 256 ^ 4 = lt_of_lt_of_le l (pow-le-pow_right (lit< tt) h) in
    let m : n ≤ 256 ^ 4 = omega arith in
    mul-le-mul m h
