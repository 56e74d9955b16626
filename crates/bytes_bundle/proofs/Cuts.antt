-- How a bundle's reading goes: tests on lengths, and plain cuts where they all pass. `Layout.pieces` is a chain of readers, each of which may
-- fail; here the chain is one test and one list.
-- Assumes nothing.
use mathlib.Core.Path.{◌≡◌, refl, sym, ap, ◌∙◌}
use mathlib.Core.Bool.{Bool, true, false, cond, ◌&&◌, false≢true}
use mathlib.Core.Option.{Option, none, some}
use mathlib.Core.List.{List, [], ◌∷◌}
use Prim.Native.Nat.{ℕ, zero, suc, ◌+◌, ◌-◌, ◌*◌, ◌≤◌, ◌<◌}
use native.Mathlib.Nat.{zero-mul, suc-mul}
use native.Mathlib.Omega.{arith}
use lib.ListN.{length, take, drop, length-take, length-drop}
use lib.Seq.{take-take, drop-drop}
use lib.Dec.{leb, leb-zero, eqb-suc-zero}
use borrow.Author.Tests.{le-leb, lt-leb, leb-true, leb-false, eq-eqb, ne_eqb}
use Rattle.bytes_wire.specs.Le.{num}
use Rattle.bytes_format.specs.Ways.{next, number_read, row_read, cut_read, headed_read}
use Rattle.bytes_format.proofs.Formats.{number, row, cut, pieces}
use Rattle.bytes_bundle.specs.Contents.{lengths, fills, cuts}
use Rattle.bytes_bundle.specs.Laws.{drop_take}

-- ---- two tests that go alike

pub same_leb : (a b x y : ℕ) → (a ≤ b → x ≤ y) → (x ≤ y → a ≤ b) → leb a b ≡ leb x y
same_leb a b x y f g = go (leb a b) refl
  where
    go : (t : Bool) → leb a b ≡ t → leb a b ≡ leb x y
    go true e = e ∙ sym (le-leb x y (f (leb-true a b e)))
    go false e = e ∙ sym (lt-leb x y (not_le (leb x y) refl))
      where
        not_le : (t : Bool) → leb x y ≡ t → y < x
        not_le true h = absurd (false≢true (sym e ∙ le-leb a b (g (leb-true x y h))))
        not_le false h = leb-false x y h

-- ---- each reader, as a test and a value

module _ (w : ℕ) where
  number_read_lem : (s : List ℕ) → number_read w (take w s) ≡ cond (leb w (length s)) (some (num (take w s))) none
  number_read_lem s = go (leb w (length s)) refl
    where
      go : (t : Bool) → leb w (length s) ≡ t → number_read w (take w s) ≡ cond (leb w (length s)) (some (num (take w s))) none
      go true e = rw (e, eq-eqb (length (take w s)) w (omega (arith, length-take w s, leb-true w (length s) e)))
      go false e = rw (e, ne_eqb (length (take w s)) w (λ z. omega (arith, length-take w s, leb-false w (length s) e)))

  row_read_lem : (n : ℕ) (s : List ℕ) → row_read (number w) n (take (n * w) s) ≡ cond (leb (n * w) (length s)) (some (lengths w n s)) none
  row_read_lem zero s = rw (zero-mul w, leb-zero (length s))
  row_read_lem (suc n) s =
      let m : suc n * w ≡ w + n * w = omega (arith, suc-mul n w) in
      rw (m, take-take w (w + n * w) s (omega arith), drop_take w (n * w) s, row_read_lem n (drop w s), number_read_lem s)
      (go (leb w (length s)) refl)
    where
      last : (t : Bool) → next (cond t (some (lengths w n (drop w s))) none) (λ l. some (num (take w s) ∷ l)) ≡ cond t (some (lengths w (suc n) s)) none
      last true = refl
      last false = refl

      go : (t : Bool) → leb w (length s) ≡ t
          → next (cond (leb w (length s)) (some (num (take w s))) none) (λ a. next (cond (leb (n * w) (length (drop w s))) (some (lengths w n (drop w s))) none) (λ l. some (a ∷ l)))
          ≡ cond (leb (w + n * w) (length s)) (some (lengths w (suc n) s)) none
      go true e =
          let h : w ≤ length s = leb-true w (length s) e in
          let d : leb (w + n * w) (length s) ≡ leb (n * w) (length (drop w s)) =
          same_leb (w + n * w) (length s) (n * w) (length (drop w s)) (λ k. omega (arith, length-drop w s)) (λ k. omega (arith, length-drop w s)) in
          rw (e, d) (last (leb (n * w) (length (drop w s))))
      go false e = rw (e, lt-leb (w + n * w) (length s) (omega (arith, leb-false w (length s) e)))

cut_read_lem : (ns s : List ℕ) → cut_read ns s ≡ cond (fills ns (length s)) (some (cuts ns s)) none
cut_read_lem [] [] = refl
cut_read_lem [] (b ∷ s) = rw (eqb-suc-zero (length s))
cut_read_lem (n ∷ ns) s = rw (cut_read_lem ns (drop n s), length-drop n s) (go (leb n (length s)) (fills ns (length s - n)))
  where
    go : (t u : Bool) → cond t (next (cond u (some (cuts ns (drop n s))) none) (λ l. some (take n s ∷ l))) none ≡ cond (t && u) (some (cuts (n ∷ ns) s)) none
    go true true = refl
    go true false = refl
    go false u = refl

-- ---- the whole

module _ (w : ℕ) (s : List ℕ) where
  -- how many parts
  abbrev pub count : ℕ
  count = num (take w s)

  -- where the contents end and the parts begin
  abbrev pub head : ℕ
  head = w + count * w

  abbrev pub sizes : List ℕ
  sizes = lengths w count (drop w s)

  abbrev pub whole : Bool
  whole = leb w (length s) && (leb head (length s) && fills sizes (length s - head))

  abbrev pub pieces_of : List (List ℕ)
  pieces_of = cuts sizes (drop head s)

  pub pieces_read : (pieces w).read s ≡ cond whole (some pieces_of) none
  pieces_read = rw (number_read_lem w s) (go (leb w (length s)) refl)
    where
      -- what follows the count, and then what follows the lengths
      behind : Option (List ℕ × List (List ℕ)) → Option (List (List ℕ))
      behind o = next {X = ℕ × (List ℕ × List (List ℕ))} (next o (λ b. some (count, b))) (λ p. some p.1.1)

      last : (ns : List ℕ) (o : Option (List (List ℕ))) → behind (next o (λ b. some (ns, b))) ≡ o
      last ns none = refl
      last ns (some l) = refl

      inner : (u : Bool) → behind (next (cond u (some sizes) none) (λ ns. next (cut_read ns (drop head s)) (λ b. some (ns, b)))) ≡ cond (u && fills sizes (length s - head)) (some pieces_of) none
      inner true =
          last sizes (cut_read sizes (drop head s)) ∙ cut_read_lem sizes (drop head s)
          ∙ ap (λ (m : ℕ). cond (fills sizes m) (some pieces_of) none) (length-drop head s)
      inner false = refl

      go : (t : Bool) → leb w (length s) ≡ t
          → next {X = ℕ × (List ℕ × List (List ℕ))} (next (cond t (some count) none) (λ n. next (headed_read (row (number w) n) cut (drop w s)) (λ b. some (n, b)))) (λ p. some p.1.1)
          ≡ cond (t && (leb head (length s) && fills sizes (length s - head))) (some pieces_of) none
      go true e =
          let h : w ≤ length s = leb-true w (length s) e in
          let d : leb (count * w) (length (drop w s)) ≡ leb head (length s) =
          same_leb (count * w) (length (drop w s)) head (length s) (λ k. omega (arith, length-drop w s)) (λ k. omega (arith, length-drop w s)) in
          rw (row_read_lem w count (drop w s), d, drop-drop (count * w) w s) (inner (leb head (length s)))
      go false e = refl
