-- Lengths and counts of 4 bytes. A part is no longer than the whole, so that where the whole has fewer than 2 ^ 32 bytes each length fits: what is
-- left to ask of a value is that its numbers fit and its texts are UTF-8.
-- Assumes nothing.
use Rattle.std.specs.Prelude.{◌≡◌, refl, List, [], ◌∷◌, ◌++◌, map, ℕ, ◌+◌, ◌*◌, ◌<◌, length}
use Rattle.std.proofs.Math.Option.{Option, none, some}
use Rattle.std.proofs.Common.{arith, length-append}
use Rattle.std.proofs.lemmas.List.{length-map}
use Rattle.bytes_wire.specs.Le.{le}
use Rattle.bytes_format.specs.Format.{Format, Parts, Every}
use Rattle.bytes_format.specs.Ways.{joined, row_write}
use Rattle.bytes_format.proofs.Formats.{number, end, ◌and◌, each, pieces, bundle, optional, list_of, record_of}
use Rattle.proved_readback.specs.Lengths.{limit, Fits}

-- the same of a value as parts
abbrev PartsFit : {A : Type 0} → Parts A → (A → Type 0) → Type 0
PartsFit {A} p Q = (a : A) → Q a → Every (λ s. length s < limit) (p.split a) → p.Ok a

-- ---- a part is no longer than the whole

each_short : (l : List (List ℕ)) → length (joined l) < limit → Every (λ s. length s < limit) l
each_short [] h = tt
each_short (s ∷ l) h = (omega (arith, length-append s (joined l)), each_short l (omega (arith, length-append s (joined l))))

counts_length : (l : List ℕ) → length (row_write (number 4) l) ≡ 4 * length l
counts_length [] = refl
counts_length (n ∷ l) = omega (arith, length-append (le 4 n) (row_write (number 4) l), counts_length l)

pieces_length : (l : List (List ℕ)) → length ((pieces 4).write l) ≡ 4 + 4 * length l + length (joined l)
pieces_length l =
    omega (
      arith,
      length-append (le 4 (length l)) (row_write (number 4) (map length l) ++ joined l),
      length-append (row_write (number 4) (map length l)) (joined l),
      counts_length (map length l),
      length-map l length,
    )

-- ---- bundles

bundle_fits : {A : Type 0} (p : Parts A) (Q : A → Type 0) → PartsFit p Q → Fits (bundle 4 p) Q
bundle_fits p Q f a q h =
    let n = pieces_length (p.split a) in
    let s = each_short (p.split a) (omega arith) in
    (omega arith, s, f a q s)

end_fits : PartsFit end (λ u. Unit {0})
end_fits u q s = tt

and_fits : {A B : Type 0} (f : Format A) (p : Parts B) (Q : A → Type 0) (R : B → Type 0) → Fits f Q → PartsFit p R
    → PartsFit (f and p) (λ x. Q x.0 × R x.1)
and_fits f p Q R g k x q s = (g x.0 q.0 s.0, k x.1 q.1 s.1)

each_fits : {A : Type 0} (f : Format A) (Q : A → Type 0) → Fits f Q → PartsFit (each f) (Every Q)
each_fits f Q g [] q s = tt
each_fits f Q g (a ∷ l) q s = (g a q.0 s.0, each_fits f Q g l q.1 s.1)

pub list_fits : {A : Type 0} (f : Format A) (Q : A → Type 0) → Fits f Q → Fits (list_of 4 f) (Every Q)
list_fits f Q g = bundle_fits (each f) (Every Q) (each_fits f Q g)

module _ {A B : Type 0} (f : Format A) (g : Format B) (Q : A → Type 0) (R : B → Type 0) (p : Fits f Q) (q : Fits g R) where
  pub record2_fits : (a : A) (b : B) → Q a → R b → length ((record_of 4 (f and g and end)).write (a, (b, tt))) < limit
      → (record_of 4 (f and g and end)).Ok (a, (b, tt))
  record2_fits a b m n h =
      bundle_fits (f and g and end) (λ x. Q x.0 × (R x.1.0 × Unit {0}))
      (and_fits f (g and end) Q (λ x. R x.0 × Unit {0}) p (and_fits g end R (λ u. Unit {0}) q end_fits)) (a, (b, tt)) (m, (n, tt)) h

module _ {A B C : Type 0} (f : Format A) (g : Format B) (h : Format C) (Q : A → Type 0) (R : B → Type 0) (S : C → Type 0)
    (p : Fits f Q) (q : Fits g R) (r : Fits h S) where
  pub record3_fits : (a : A) (b : B) (c : C) → Q a → R b → S c → length ((record_of 4 (f and g and h and end)).write (a, (b, (c, tt)))) < limit
      → (record_of 4 (f and g and h and end)).Ok (a, (b, (c, tt)))
  record3_fits a b c m n k l =
      bundle_fits (f and g and h and end) (λ x. Q x.0 × (R x.1.0 × (S x.1.1.0 × Unit {0})))
      (and_fits f (g and h and end) Q (λ x. R x.0 × (S x.1.0 × Unit {0})) p
      (and_fits g (h and end) R (λ x. S x.0 × Unit {0}) q (and_fits h end S (λ u. Unit {0}) r end_fits))) (a, (b, (c, tt))) (m, (n, (k, tt))) l

-- ---- what may be there

abbrev pub IfThere : {A : Type 0} → (A → Type 0) → Option A → Type 0
IfThere Q none = Unit {0}
IfThere Q (some a) = Q a

pub optional_fits : {A : Type 0} (f : Format A) (z : f.read [] ≡ none) (Q : A → Type 0) → Fits f Q → Fits (optional f z) (IfThere Q)
optional_fits f z Q g none q h = tt
optional_fits f z Q g (some a) q h = g a q h

-- ---- what has no length of its own

pub ok_fits : {A : Type 0} (f : Format A) → Fits f f.Ok
ok_fits f a q h = q
