-- Two writes that grow side by side: the lengths of a list's parts and the parts, the rows of a run and its contents. And a head that is written
-- last, when the ends of its parts are known.
-- Assumes nothing.
use Rattle.std.specs.Prelude.{◌≡◌, refl, ℕ, zero, suc, ◌+◌, ◌-◌, ◌*◌, ◌≤◌, ◌<◌, set, take, drop}
use Rattle.std.proofs.Common.{sym, ap₂, ◌∙◌, arith, length-drop, take_all, take-add, length-take-le}
use Rattle.std.proofs.Math.Path.{ap}
use mathlib.Core.List.{List, [], ◌∷◌, ◌++◌}
use Rattle.std.proofs.Math.ListN.{length, length-append}
use Rattle.std.proofs.lemmas.List.Edits.{sets}
use Rattle.std.proofs.lemmas.List.{set_comm}
use Rattle.std.proofs.Math.Seq.{length-sets}
use Rattle.bytes_wire.specs.Le.{le}
use Rattle.bytes_wire.specs.Sets.{Wrote, then, sets_append}
use Rattle.tree.specs.Tree.{size}
use Rattle.bytes_format.specs.Format.{Format}
use Rattle.bytes_format.proofs.Formats.{list_of}
use Rattle.rules.specs.Bound.{BoundExpr}
use Rattle.image_bound.specs.Expression.{bound_expression}
use Rattle.image_bound.specs.Bundles.{lengths, bodies, list_bytes, lengths_length, lengths_snoc, bodies_snoc, head2, head3, record2, record3}
use Rattle.image_bound.specs.Runs.{rows_from, content_bytes, run_bytes_lem}
use Rattle.image_bound.specs.Written.{spelt}

-- ---- writes at different places may be made in either order

set_apart : (o : List ℕ) (i a j : ℕ) (y : List ℕ) → i < j → set (sets o j y) i a ≡ sets (set o i a) j y
set_apart o i a j [] h = refl
set_apart o i a j (b ∷ y) h =
    set_apart (set o j b) i a (suc j) y (omega arith) ∙ ap (λ (l : List ℕ). sets l (suc j) y) (sym (set_comm o i j a b (λ e. omega arith)))

pub sets_apart : (o : List ℕ) (i : ℕ) (x : List ℕ) (j : ℕ) (y : List ℕ) → i + length x ≤ j → sets (sets o j y) i x ≡ sets (sets o i x) j y
sets_apart o i [] j y h = refl
sets_apart o i (a ∷ x) j y h =
    ap (λ (l : List ℕ). sets l (suc i) x) (set_apart o i a j y (omega arith)) ∙ sets_apart (set o i a) (suc i) x j y (omega arith)

-- nothing is longer than it was
pub wrote_long : {o o' x : List ℕ} {i j : ℕ} → Wrote o i x j o' → length o' ≡ length o
wrote_long {o} {x = x} {i = i} w = ap length w.is ∙ length-sets o i x

-- a write in front of what was written first
pub in_front : {o o₁ o₂ h x : List ℕ} {i j k : ℕ} → Wrote o j x k o₁ → Wrote o₁ i h j o₂ → Wrote o i (h ++ x) k o₂
in_front {o} {h = h} {x = x} {i = i} {j = j} p q = record {
  end = omega (arith, p.end, q.end, length-append h x);
  is =
      q.is ∙ ap (λ (l : List ℕ). sets l i h) p.is ∙ sets_apart o i h j x (omega (arith, q.end))
      ∙ ap (λ (n : ℕ). sets (sets o i h) n x) q.end ∙ sets_append o i h x;
}

-- ---- the head of a record behind its parts, whose lengths are how far the cursor went

module _ {o o₁ o₂ o₃ : List ℕ} {i j k l : ℕ} where
  pub wrote_record2_after : {a b : List ℕ} → Wrote o j a k o₁ → Wrote o₁ k b l o₂ → Wrote o₂ i (head2 (k - j) (l - k)) j o₃ → Wrote o i (record2 a b) l o₃
  unfolding record2
  wrote_record2_after {a = a} {b = b} p q h =
      spelt (ap₂ (λ (m n : ℕ). head2 m n ++ (a ++ b)) (omega (arith, p.end)) (omega (arith, q.end))) (in_front (then p q) h)

  pub wrote_record3_after : {o₄ : List ℕ} {e : ℕ} {a b c : List ℕ} → Wrote o j a k o₁ → Wrote o₁ k b l o₂ → Wrote o₂ l c e o₃
      → Wrote o₃ i (head3 (k - j) (l - k) (e - l)) j o₄ → Wrote o i (record3 a b c) e o₄
  unfolding record3
  wrote_record3_after {e = e} {a = a} {b = b} {c = c} p q r h =
      spelt (ap₂ (λ (m n : ℕ). head3 m n (e - l) ++ (a ++ (b ++ c))) (omega (arith, p.end)) (omega (arith, q.end))
      ∙ ap (λ (m : ℕ). head3 (length a) (length b) m ++ (a ++ (b ++ c))) (omega (arith, r.end)))
      (in_front (then p (then q r)) h)

-- ---- side by side

-- o' is o with x written from i to k, and y from j to l, which is not before k
pub record Beside (o : List ℕ) (i : ℕ) (x : List ℕ) (k j : ℕ) (y : List ℕ) (l : ℕ) (o' : List ℕ) : Type 0 where
  pub end : k ≡ i + length x
  pub far : l ≡ j + length y
  pub apart : k ≤ j
  pub is : o' ≡ sets (sets o i x) j y

pub beside_none : (o : List ℕ) (i j : ℕ) → i ≤ j → Beside o i [] i j [] j o
beside_none o i j h = record { end = omega arith; far = omega arith; apart = h; is = refl }

pub beside_long : {o o₁ x y : List ℕ} {i j k l : ℕ} → Beside o i x k j y l o₁ → length o₁ ≡ length o
beside_long {o} {x = x} {y = y} {i = i} {j = j} b = ap length b.is ∙ length-sets (sets o i x) j y ∙ length-sets o i x

-- more at the first place, more at the second
module _ {o o₁ o₂ x y : List ℕ} {i j k l : ℕ} where
  pub beside_first : {x' : List ℕ} {k' : ℕ} → Beside o i x k j y l o₁ → Wrote o₁ k x' k' o₂ → k' ≤ j → Beside o i (x ++ x') k' j y l o₂
  beside_first {x' = x'} b w h = record {
    end = omega (arith, b.end, w.end, length-append x x');
    far = b.far;
    apart = h;
    is =
        w.is ∙ ap (λ (m : List ℕ). sets m k x') b.is ∙ sets_apart (sets o i x) k x' j y (omega (arith, w.end))
        ∙ ap (λ (m : List ℕ). sets m j y) (ap (λ (n : ℕ). sets (sets o i x) n x') b.end ∙ sets_append o i x x');
  }

  pub beside_second : {y' : List ℕ} {l' : ℕ} → Beside o i x k j y l o₁ → Wrote o₁ l y' l' o₂ → Beside o i x k j (y ++ y') l' o₂
  beside_second {y' = y'} b w = record {
    end = b.end;
    far = omega (arith, b.far, w.end, length-append y y');
    apart = b.apart;
    is = w.is ∙ ap₂ (λ (m : List ℕ) (n : ℕ). sets m n y') b.is b.far ∙ sets_append (sets o i x) j y y';
  }

-- more at both
pub beside_then : {o o₁ o₂ x y x' y' : List ℕ} {i j k l k' l' : ℕ} → Beside o i x k j y l o₁ → Beside o₁ k x' k' l y' l' o₂ → k' ≤ j
    → Beside o i (x ++ x') k' j (y ++ y') l' o₂
beside_then b c h = beside_second (beside_first b (record { end = c.end; is = refl }) h) (record { end = c.far; is = c.is })

-- where the first ends as the second begins, they are one
pub beside_joined : {o o₁ x y : List ℕ} {i j l : ℕ} → Beside o i x j j y l o₁ → Wrote o i (x ++ y) l o₁
beside_joined {x = x} {y = y} b = then {x = x} {y = y} (record { end = b.end; is = refl }) (record { end = b.far; is = b.is })

-- ---- a list's lengths and its parts: a loop begins behind the count with `listed_none`, has in each turn room for a part and for its length by
-- `listed_space`, writes the part and then its length (`listed_more`), and ends with `listed_all`

-- the first n parts are written, their lengths from i to k and their bytes, behind the place of all lengths, up to l
pub record Listed {A : Type 0} (f : Format A) (vs : List A) (n : ℕ) (o : List ℕ) (i k l : ℕ) (o' : List ℕ) : Type 0 where
  pub beside : Beside o i (lengths f (take n vs)) k (i + 4 * length vs) (bodies f (take n vs)) l o'

-- what a loop that has come to the part v needs to know: its bytes have room where those of all parts have, so has its length, and no byte moved
pub record Space {A : Type 0} (f : Format A) (vs : List A) (v : A) (o : List ℕ) (i k l : ℕ) (o' : List ℕ) : Type 0 where
  pub part : l + length (f.write v) ≤ i + 4 * length vs + length (bodies f vs)
  pub entry : k + 4 ≤ l
  pub long : length o' ≡ length o

bodies_split : {A : Type 0} (f : Format A) (n : ℕ) (vs : List A) → length (bodies f (take n vs)) + length (bodies f (drop n vs)) ≡ length (bodies f vs)
unfolding bodies
bodies_split f zero vs = omega arith
bodies_split f (suc n) [] = refl
bodies_split f (suc n) (v ∷ vs) =
    omega (arith, bodies_split f n vs, length-append (f.write v) (bodies f (take n vs)), length-append (f.write v) (bodies f vs))

module _ {A : Type 0} {f : Format A} {vs : List A} where
  pub listed_none : {o : List ℕ} {i j : ℕ} → j ≡ i + 4 * length vs → Listed f vs 0 o i i j o
  unfolding lengths bodies
  listed_none {o = o} {i = i} h = record { beside = rw h (beside_none o i (i + 4 * length vs) (omega arith)) }

  module _ {n : ℕ} {o o₁ : List ℕ} {i k l : ℕ} (b : Listed f vs n o i k l o₁) where
    module _ {v : A} {m : List A} (d : drop n vs ≡ v ∷ m) where
      past : k + 4 ≤ i + 4 * length vs
      past =
          let e : length vs - n ≡ suc (length m) = sym (length-drop n vs) ∙ ap length d in
          omega (arith, b.beside.end, lengths_length f (take n vs), length-take-le n vs (omega arith))

      pub listed_space : Space f vs v o i k l o₁
      unfolding bodies
      listed_space =
          let e : length (bodies f (drop n vs)) ≡ length (f.write v) + length (bodies f m) = ap (λ (w : List A). length (bodies f w)) d ∙ length-append (f.write v) (bodies f m) in
          record {
            part = omega (arith, b.beside.far, bodies_split f n vs);
            entry = omega (arith, past, b.beside.far);
            long = beside_long b.beside;
          }

      -- the next part, then its length: how far the cursor went
      pub listed_more : {o₂ o₃ : List ℕ} {k' l' : ℕ} → Wrote o₁ l (f.write v) l' o₂ → Wrote o₂ k (le 4 (l' - l)) k' o₃ → Listed f vs (n + 1) o i k' l' o₃
      listed_more {o₂ = o₂} {o₃ = o₃} {k' = k'} {l' = l'} p q =
          let t : take (n + 1) vs ≡ take n vs ++ v ∷ [] = take-add n 1 vs ∙ ap (λ (w : List A). take n vs ++ take 1 w) d in
          let z : l' - l ≡ length (f.write v) = omega (arith, p.end) in
          let q' : Wrote o₂ k (le 4 (length (f.write v))) k' o₃ = rw z at q in
          record {
            beside =
                rw (t, lengths_snoc f (take n vs) v, bodies_snoc f (take n vs) v) (beside_first (beside_second b.beside p) q' (omega (arith, past, q'.end)));
          }

    -- all parts, behind their number
    pub listed_all : {o' : List ℕ} {at c : ℕ} → length vs ≤ n → Wrote o' at (le 4 c) i o → c ≡ length vs → Wrote o' at ((list_of 4 f).write vs) l o₁
    listed_all h w e =
        let t : take n vs ≡ vs = take_all n vs h in
        let x : Beside o i (lengths f vs) k (i + 4 * length vs) (bodies f vs) l o₁ = rw t at b.beside in
        let y : k ≡ i + 4 * length vs = omega (arith, x.end, lengths_length f vs) in
        spelt (ap (λ (n : ℕ). le 4 n ++ (lengths f vs ++ bodies f vs)) e ∙ sym (list_bytes f vs)) (then w (beside_joined (rw y at x)))

-- ---- a run's rows and its contents

pub wrote_run_beside : (e : BoundExpr) {n : ℕ} {o o₁ o₂ : List ℕ} {at i j l : ℕ}
    → Wrote o at (le 4 n) i o₁ → Beside o₁ i (rows_from 0 e) j j (content_bytes e) l o₂ → n ≡ size e → Wrote o at (bound_expression.write e) l o₂
wrote_run_beside e w b s =
    spelt (ap (λ (n : ℕ). le 4 n ++ (rows_from 0 e ++ content_bytes e)) s ∙ sym (run_bytes_lem e)) (then w (beside_joined b))
