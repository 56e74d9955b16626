-- Writes put together: records, lists and expressions of the writes of their parts, and writes in a loop.
-- Assumes nothing.
use Rattle.std.specs.Prelude.{◌≡◌, refl, List, [], ◌++◌, ℕ, ◌+◌, length}
use Rattle.std.proofs.Common.{sym, ap₂, ◌∙◌, arith, length-append}
use Rattle.std.proofs.Math.Path.{ap}
use Rattle.std.proofs.lemmas.List.Edits.{sets}
use Rattle.std.proofs.Math.Seq.{length-sets}
use Rattle.bytes_wire.specs.Le.{le}
use Rattle.bytes_wire.specs.Sets.{Wrote, then, sets_append}
use Rattle.tree.specs.Tree.{size}
use Rattle.bytes_format.specs.Format.{Format}
use Rattle.bytes_format.proofs.Formats.{list_of}
use Rattle.rules.specs.Bound.{BoundExpr}
use Rattle.image_bound.specs.Expression.{bound_expression}
use Rattle.image_bound.specs.Bundles.{lengths, bodies, list_bytes, head2, head3, record2, record3}
use Rattle.image_bound.specs.Runs.{rows_from, content_bytes, run_bytes_lem}

-- what `then` joined is brought to a layout's own `write` so
pub spelt : {o o' x y : List ℕ} {i j : ℕ} → x ≡ y → Wrote o i x j o' → Wrote o i y j o'
spelt e w = rw e at w

-- where a write ends, by the length of its bytes: what the next write's room wants
pub ended : {o o' x : List ℕ} {i j n : ℕ} → Wrote o i x j o' → length x ≡ n → j ≡ i + n
ended w h = omega (arith, w.end, h)

-- ---- a head, and the parts behind it

module _ {o o₁ o₂ o₃ : List ℕ} {i j k l : ℕ} where
  pub wrote_record2 : {m n : ℕ} {a b : List ℕ} → Wrote o i (head2 m n) j o₁ → Wrote o₁ j a k o₂ → Wrote o₂ k b l o₃ → m ≡ length a → n ≡ length b
      → Wrote o i (record2 a b) l o₃
  unfolding record2
  wrote_record2 {a = a} {b = b} h p q em en = spelt (ap₂ (λ (m n : ℕ). head2 m n ++ (a ++ b)) em en) (then h (then p q))

  pub wrote_record3 : {o₄ : List ℕ} {e m n r : ℕ} {a b c : List ℕ}
      → Wrote o i (head3 m n r) j o₁ → Wrote o₁ j a k o₂ → Wrote o₂ k b l o₃ → Wrote o₃ l c e o₄ → m ≡ length a → n ≡ length b → r ≡ length c
      → Wrote o i (record3 a b c) e o₄
  unfolding record3
  wrote_record3 {r = r} {a = a} {b = b} {c = c} h p q s em en er =
      spelt (ap₂ (λ (m n : ℕ). head3 m n r ++ (a ++ (b ++ c))) em en ∙ ap (λ (r : ℕ). head3 (length a) (length b) r ++ (a ++ (b ++ c))) er)
      (then h (then p (then q s)))

  pub wrote_list : {A : Type 0} (f : Format A) (vs : List A) {n : ℕ}
      → Wrote o i (le 4 n) j o₁ → Wrote o₁ j (lengths f vs) k o₂ → Wrote o₂ k (bodies f vs) l o₃ → n ≡ length vs → Wrote o i ((list_of 4 f).write vs) l o₃
  wrote_list f vs h p q e =
      spelt (ap (λ (n : ℕ). le 4 n ++ (lengths f vs ++ bodies f vs)) e ∙ sym (list_bytes f vs)) (then h (then p q))

  pub wrote_run : (e : BoundExpr) {n : ℕ}
      → Wrote o i (le 4 n) j o₁ → Wrote o₁ j (rows_from 0 e) k o₂ → Wrote o₂ k (content_bytes e) l o₃ → n ≡ size e → Wrote o i (bound_expression.write e) l o₃
  wrote_run e h p q s =
      spelt (ap (λ (n : ℕ). le 4 n ++ (rows_from 0 e ++ content_bytes e)) s ∙ sym (run_bytes_lem e)) (then h (then p q))

-- ---- loops

-- A loop's invariant: what is left, written from index j on, gives the whole from index i on.
pub record Rest (o : List ℕ) (i : ℕ) (whole left : List ℕ) (j : ℕ) (o' : List ℕ) : Type 0 where
  pub room : j + length left ≡ i + length whole
  pub long : length o' ≡ length o
  pub is : sets o' j left ≡ sets o i whole

-- before the first turn
pub rest_all : (o : List ℕ) (i : ℕ) (x : List ℕ) → Rest o i x x i o
rest_all o i x = record { room = refl; long = refl; is = refl }

-- a turn, which writes the first of what is left
pub rest_less : {o o₁ o₂ x y l : List ℕ} {i j k : ℕ} → Rest o i x (y ++ l) j o₁ → Wrote o₁ j y k o₂ → Rest o i x l k o₂
rest_less {o₁ = o₁} {y = y} {l = l} {j = j} r w = record {
  room = omega (arith, r.room, w.end, length-append y l);
  long = ap length w.is ∙ length-sets o₁ j y ∙ r.long;
  is = ap₂ (λ (m : List ℕ) (n : ℕ). sets m n l) w.is w.end ∙ sets_append o₁ j y l ∙ r.is;
}

-- after the last turn
pub rest_none : {o o' x : List ℕ} {i j : ℕ} → Rest o i x [] j o' → Wrote o i x j o'
rest_none r = record { end = omega (arith, r.room); is = r.is }
