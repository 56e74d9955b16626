-- How many nodes an expression's nodes are bound to: one each, but for parentheses and for a sign directly over a number.
-- Assumes nothing.
use Rattle.std.specs.Prelude.{◌≡◌, Bool, true, false, cond, List, ltb, eqb}
use Rattle.std.proofs.Common.{◌∙◌, add-suc, add-one}
use Rattle.std.proofs.Math.Path.{refl, sym, ap}
use Prim.Native.Nat.{ℕ, zero, suc, ◌+◌, ◌-◌, ◌<◌, ◌≤◌}
use Rattle.std.proofs.Math.Decide.{dec_lt}
use native.Mathlib.Omega.{arith}
use borrow.Author.Tests.{eqb-true, lt-ltb, le-ltb, eq-eqb, ne_eqb}
use Rattle.bytes_wire.specs.Le.{Bytes}
use Rattle.tree.specs.Tree.{leaf, un, bin, size}
use Rattle.rules.specs.declared.BoundBinaryOperator.{BoundBinaryOperator}
use Rattle.rules.specs.Bound.{Marked, BoundLeaf, BoundUnary, BoundExpr}
use Rattle.rules.specs.Statements.{Expr}
use Rattle.bytes_bundle.specs.Decides.{and_of}
use Rattle.image_expression.specs.Place.{Node, node_count, node_at, leaf_kind, un_kind, bin_kind, top, Root, IsImage, HasNode}
use Rattle.image_expression.specs.Heads.{leaf_range, un_range, bin_range}
use Rattle.image_expression.specs.Trees.{kind_of, size_pos, root_span}
use Rattle.image_expression.specs.Laws.{placed}
use Rattle.write_expression.specs.Signs.{signs, number_below}
use Rattle.write_expression.specs.Binds.{BindsWhole, Binds, bind_root, leaf_binds, number_binds, parens_binds, null_binds, operator_binds, binary_binds}

-- how many nodes node i is bound to, without its operands
unfoldable pub weight : (ℕ → Node) → ℕ → ℕ
weight v i = cond (eqb (v i).kind 9) 0 (cond (ltb (v i).kind 12) 1 (cond (signs (v i).kind (v (i - 1))) 0 1))

-- and n nodes from node a on
unfoldable pub total : (ℕ → Node) → ℕ → ℕ → ℕ
total v a zero = 0
total v a (suc n) = total v a n + weight v (a + n)

-- ---- the weight of a node, by its kind

module _ (v : ℕ → Node) (i k : ℕ) (is : k ≡ (v i).kind) where
  pub parens_weight : k ≡ 9 → weight v i ≡ 0
  unfolding weight
  parens_weight h = rw (← is, eq-eqb k 9 h)

  pub small_weight : (k ≡ 9 → ⊥) → k < 12 → weight v i ≡ 1
  unfolding weight
  small_weight n h = rw (← is, ne_eqb k 9 n, lt-ltb k 12 h)

  pub signed_weight : 12 ≤ k → signs k (v (i - 1)) ≡ true → weight v i ≡ 0
  unfolding weight
  signed_weight h f = rw (← is, ne_eqb k 9 (λ z. omega arith), le-ltb k 12 h, f)

  pub unsigned_weight : 12 ≤ k → signs k (v (i - 1)) ≡ false → weight v i ≡ 1
  unfolding weight
  unsigned_weight h f = rw (← is, ne_eqb k 9 (λ z. omega arith), le-ltb k 12 h, f)

pub weight_few : (v : ℕ → Node) (i : ℕ) → weight v i ≤ 1
unfolding weight
weight_few v i = go (eqb (v i).kind 9) (ltb (v i).kind 12) (signs (v i).kind (v (i - 1)))
  where
    go : (a b c : Bool) → cond a 0 (cond b 1 (cond c 0 1)) ≤ 1
    go true b c = omega arith
    go false true c = omega arith
    go false false true = omega arith
    go false false false = omega arith

-- ---- sums

module _ (v : ℕ → Node) (a : ℕ) where
  pub total_one : (n : ℕ) → total v a (n + 1) ≡ total v a n + weight v (a + n)
  unfolding total
  total_one n = rw (add-one n)

  total_both : (m n : ℕ) → total v a (m + n) ≡ total v a m + total v (a + m) n
  unfolding total
  total_both m zero = let e : m + 0 ≡ m = omega arith in rw e (omega arith)
  total_both m (suc n) =
      let e : a + (m + n) ≡ a + m + n = omega arith in
      rw (add-suc m n, e) (omega (arith, total_both m n))

  pub total_few : (n : ℕ) → total v a n ≤ n
  unfolding total
  total_few zero = omega arith
  total_few (suc n) = omega (arith, total_few n, weight_few v (a + n))

-- ---- a tree's nodes are bound to as many as its bound expression has

leaf_size_lem : {b : BoundExpr} {l : Marked BoundLeaf} → b ≡ leaf l → size b ≡ 1
unfolding size
leaf_size_lem h = ap size h

un_size : {b a : BoundExpr} {n : Marked BoundUnary} → b ≡ un n a → size b ≡ size a + 1
unfolding size
un_size h = ap size h

bin_size : {b a c : BoundExpr} {n : Marked BoundBinaryOperator} → b ≡ bin n a c → size b ≡ size a + size c + 1
unfolding size
bin_size h = ap size h

number_size : (v : ℕ → Node) (j : ℕ) (y : Expr) → Root v j y → (v j).kind ≡ 2 → size y ≡ 1
unfolding size
number_size v j y g z = ap size (number_below v j y g z)

module _ (t e : List ℕ) where
  abbrev v : ℕ → Node
  v = node_at e

  -- node i has one operand, whose n nodes stand from node a on
  un_counted : {i k : ℕ} {b : BoundExpr} (y : Expr) → k ≡ (v i).kind → 9 ≤ k → k < 16 → Root v (i - 1) y → 1 ≤ i → Binds t e i b → (a : ℕ) → a + size y ≡ i
      → ((c : BoundExpr) → Binds t e (i - 1) c → total v a (size y) ≡ size c) → total v a (size y) + weight v i ≡ size b
  un_counted {i} {k} {b} y is lo hi g p h a q ih = go (dec_lt k 10) (dec_lt k 12) (signs k (v (i - 1))) refl
    where
      go : Dec (k < 10) → Dec (k < 12) → (f : Bool) → signs k (v (i - 1)) ≡ f → total v a (size y) + weight v i ≡ size b
      go (yes l) d f z = omega (arith, ih b (parens_binds h k is (omega arith)), parens_weight v i k is (omega arith))
      go (no n) (yes l) f z =
          let u = null_binds h k is (omega arith) l in
          omega (arith, ih u.operand u.below, small_weight v i k is (λ w. omega arith) l, un_size u.is)
      go (no n) (no m) true z =
          let w : (v (i - 1)).kind ≡ 2 = eqb-true _ 2 (and_of (ltb k 14) (eqb (v (i - 1)).kind 2) z).1 in
          let c : size y ≡ 1 = number_size v (i - 1) y g w in
          let j : a + 0 ≡ i - 1 = omega arith in
          let s : total v a (size y) ≡ 1 =
          ap (total v a) c ∙ total_one v a 0 ∙ ap (λ (r : ℕ). total v a 0 + weight v r) j
          ∙ omega (arith, total_few v a 0, small_weight v (i - 1) 2 (sym w) (λ r. omega arith) (omega arith)) in
          omega (arith, s, signed_weight v i k is (omega arith) z, leaf_size_lem (number_binds h k is (omega arith) z).is)
      go (no n) (no m) false z =
          let u = operator_binds h k is (omega arith) hi z in
          omega (arith, ih u.operand u.below, unsigned_weight v i k is (omega arith) z, un_size u.is)

  counted : (i : ℕ) (x : Expr) → Root v i x → (b : BoundExpr) → Binds t e i b → (a : ℕ) → a + size x ≡ i + 1 → total v a (size x) ≡ size b
  unfolding Root top size
  counted i (leaf l) g b h a q =
      let is : leaf_kind l ≡ (v i).kind = sym (ap kind_of g) in
      let j : a + 0 ≡ i = omega arith in
      let z : total v a 1 ≡ total v a 0 + weight v i = total_one v a 0 ∙ ap (λ (r : ℕ). total v a 0 + weight v r) j in
      omega (arith, z, total_few v a 0, small_weight v i (leaf_kind l) is (λ w. omega (arith, leaf_range l)) (omega (arith, leaf_range l)), leaf_size_lem (leaf_binds h (leaf_kind l) is (leaf_range l)).is)
  counted i (un o y) g b h a q =
      let is : un_kind o ≡ (v i).kind = sym (ap kind_of g.0) in
      let j : a + size y ≡ i = omega arith in
      total_one v a (size y) ∙ ap (λ (r : ℕ). total v a (size y) + weight v r) j
      ∙ un_counted y is (un_range o).0 (un_range o).1 g.2 g.1 h a j (λ c d. counted (i - 1) y g.2 c d a (omega (arith, g.1)))
  counted i (bin o y z) g b h a q =
      let is : bin_kind o ≡ (v i).kind = sym (ap kind_of g.0) in
      let j : a + (size y + size z) ≡ i = omega arith in
      let u = binary_binds h (bin_kind o) is (bin_range o).0 (size z) (sym (root_span v (i - 1) z g.3)) in
      let l = counted (i - 1 - size z) y g.2 u.left u.first a (omega (arith, g.1)) in
      let r = counted (i - 1) z g.3 u.right u.last (a + size y) (omega (arith, g.1)) in
      let w = unsigned_weight v i (bin_kind o) is (omega (arith, bin_range o)) (rw (le-ltb (bin_kind o) 14 (omega (arith, bin_range o)))) in
      total_one v a (size y + size z) ∙ ap (λ (k : ℕ). total v a (size y + size z) + weight v k) j
      ∙ omega (arith, total_both v a (size y) (size z), l, r, w, bin_size u.is)

-- all nodes of an expression
pub all_counted : {t e : List ℕ} {b : BoundExpr} → Bytes e → BindsWhole t e b → total (node_at e) 0 (node_count e) ≡ size b
all_counted {t} {e} {b} y h =
    let p = placed y h.reads in
    rw (← p.1) (counted t e (node_count e - 1) h.tree p.0 b (bind_root y h) 0 (omega (arith, p.1, size_pos h.tree)))

-- ---- the loop

-- the first i of n nodes are counted
pub record Counting (e : List ℕ) (n sum i : ℕ) : Type 0 where
  pub image : IsImage e
  pub count : n ≡ node_count e
  pub here : i ≤ n
  pub is : sum ≡ total (node_at e) 0 i

module _ {e : List ℕ} {n : ℕ} where
  pub counting : IsImage e → n ≡ node_count e → Counting e n 0 0
  unfolding total
  counting h c = record { image = h; count = c; here = omega arith; is = refl }

  pub counting_node : {sum i : ℕ} → Counting e n sum i → i < n → HasNode e i
  counting_node k l = record { image = k.image; within = omega (arith, k.count) }

  pub counting_few : {sum i : ℕ} → Counting e n sum i → sum ≤ i
  counting_few {i = i} k = omega (arith, k.is, total_few (node_at e) 0 i)

  pub counting_on : {sum i w : ℕ} → Counting e n sum i → i < n → w ≡ weight (node_at e) i → Counting e n (sum + w) (i + 1)
  counting_on {sum} {i} {w} k l h =
      let z : 0 + i ≡ i = omega arith in
      record {
        image = k.image;
        count = k.count;
        here = omega arith;
        is = omega (arith, k.is, total_one (node_at e) 0 i, h, ap (weight (node_at e)) z);
      }

  pub counting_all : {sum i : ℕ} → Bytes e → Counting e n sum i → n ≤ i → (t : List ℕ) (b : BoundExpr) → BindsWhole t e b → sum ≡ size b
  counting_all {i = i} y k l t b h =
      let z : i ≡ node_count e = omega (arith, k.here, k.count) in
      k.is ∙ ap (total (node_at e) 0) z ∙ all_counted y h
