-- How deep the tree at a node is: what the answers for the operands make of the node's, and what is left to ask on the way down (`Asks`).
-- Assumes nothing.
use mathlib.Core.Path.{◌≡◌, ◌∙◌, refl, sym}
use mathlib.Core.Bool.{Bool, true, false, not}
use mathlib.Core.List.{List}
use Prim.Native.Nat.{ℕ, ◌+◌, ◌-◌, ◌<◌, ◌≤◌, max}
use native.Mathlib.Omega.{arith}
use native.Mathlib.Decide.{dec_le}
use lib.Dec.{leb}
use borrow.Author.Tests.{le-leb, lt-leb, leb-true, leb-false, not-true, not-false}
use Rattle.bytes_wire.specs.Le.{Bytes}
use Rattle.tree.specs.Tree.{leaf, un, bin, depth}
use Rattle.rules.specs.Statements.{Expr}
use Rattle.image_expression.specs.Place.{Node, node_at, Root, HasNode}
use Rattle.image_expression.specs.Laws.{leaf_at, un_at, bin_at, last_operand, first_operand}

depth_pos : (e : Expr) → 1 ≤ depth e
unfolding depth
depth_pos (leaf l) = omega arith
depth_pos (un o a) = omega arith
depth_pos (bin o a b) = omega arith

-- two tests that come to the same
leb_same : (a b c d : ℕ) → (a ≤ b → c ≤ d) → (c ≤ d → a ≤ b) → leb a b ≡ leb c d
leb_same a b c d f g = go (dec_le a b)
  where
    go : Dec (a ≤ b) → leb a b ≡ leb c d
    go (yes h) = le-leb a b h ∙ sym (le-leb c d (f h))
    go (no h) = lt-leb a b (omega arith) ∙ sym (lt-leb c d (not_le (dec_le c d)))
      where
        not_le : Dec (c ≤ d) → d < c
        not_le (yes k) = absurd (h (g k))
        not_le (no k) = omega arith

-- the answer r says whether the tree at node i is at most m deep
abbrev pub Told : (ℕ → Node) → ℕ → ℕ → Bool → Type 0
Told v i m r = (e : Expr) → Root v i e → r ≡ leb (depth e) m

module _ (v : ℕ → Node) (i m : ℕ) where
  no_budget : m ≤ 0 → Told v i m false
  no_budget z e h = sym (lt-leb (depth e) m (omega (arith, depth_pos e)))

  module _ (some : 0 < m) (k : ℕ) (is : k ≡ (v i).kind) where
    at_leaf : k < 9 → Told v i m true
    unfolding depth
    at_leaf hi e h = rw (leaf_at v i k is e h hi) (sym (le-leb 1 m (omega arith)))

    one_told : 9 ≤ k → k < 16 → (q : Bool) → Told v (i - 1) (m - 1) q → Told v i m q
    unfolding depth
    one_told lo hi q last e h =
        let u = un_at v i k is e h lo hi in
        let x = depth u.operand in
        rw u.is (last u.operand u.root ∙ leb_same x (m - 1) (x + 1) m (omega arith) (omega arith))

    module _ (lo : 16 ≤ k) (r : Bool) (last : Told v (i - 1) (m - 1) r) (n : ℕ) (d : n ≡ (v (i - 1)).span) where
      last_deep : not r ≡ true → Told v i m false
      unfolding depth
      last_deep f e h =
          let t = bin_at v i k is n d e h lo in
          let x = depth t.left in
          let y = depth t.right in
          let g : m - 1 < y = leb-false y (m - 1) (sym (last t.right t.right_root) ∙ not-true r f) in
          rw t.is (sym (lt-leb (max x y + 1) m (omega arith)))

      two_told : not r ≡ false → (q : Bool) → Told v (i - 1 - n) (m - 1) q → Told v i m q
      unfolding depth
      two_told f q first e h =
          let t = bin_at v i k is n d e h lo in
          let x = depth t.left in
          let y = depth t.right in
          let g : y ≤ m - 1 = leb-true y (m - 1) (sym (last t.right t.right_root) ∙ not-false r f) in
          rw t.is (first t.left t.left_root ∙ leb_same x (m - 1) (max x y + 1) m (omega arith) (omega arith))

-- what is left to ask: whether the tree at node j is at most m deep is whether the tree at node i is at most n deep
pub record Asks (s : List ℕ) (i n j m : ℕ) : Type 0 where
  pub node : HasNode s j
  pub fewer : m ≤ n
  pub answers : (r : Bool) → Told (node_at s) j m r → Told (node_at s) i n r

pub begun : {s : List ℕ} {i n : ℕ} → HasNode s i → Asks s i n i n
begun h = record { node = h; fewer = omega arith; answers = λ r t. t }

module _ {s : List ℕ} {i n j m : ℕ} (a : Asks s i n j m) where
  pub spent : m ≤ 0 → Told (node_at s) i n false
  spent z = a.answers false (no_budget (node_at s) j m z)

  module _ (some : 0 < m) {k : ℕ} (is : k ≡ (node_at s j).kind) where
    pub leaf_ends : k < 9 → Told (node_at s) i n true
    leaf_ends hi = a.answers true (at_leaf (node_at s) j m some k is hi)

    pub one_left : Bytes s → 9 ≤ k → k < 16 → Asks s i n (j - 1) (m - 1)
    one_left b lo hi = record {
      node = (last_operand b a.node k is lo).1;
      fewer = omega (arith, a.fewer);
      answers = λ r t. a.answers r (one_told (node_at s) j m some k is lo hi r t);
    }

    module _ (lo : 16 ≤ k) {r : Bool} (last : Told (node_at s) (j - 1) (m - 1) r) where
      pub deep_ends : not r ≡ true → Told (node_at s) i n false
      deep_ends f = a.answers false (last_deep (node_at s) j m some k is lo r last _ refl f)

      pub two_left : Bytes s → not r ≡ false → {w : ℕ} → w ≡ (node_at s (j - 1)).span → Asks s i n (j - 1 - w) (m - 1)
      two_left b f {w} d = record {
        node = (first_operand b a.node k is w d lo).1;
        fewer = omega (arith, a.fewer);
        answers = λ q t. a.answers q (two_told (node_at s) j m some k is lo r last w d f q t);
      }
