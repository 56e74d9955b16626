-- One step of writing: what a node has to ask of its operands, and what they and its own row make of it.
-- Assumes nothing.
use mathlib.Core.Path.{◌≡◌, sym, ap, subst, ◌∙◌}
use mathlib.Core.Bool.{false}
use mathlib.Core.List.{List}
use Prim.Native.Nat.{ℕ, ◌+◌, ◌-◌, ◌*◌, ◌≤◌, ◌<◌}
use native.Mathlib.Decide.{dec_lt}
use native.Mathlib.Omega.{arith}
use lib.ListN.{length}
use Rattle.tree.specs.Tree.{size}
use Rattle.rules.specs.declared.ExpressionType.TheVariants as type
use Rattle.rules.specs.declared.Mark.{Mark}
use Rattle.rules.specs.Answers.{fine}
use Rattle.rules.specs.Bound.{Marked, BoundLeaf, BoundExpr, mark_of}
use Rattle.rules.specs.Lookup as lookup
use Rattle.rules.specs.Marking.{unary_rule, binary_rule}
use Rattle.image_expression.specs.Place.{un_of, bin_of}
use Rattle.image_bound.specs.Runs.{content_length}
use Rattle.image_bound.specs.Beside.{wrote_long, beside_long}
use Rattle.write_expression.specs.declared.Bound.{Bound}
use Rattle.write_expression.specs.declared.Leaf.{Leaf}
use Rattle.write_expression.specs.Binds.{Binds, binds_once, LeafBinds, UnBinds, BinBinds}
use Rattle.write_expression.specs.Leaves.{leaf_mark, Puts}
use Rattle.write_expression.specs.Rows.{Rooted, Laid, laid_leaf, laid_un, laid_bin}
use Rattle.write_expression.specs.Writes.{Writable, Writes, leaf_row, leaf_content, un_rows, un_contents, bin_rows, bin_contents}
use Rattle.write_expression.specs.Fine.{IsFine}
use Rattle.write_expression.proofs.Contents.{fine_same}

module _ {b : BoundExpr} {from : ℕ} {o : List ℕ} {row content : ℕ} {r : Bound} {o' : List ℕ} (x : Laid b from o row content r o') where
  laid_mark : r.mark ≡ mark_of b
  laid_mark = ap (λ (s : Bound). s.mark) x.is

  laid_nodes : r.nodes ≡ size b
  laid_nodes = ap (λ (s : Bound). s.nodes) x.is

  pub laid_content : r.content ≡ content_length b
  laid_content = ap (λ (s : Bound). s.content) x.is

-- the rule of IS NULL and IS NOT NULL
null_mark : (k : ℕ) (a m : Mark) → 10 ≤ k → k < 12 → unary_rule (un_of k) a ≡ fine m → lookup.mark type.Bool false ≡ m
unfolding un_of unary_rule
null_mark k a m lo hi h = go (dec_lt k 11)
  where
    go : Dec (k < 11) → lookup.mark type.Bool false ≡ m
    go (yes l) = let e : k ≡ 10 = omega arith in fine_same (rw e at h)
    go (no n) = let e : k ≡ 11 = omega arith in fine_same (rw e at h)

module _ {t e : List ℕ} {i : ℕ} {o : List ℕ} {row content from : ℕ} (w : Writable t e i o row content from) where
  writes : {r : Bound} {o' : List ℕ} → Laid w.whole from o row content r o' → Writes t e i from o row content r o'
  writes {r = r} {o' = o'} x b h = subst (λ (c : BoundExpr). Laid c from o row content r o') (binds_once w.binds h) x

  pub parens_writes : {r : Bound} {o' : List ℕ} → Binds t e (i - 1) w.whole → Writes t e (i - 1) from o row content r o' → Writes t e i from o row content r o'
  parens_writes h x = writes (x w.whole h)

  -- a leaf
  module _ {P : Marked BoundLeaf → Type 0} (l : LeafBinds P w.whole) {p : Leaf} {o₁ : List ℕ} (q : Puts P o content p o₁) where
    pub leaf_end : content ≤ p.«end»
    leaf_end = omega (arith, (q l.label l.rule).wrote.end)

    pub leaf_root : (row + 11 * (0 + 1) ≤ length o₁) × (from + (p.«end» - content) ≤ length o₁)
    leaf_root =
        let x = (q l.label l.rule).wrote in
        omega (arith, leaf_row w l, leaf_content w l, w.front, x.end, wrote_long x)

    pub leaf_writes : {r : Bound} {o₂ : List ℕ} → Rooted p.kind (leaf_mark p) 0 from (p.«end» - content) o₁ row r o₂ → Writes t e i from o row content r o₂
    leaf_writes g = writes (rw l.is (laid_leaf (q l.label l.rule) g (leaf_row w l)))

  -- one operand
  module _ {k code : ℕ} (u : UnBinds t e i k code w.whole) {s : Bound} {o₁ : List ℕ} (q : Writes t e (i - 1) from o row content s o₁) where
    below : Laid u.operand from o row content s o₁
    below = q u.operand u.below

    pub un_root : (row + 11 * (s.nodes + 1) ≤ length o₁) × (from + s.content ≤ length o₁)
    un_root = omega (arith, un_rows w u, un_contents w u, w.front, laid_nodes below, laid_content below, beside_long below.bytes)

    un_ruled : unary_rule (un_of k) s.mark ≡ fine u.node.mark
    un_ruled = rw (laid_mark below) u.rule

    pub un_fine : IsFine (unary_rule (un_of k) s.mark)
    un_fine = record { mark = u.node.mark; is = un_ruled }

    un_writes : {m : Mark} {r : Bound} {o₂ : List ℕ} → m ≡ u.node.mark → Rooted code m s.nodes from s.content o₁ row r o₂ → Writes t e i from o row content r o₂
    un_writes z g = writes (rw u.is (laid_un below u.kind z g (un_rows w u)))

    pub null_writes : {m : Mark} {r : Bound} {o₂ : List ℕ} → 10 ≤ k → k < 12 → m ≡ lookup.mark type.Bool false → Rooted code m s.nodes from s.content o₁ row r o₂
        → Writes t e i from o row content r o₂
    null_writes lo hi z g = un_writes (z ∙ null_mark k (mark_of u.operand) u.node.mark lo hi u.rule) g

    pub operator_writes : {m : Mark} {r : Bound} {o₂ : List ℕ} → unary_rule (un_of k) s.mark ≡ fine m → Rooted code m s.nodes from s.content o₁ row r o₂
        → Writes t e i from o row content r o₂
    operator_writes z g = un_writes (fine_same (sym z ∙ un_ruled)) g

  -- two operands
  module _ {k n code : ℕ} (u : BinBinds t e i k n code w.whole) {s : Bound} {o₁ : List ℕ} (q : Writes t e (i - 1 - n) from o row content s o₁) where
    pub first : Laid u.left from o row content s o₁
    first = q u.left u.first

    pub left_rows : row + 11 * s.nodes ≤ content
    left_rows = omega (arith, bin_rows w u, laid_nodes first)

    pub left_contents : content + s.content ≤ length o
    left_contents = omega (arith, bin_contents w u, laid_content first)

    module _ {v : Bound} {o₂ : List ℕ} (p : Writes t e (i - 1) (from + s.content) o₁ (row + 11 * s.nodes) (content + s.content) v o₂) where
      last : Laid u.right (from + s.content) o₁ (row + 11 * s.nodes) (content + s.content) v o₂
      last = p u.right u.last

      pub bin_sums : (row + 11 * (s.nodes + v.nodes + 1) ≤ content) × (content + (s.content + v.content) ≤ length o)
      bin_sums = omega (arith, bin_rows w u, bin_contents w u, laid_nodes first, laid_content first, laid_nodes last, laid_content last)

      long : length o₂ ≡ length o
      long = beside_long last.bytes ∙ beside_long first.bytes

      pub bin_root : (row + 11 * (s.nodes + v.nodes + 1) ≤ length o₂) × (from + (s.content + v.content) ≤ length o₂)
      bin_root = omega (arith, bin_sums, w.front, long)

      pub bin_long : {m : Mark} {r : Bound} {o₃ : List ℕ} → Rooted code m (s.nodes + v.nodes) from (s.content + v.content) o₂ row r o₃ → length o₃ ≡ length o
      bin_long g = wrote_long g.wrote ∙ long

      bin_ruled : binary_rule (bin_of k) s.mark v.mark ≡ fine u.node.mark
      bin_ruled = rw (laid_mark first, laid_mark last) u.rule

      pub bin_fine : IsFine (binary_rule (bin_of k) s.mark v.mark)
      bin_fine = record { mark = u.node.mark; is = bin_ruled }

      pub bin_writes : {m : Mark} {r : Bound} {o₃ : List ℕ} → binary_rule (bin_of k) s.mark v.mark ≡ fine m
          → Rooted code m (s.nodes + v.nodes) from (s.content + v.content) o₂ row r o₃ → Writes t e i from o row content r o₃
      bin_writes z g = writes (rw u.is (laid_bin first last u.kind (fine_same (sym z ∙ bin_ruled)) g (bin_rows w u)))
