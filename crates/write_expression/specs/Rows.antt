-- A bound expression's rows and contents, written side by side: those of its operands, then its own row.
-- Assumes nothing.
use Rattle.std.specs.Prelude.{◌≡◌, ℕ, ◌+◌, ◌-◌, ◌*◌, ◌≤◌}
use mathlib.Core.List.{List, append_assoc}
use native.Mathlib.Omega.{arith}
use Rattle.std.proofs.Math.ListN.{length}
use Rattle.bytes_wire.specs.Sets.{Wrote}
use Rattle.tree.specs.Tree.{leaf, un, bin, size}
use Rattle.rules.specs.declared.Mark.{Mark}
use Rattle.rules.specs.declared.BoundBinaryOperator.{BoundBinaryOperator}
use Rattle.rules.specs.Bound.{Marked, BoundLeaf, BoundUnary, BoundExpr, mark_of}
use Rattle.rules.specs.Marking.{operator_no}
use Rattle.image_bound.specs.Expression.{unary_no}
use Rattle.image_bound.specs.Nodes.{node_bytes, node_length}
use Rattle.image_bound.specs.Runs.{kind_no, leaf_bytes, content_bytes, content_length, rows_from, root_row}
use Rattle.image_bound.specs.Beside.{Beside, beside_none, beside_first, beside_second, beside_then}
use Rattle.write_expression.specs.declared.Bound.{Bound}
use Rattle.write_expression.specs.declared.Leaf.{Leaf}
use Rattle.write_expression.specs.Leaves.{leaf_mark, Put}

-- the row of a node is written behind those of the `nodes` nodes below it, whose contents have `content` bytes
pub record Rooted (kind : ℕ) (mark : Mark) (nodes from content : ℕ) (o : List ℕ) (row : ℕ) (r : Bound) (o' : List ℕ) : Type 0 where
  pub is : r ≡ record { mark = mark; nodes = nodes + 1; content = content }
  pub wrote : Wrote o (row + 11 * nodes) (node_bytes kind mark (nodes + 1) (from + content)) (row + 11 * (nodes + 1)) o'

pub rooted : {kind nodes from content row j : ℕ} {mark : Mark} {o o' : List ℕ} {r : Bound} → r ≡ record { mark = mark; nodes = nodes + 1; content = content }
    → Wrote o (row + 11 * nodes) (node_bytes kind mark (nodes + 1) (from + content)) j o' → Rooted kind mark nodes from content o row r o'
rooted {kind = kind} {nodes = nodes} {from = from} {content = content} {mark = mark} e w = record {
  is = e;
  wrote = record { end = omega (arith, node_length kind mark (nodes + 1) (from + content)); is = w.is };
}

-- the rows of b are written from `row` on, and its contents from `content` on
abbrev pub Sides : BoundExpr → ℕ → List ℕ → ℕ → ℕ → List ℕ → Type 0
Sides b from o row content o' = Beside o row (rows_from from b) (row + 11 * size b) content (content_bytes b) (content + content_length b) o'

-- and r tells its mark and how much that is
pub record Laid (b : BoundExpr) (from : ℕ) (o : List ℕ) (row content : ℕ) (r : Bound) (o' : List ℕ) : Type 0 where
  pub is : r ≡ record { mark = mark_of b; nodes = size b; content = content_length b }
  pub bytes : Sides b from o row content o'

-- ---- the bytes

module _ (from : ℕ) {o o₁ o₂ : List ℕ} (row content : ℕ) where
  leaf_sides : (l : Marked BoundLeaf) → Wrote o content (leaf_bytes l.kind) (content + length (leaf_bytes l.kind)) o₁
      → Wrote o₁ row (root_row from (leaf l)) (row + 11) o₂ → row + 11 ≤ content → Sides (leaf l) from o row content o₂
  unfolding rows_from content_bytes content_length size
  leaf_sides l p w h = beside_first (beside_second (beside_none o row content (omega arith)) p) w h

  un_sides : (n : Marked BoundUnary) (a : BoundExpr) → Sides a from o row content o₁ → Wrote o₁ (row + 11 * size a) (root_row from (un n a)) (row + 11 * (size a + 1)) o₂
      → row + 11 * (size a + 1) ≤ content → Sides (un n a) from o row content o₂
  unfolding rows_from content_bytes content_length size
  un_sides n a x w h = beside_first x w h

  bin_sides : {o₃ : List ℕ} (n : Marked BoundBinaryOperator) (a b : BoundExpr) → Sides a from o row content o₁
      → Sides b (from + content_length a) o₁ (row + 11 * size a) (content + content_length a) o₂
      → Wrote o₂ (row + 11 * (size a + size b)) (root_row from (bin n a b)) (row + 11 * (size a + size b + 1)) o₃ → row + 11 * (size a + size b + 1) ≤ content
      → Sides (bin n a b) from o row content o₃
  unfolding rows_from content_bytes content_length size
  bin_sides n a b x y w h =
      let e : row + 11 * (size a + size b) ≡ row + 11 * size a + 11 * size b = omega arith in
      let f : content + content_length a + content_length b ≡ content + (content_length a + content_length b) = omega arith in
      rw (← append_assoc (rows_from from a) (rows_from (from + content_length a) b) (root_row from (bin n a b)))
      (beside_first (beside_then x (rw f at y) (omega arith)) (rw e at w) h)

-- ---- the steps

module _ {from : ℕ} {o o₁ o₂ : List ℕ} {row content : ℕ} {r : Bound} where
  pub laid_leaf : {l : Marked BoundLeaf} {p : Leaf} → Put l o content p o₁ → Rooted p.kind (leaf_mark p) 0 from (p.«end» - content) o₁ row r o₂
      → row + 11 ≤ content → Laid (leaf l) from o row content r o₂
  unfolding content_length size kind_no
  laid_leaf {l = l} {p = p} q g h =
      let z : p.«end» - content ≡ length (leaf_bytes l.kind) = omega (arith, q.wrote.end) in
      let i : row + 11 * 0 ≡ row = omega arith in
      let j : row + 11 * (0 + 1) ≡ row + 11 = omega arith in
      record {
        is = rw (z, q.mark) at g.is;
        bytes = leaf_sides from row content l (rw q.wrote.end at q.wrote) (rw (z, q.mark, q.kind, i, j) at g.wrote) h;
      }

  pub laid_un : {n : Marked BoundUnary} {a : BoundExpr} {code : ℕ} {m : Mark} {s : Bound} → Laid a from o row content s o₁ → code ≡ 2 + unary_no n.kind → m ≡ n.mark
      → Rooted code m s.nodes from s.content o₁ row r o₂ → row + 11 * (size a + 1) ≤ content → Laid (un n a) from o row content r o₂
  unfolding content_length size kind_no
  laid_un {n = n} {a = a} x k e g h = record {
    is = rw (x.is, e) at g.is;
    bytes = un_sides from row content n a x.bytes (rw (x.is, e, k) at g.wrote) h;
  }

  pub laid_bin : {n : Marked BoundBinaryOperator} {a b : BoundExpr} {code : ℕ} {m : Mark} {o₃ : List ℕ} {s u : Bound} → Laid a from o row content s o₁
      → Laid b (from + s.content) o₁ (row + 11 * s.nodes) (content + s.content) u o₂ → code ≡ 7 + operator_no n.kind → m ≡ n.mark
      → Rooted code m (s.nodes + u.nodes) from (s.content + u.content) o₂ row r o₃ → row + 11 * (size a + size b + 1) ≤ content
      → Laid (bin n a b) from o row content r o₃
  unfolding content_length size kind_no
  laid_bin {n = n} {a = a} {b = b} x y k e g h = record {
    is = rw (x.is, y.is, e) at g.is;
    bytes = bin_sides from row content n a b x.bytes (rw x.is at y.bytes) (rw (x.is, y.is, e, k) at g.wrote) h;
  }
