-- What the writers of a bound expression ask for, and what they do; and how a node's room is shared out to its operands.
-- Assumes nothing.
use Rattle.std.specs.Prelude.{◌≡◌, List, ℕ, ◌+◌, ◌-◌, ◌*◌, ◌≤◌, length}
use Rattle.std.proofs.Common.{arith}
use Rattle.tree.specs.Tree.{size}
use Rattle.rules.specs.Answers.{given}
use Rattle.rules.specs.Bound.{Marked, BoundLeaf, BoundExpr}
use Rattle.rules.specs.Marking.{bind_expression}
use Rattle.rules.specs.Statements.{Expr}
use Rattle.rules.specs.Tables.{TableSchema}
use Rattle.image_catalogue.specs.Layout.{table}
use Rattle.bytes_bundle.specs.Held.{Holds, Is, held}
use Rattle.image_expression.specs.Expression.{expression}
use Rattle.image_expression.specs.Place.{IsImage, HasNode}
use Rattle.image_expression.specs.Laws.{image_tree}
use Rattle.bind_expression.specs.Marks.{NamesWithin}
use Rattle.image_bound.specs.Expression.{bound_expression}
use Rattle.image_bound.specs.Runs.{content_length, leaf_bytes, run_length}
use Rattle.image_bound.specs.Beside.{beside_long}
use Rattle.write_expression.specs.declared.Bound.{Bound}
use Rattle.write_expression.specs.Binds.{BindsWhole, Binds, LeafBinds, UnBinds, BinBinds}
use Rattle.write_expression.specs.Leaves.{LeafRoom}
use Rattle.write_expression.specs.Rows.{Laid}

-- ---- the whole expression

-- binding is given, and its image has room; names are short enough to be looked up
pub record Ready (t e o : List ℕ) (at : ℕ) : Type 0 where
  pub names : NamesWithin e
  pub whole : BoundExpr
  pub bind : BindsWhole t e whole
  pub room : at + length (bound_expression.write whole) ≤ length o

-- so it is where it is given for what t and e hold, with so much room
pub ready : {t e o : List ℕ} {at : ℕ} → Is table t → IsImage e → NamesWithin e
    → ((v : TableSchema) (x : Expr) → Holds table t v → Holds expression e x → (b : BoundExpr) × (bind_expression v x ≡ given b) × (at + (4 + 11 * size b + content_length b) ≤ length o))
    → Ready t e o at
ready {at = at} i m n f =
    held i (λ v h.
    let x = image_tree m in
    let b = f v x.0 h x.1 in
    record {
      names = n;
      whole = b.0;
      bind = record { schema = v; holds = h; tree = x.0; reads = x.1; bound = b.1 };
      room = omega (arith, b.2, run_length b.0);
    })

-- ---- a node

-- binding is given at node i, with room for its rows and for its contents, of which `from` bytes stand in front
pub record Writable (t e : List ℕ) (i : ℕ) (o : List ℕ) (row content from : ℕ) : Type 0 where
  pub names : NamesWithin e
  pub node : HasNode e i
  pub whole : BoundExpr
  pub binds : Binds t e i whole
  pub rows : row + 11 * size whole ≤ content
  pub contents : content + content_length whole ≤ length o
  pub front : from ≤ content

-- what node i is bound to is written
abbrev pub Writes : List ℕ → List ℕ → ℕ → ℕ → List ℕ → ℕ → ℕ → Bound → List ℕ → Type 0
Writes t e i from o row content r o' = (b : BoundExpr) → Binds t e i b → Laid b from o row content r o'

-- ---- room for the operands, and for the node's own row

module _ {t e : List ℕ} {i : ℕ} {o : List ℕ} {row content from : ℕ} (w : Writable t e i o row content from) where
  -- a leaf
  module _ {P : Marked BoundLeaf → Type 0} (l : LeafBinds P w.whole) where
    pub leaf_row : row + 11 ≤ content
    unfolding size
    leaf_row = rw l.is at w.rows

    pub leaf_content : content + length (leaf_bytes l.label.kind) ≤ length o
    unfolding content_length
    leaf_content = rw l.is at w.contents

    pub leaf_room : LeafRoom P o content
    leaf_room = record { label = l.label; rule = l.rule; room = leaf_content }

  -- one operand
  module _ {k code : ℕ} (u : UnBinds t e i k code w.whole) where
    pub un_rows : row + 11 * (size u.operand + 1) ≤ content
    unfolding size
    un_rows = rw u.is at w.rows

    pub un_contents : content + content_length u.operand ≤ length o
    unfolding content_length
    un_contents = rw u.is at w.contents

    pub un_writable : HasNode e (i - 1) → Writable t e (i - 1) o row content from
    un_writable h = record {
      names = w.names;
      node = h;
      whole = u.operand;
      binds = u.below;
      rows = omega (arith, un_rows);
      contents = un_contents;
      front = w.front;
    }

  -- parentheses
  pub parens_writable : HasNode e (i - 1) → Binds t e (i - 1) w.whole → Writable t e (i - 1) o row content from
  parens_writable h b = record {
    names = w.names;
    node = h;
    whole = w.whole;
    binds = b;
    rows = w.rows;
    contents = w.contents;
    front = w.front;
  }

  -- two operands
  module _ {k n code : ℕ} (u : BinBinds t e i k n code w.whole) where
    pub bin_rows : row + 11 * (size u.left + size u.right + 1) ≤ content
    unfolding size
    bin_rows = rw u.is at w.rows

    pub bin_contents : content + (content_length u.left + content_length u.right) ≤ length o
    unfolding content_length
    bin_contents = rw u.is at w.contents

    pub left_writable : HasNode e (i - 1 - n) → Writable t e (i - 1 - n) o row content from
    left_writable h = record {
      names = w.names;
      node = h;
      whole = u.left;
      binds = u.first;
      rows = omega (arith, bin_rows);
      contents = omega (arith, bin_contents);
      front = w.front;
    }

    pub right_writable : {s : Bound} {o₁ : List ℕ} → HasNode e (i - 1) → Laid u.left from o row content s o₁
        → Writable t e (i - 1) o₁ (row + 11 * s.nodes) (content + s.content) (from + s.content)
    right_writable {s = s} {o₁ = o₁} h x =
        let l : length o₁ ≡ length o = beside_long x.bytes in
        rw x.is (record {
          names = w.names;
          node = h;
          whole = u.right;
          binds = u.last;
          rows = omega (arith, bin_rows);
          contents = omega (arith, bin_contents);
          front = omega (arith, w.front);
        })
