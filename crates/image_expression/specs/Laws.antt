-- The laws that users cite. An image read as e has e's root at its last node (`placed`), and the other way round (`is_expression`); each node of
-- an image is the root of a tree (`every_node`). Going down: what stands at a node by its kind, and where its operands are (`leaf_at`, `un_at`,
-- `bin_at`).
-- Assumes nothing.
use Rattle.std.specs.Prelude.{◌≡◌, refl, true, List, ℕ, ◌+◌, ◌-◌, ◌<◌, ◌≤◌}
use Rattle.std.proofs.Common.{◌∙◌, sym, arith}
use Rattle.std.proofs.Math.Path.{ap}
use Rattle.std.proofs.lemmas.Bool.{false≢true}
use Rattle.std.proofs.Math.Option.{Option, none, some}
use Rattle.bytes_wire.specs.Le.{Bytes}
use Rattle.bytes_utf8.specs.Decide.{is_utf8}
use Rattle.tree.specs.Tree.{leaf, un, bin, size}
use Rattle.rules.specs.Lists.{is_some}
use Rattle.rules.specs.Statements.{Expr}
use Rattle.image_expression.specs.Expression.{expression}
use Rattle.image_expression.specs.Place.{Node, node_count, node_at, leaf_of, un_of, bin_of, top, Root, HasTree, IsExpression, IsImage, HasNode, Room, Content}
use Rattle.image_expression.specs.Heads.{leaf_of_lem, un_of_lem, bin_of_lem, leaf_range, un_range, bin_range}
use Rattle.image_expression.specs.Trees.{kind_of, root_span, size_pos, lies_root, root_lies, each_root}
use Rattle.image_expression.specs.Layout.{Laid, laid_room, laid_content}
use Rattle.image_expression.specs.Images.{Image, image_parts, parts_image}

-- ---- images

-- the expression that an image is read as
pub image_tree : {s : List ℕ} → IsImage s → (e : Expr) × IsExpression s e
image_tree {s} i = go (expression.read s) refl i.reads
  where
    go : (o : Option Expr) → expression.read s ≡ o → is_some o ≡ true → (e : Expr) × IsExpression s e
    go none p h = absurd (false≢true h)
    go (some e) p h = (e, p)

pub is_image : {s : List ℕ} {e : Expr} → IsExpression s e → IsImage s
is_image h = record { reads = ap is_some h }

pub image_root : {s : List ℕ} {e : Expr} → Image s e → Root (node_at s) (node_count s - 1) e
image_root {s} {e} i =
    let q : 0 + size e - 1 ≡ node_count s - 1 = omega (arith, i.many) in
    rw q at (lies_root (node_at s) 0 e i.lies)

-- an image read as e has e's root at its last node
pub placed : {s : List ℕ} {e : Expr} → Bytes s → IsExpression s e → Root (node_at s) (node_count s - 1) e × (size e ≡ node_count s)
placed b h = let i = image_parts b h in (image_root i, sym i.many)

-- and the other way round, where the nodes are well laid and the contents UTF-8
pub is_expression : {s : List ℕ} {e : Expr} → Laid s → ((j : ℕ) → j < node_count s → is_utf8 (node_at s j).text ≡ true)
    → Root (node_at s) (node_count s - 1) e → size e ≡ node_count s → IsExpression s e
is_expression {s} {e} l t h n =
    let z : node_count s - 1 + 1 - size e ≡ 0 = omega (arith, size_pos e) in
    parts_image (record { laid = l; lies = rw z at (root_lies (node_at s) (node_count s - 1) e h); many = sym n; texts = t })

-- an image has a node, and each of its nodes is the root of a tree
pub some_node : {s : List ℕ} → Bytes s → IsImage s → 1 ≤ node_count s
some_node b i = let t = image_tree i in omega (arith, (placed b t.1).1, size_pos t.0)

pub every_node : {s : List ℕ} → Bytes s → IsImage s → (i : ℕ) → i < node_count s → HasTree (node_at s) i
every_node {s} b m i h =
    let t = image_tree m in
    let p = image_parts b t.1 in
    each_root (node_at s) 0 t.0 p.lies i (omega arith) (omega (arith, p.many))

pub image_laid : {s : List ℕ} → Bytes s → IsImage s → Laid s
image_laid b i = (image_parts b (image_tree i).1).laid

pub has_room : {s : List ℕ} {i : ℕ} → Bytes s → HasNode s i → Room s i
has_room {i = i} b h = laid_room (image_laid b h.image) i h.within

pub has_content : {s : List ℕ} {i : ℕ} → Bytes s → HasNode s i → Content s i
has_content {i = i} b h = laid_content (image_laid b h.image) i h.within

-- ---- going down: k is the kind at node i

-- at a node with one operand
pub record UnAt (v : ℕ → Node) (i k : ℕ) (e : Expr) : Type 0 where
  pub operand : Expr
  pub is : e ≡ un (un_of k) operand
  pub room : 1 ≤ i
  pub root : Root v (i - 1) operand
  pub span : (v (i - 1)).span ≡ size operand

-- at a node with two; n is the right one's span
pub record BinAt (v : ℕ → Node) (i k n : ℕ) (e : Expr) : Type 0 where
  pub left : Expr
  pub right : Expr
  pub is : e ≡ bin (bin_of k) left right
  pub room : n + 1 ≤ i
  pub left_root : Root v (i - 1 - n) left
  pub right_root : Root v (i - 1) right
  pub left_span : (v (i - 1 - n)).span ≡ size left
  pub right_span : n ≡ size right

module _ (v : ℕ → Node) (i k : ℕ) (is : k ≡ (v i).kind) where
  pub kind_range : (e : Expr) → Root v i e → k < 30
  unfolding Root top
  kind_range (leaf l) h = omega (arith, leaf_range l, ap kind_of h)
  kind_range (un o a) h = omega (arith, un_range o, ap kind_of h.0)
  kind_range (bin o a b) h = omega (arith, bin_range o, ap kind_of h.0)

  pub leaf_at : (e : Expr) → Root v i e → k < 9 → e ≡ leaf (leaf_of k (v i).text)
  unfolding Root top
  leaf_at (leaf l) h hi = ap leaf (sym (rw (is, h) (leaf_of_lem l)))
  leaf_at (un o a) h hi = absurd (omega (arith, un_range o, ap kind_of h.0))
  leaf_at (bin o a b) h hi = absurd (omega (arith, bin_range o, ap kind_of h.0))

  pub un_at : (e : Expr) → Root v i e → 9 ≤ k → k < 16 → UnAt v i k e
  unfolding Root top
  un_at (leaf l) h lo hi = absurd (omega (arith, leaf_range l, ap kind_of h))
  un_at (un o a) h lo hi = record {
    operand = a;
    is = ap (λ (p : _). un p a) (sym (ap un_of (is ∙ ap kind_of h.0) ∙ un_of_lem o));
    room = h.1;
    root = h.2;
    span = root_span v (i - 1) a h.2;
  }
  un_at (bin o a b) h lo hi = absurd (omega (arith, bin_range o, ap kind_of h.0))

  pub bin_at : (n : ℕ) → n ≡ (v (i - 1)).span → (e : Expr) → Root v i e → 16 ≤ k → BinAt v i k n e
  unfolding Root top
  bin_at n d (leaf l) h lo = absurd (omega (arith, leaf_range l, ap kind_of h))
  bin_at n d (un o a) h lo = absurd (omega (arith, un_range o, ap kind_of h.0))
  bin_at n d (bin o a b) h lo =
      let q : n ≡ size b = d ∙ root_span v (i - 1) b h.3 in
      let r : Root v (i - 1 - n) a = rw q h.2 in
      record {
        left = a;
        right = b;
        is = ap (λ (p : _). bin p a b) (sym (ap bin_of (is ∙ ap kind_of h.0) ∙ bin_of_lem o));
        room = rw q h.1;
        left_root = r;
        right_root = h.3;
        left_span = root_span v (i - 1 - n) a r;
        right_span = q;
      }

-- the operands are nodes of the image too, where k is the kind at node i and n the span at node i - 1
module _ {s : List ℕ} {i : ℕ} (b : Bytes s) (h : HasNode s i) (k : ℕ) (is : k ≡ (node_at s i).kind) where
  pub last_operand : 9 ≤ k → (1 ≤ i) × HasNode s (i - 1)
  unfolding Root top
  last_operand lo = let r = go t.tree t.root in (r, record { image = h.image; within = omega (arith, h.within) })
    where
      t : HasTree (node_at s) i
      t = every_node b h.image i h.within

      go : (e : Expr) → Root (node_at s) i e → 1 ≤ i
      go (leaf l) g = absurd (omega (arith, leaf_range l, ap kind_of g))
      go (un o a) g = g.1
      go (bin o a c) g = omega (arith, g.1)

  pub first_operand : (n : ℕ) → n ≡ (node_at s (i - 1)).span → 16 ≤ k → (n + 1 ≤ i) × HasNode s (i - 1 - n)
  first_operand n d lo =
      let t = every_node b h.image i h.within in
      let r = (bin_at (node_at s) i k is n d t.tree t.root lo).room in
      (r, record { image = h.image; within = omega (arith, h.within) })

  pub known_kind : k < 30
  known_kind = let t = every_node b h.image i h.within in kind_range (node_at s) i k is t.tree t.root
