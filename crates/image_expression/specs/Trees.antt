-- Trees and the nodes that they stand at: `nodes_of e` (of bytes_format) lies from node a on exactly if e's root is at its last node, and then each
-- node of it is some tree's root.
-- Nothing here knows where a node's bytes lie.
-- Assumes nothing.
use Rattle.std.specs.Prelude.{◌≡◌, ℕ, suc, ◌+◌, ◌-◌, ◌<◌, ◌≤◌}
use Rattle.std.proofs.Common.{◌∙◌, add-zero}
use Rattle.std.proofs.Math.Path.{sym, ap, subst}
use mathlib.Core.List.{List, [], ◌∷◌, ◌++◌}
use native.Mathlib.Omega.{arith}
use Rattle.std.proofs.Math.Decide.{dec_lt}
use Rattle.std.proofs.Math.ListN.{length, length-append}
use Rattle.tree.specs.Tree.{leaf, un, bin, size}
use Rattle.bytes_format.specs.Nodes.{Label.un_label, Label.bin_label, nodes_of}
use Rattle.bytes_format.proofs.NodeLaws.{nodes_length}
use Rattle.rules.specs.Statements.{Unary, Binary, Expr}
use Rattle.image_expression.specs.Place.{Node, leaf_kind, leaf_text, un_kind, bin_kind, un_of, bin_of, top, Root, HasTree}
use Rattle.image_expression.specs.Heads.{Head, head_kind, head_text, leaf_of_lem, un_of_lem, bin_of_lem, leaf_range, un_range, bin_range}

abbrev pub kind_of : Node → ℕ
kind_of n = n.kind

abbrev pub span_of : Node → ℕ
span_of n = n.span

abbrev pub text_of : Node → List ℕ
text_of n = n.text

pub size_pos : (e : Expr) → 1 ≤ size e
unfolding size
size_pos (leaf l) = omega arith
size_pos (un o a) = omega arith
size_pos (bin o a b) = omega arith

-- a label and a span, as a node
unfoldable pub node_of : Head × ℕ → Node
node_of x = record { kind = head_kind x.0; span = x.1; text = head_text x.0 }

module _ (v : ℕ → Node) where
  -- the span at a tree's root is the tree's size
  pub root_span : (i : ℕ) (e : Expr) → Root v i e → (v i).span ≡ size e
  unfolding Root top size
  root_span i (leaf l) h = ap span_of h
  root_span i (un o a) h = ap span_of h.0
  root_span i (bin o a b) h = ap span_of h.0

  -- a tree has no more nodes than there are up to its root
  pub root_size : (i : ℕ) (e : Expr) → Root v i e → size e ≤ i + 1
  unfolding Root size
  root_size i (leaf l) h = omega arith
  root_size i (un o a) h = let s = root_size (i - 1) a h.2 in omega (arith, h.1)
  root_size i (bin o a b) h = let s = root_size (i - 1 - size b) a h.2 in omega (arith, h.1)

  pub tree_span : (i : ℕ) → HasTree v i → (1 ≤ (v i).span) × ((v i).span ≤ i + 1)
  tree_span i t = rw (root_span i t.tree t.root) (size_pos t.tree, root_size i t.tree t.root)

  -- one tree at most has its root at a node
  pub root_unique : (i : ℕ) (e f : Expr) → Root v i e → Root v i f → e ≡ f
  unfolding Root top
  root_unique i (leaf l) (leaf m) h g =
      let k : leaf_kind l ≡ leaf_kind m = sym (ap kind_of h) ∙ ap kind_of g in
      let x : leaf_text l ≡ leaf_text m = sym (ap text_of h) ∙ ap text_of g in
      ap leaf (sym (leaf_of_lem l) ∙ rw (k, x) (leaf_of_lem m))
  root_unique i (leaf l) (un o a) h g = absurd (omega (arith, leaf_range l, un_range o, ap kind_of h, ap kind_of g.0))
  root_unique i (leaf l) (bin o a b) h g = absurd (omega (arith, leaf_range l, bin_range o, ap kind_of h, ap kind_of g.0))
  root_unique i (un o a) (leaf l) h g = absurd (omega (arith, leaf_range l, un_range o, ap kind_of g, ap kind_of h.0))
  root_unique i (un o a) (un p b) h g =
      let k : un_kind o ≡ un_kind p = sym (ap kind_of h.0) ∙ ap kind_of g.0 in
      let q : o ≡ p = sym (un_of_lem o) ∙ ap un_of k ∙ un_of_lem p in
      let r = root_unique (i - 1) a b h.2 g.2 in
      cc
  root_unique i (un o a) (bin p b c) h g = absurd (omega (arith, un_range o, bin_range p, ap kind_of h.0, ap kind_of g.0))
  root_unique i (bin o a b) (leaf l) h g = absurd (omega (arith, leaf_range l, bin_range o, ap kind_of g, ap kind_of h.0))
  root_unique i (bin o a b) (un p c) h g = absurd (omega (arith, un_range p, bin_range o, ap kind_of h.0, ap kind_of g.0))
  root_unique i (bin o a b) (bin p c d) h g =
      let k : bin_kind o ≡ bin_kind p = sym (ap kind_of h.0) ∙ ap kind_of g.0 in
      let q : o ≡ p = sym (bin_of_lem o) ∙ ap bin_of k ∙ bin_of_lem p in
      let r = root_unique (i - 1) b d h.3 g.3 in
      let t : size b ≡ size d = ap size r in
      let s = root_unique (i - 1 - size d) a c (rw t at h.2) g.2 in
      cc

  -- the nodes from a on are those of the list
  unfoldable pub Lies : ℕ → List (Head × ℕ) → Type 0
  Lies a [] = Unit {0}
  Lies a (x ∷ l) = (v a ≡ node_of x) × Lies (suc a) l

  lies_at : {a b : ℕ} (l : List (Head × ℕ)) → a ≡ b → Lies a l → Lies b l
  lies_at l e h = subst (λ (j : ℕ). Lies j l) e h

  lies_split : (a : ℕ) (l m : List (Head × ℕ)) → Lies a (l ++ m) → Lies a l × Lies (a + length l) m
  unfolding Lies
  lies_split a [] m h = (tt, lies_at m (sym (add-zero a)) h)
  lies_split a (x ∷ l) m h =
      let r = lies_split (suc a) l m h.1 in
      ((h.0, r.0), lies_at m (omega arith) r.1)

  lies_join : (a : ℕ) (l m : List (Head × ℕ)) → Lies a l → Lies (a + length l) m → Lies a (l ++ m)
  unfolding Lies
  lies_join a [] m h g = lies_at m (add-zero a) g
  lies_join a (x ∷ l) m h g = (h.0, lies_join (suc a) l m h.1 (lies_at m (omega arith) g))

  root_at : {i j : ℕ} (e : Expr) → i ≡ j → Root v i e → Root v j e
  root_at e p h = subst (λ (k : ℕ). Root v k e) p h

  -- the parts of a tree's nodes
  un_parts : (a : ℕ) (o : Unary) (x : Expr) → Lies a (nodes_of (un o x)) → Lies a (nodes_of x) × (v (a + size x) ≡ top (un o x))
  unfolding Lies node_of head_kind head_text top
  un_parts a o x h =
      let w = lies_split a (nodes_of x) ((un_label o, size (un o x)) ∷ []) h in
      let p : a + length (nodes_of x) ≡ a + size x = omega (arith, nodes_length x) in
      (w.0, subst (λ (j : ℕ). v j ≡ top (un o x)) p w.1.0)

  bin_parts : (a : ℕ) (o : Binary) (x y : Expr) → Lies a (nodes_of (bin o x y)) → Lies a (nodes_of x) × Lies (a + size x) (nodes_of y) × (v (a + size x + size y) ≡ top (bin o x y))
  unfolding Lies node_of head_kind head_text top
  bin_parts a o x y h =
      let w = lies_split a (nodes_of x ++ nodes_of y) ((bin_label o, size (bin o x y)) ∷ []) h in
      let u = lies_split a (nodes_of x) (nodes_of y) w.0 in
      let q : a + length (nodes_of x) ≡ a + size x = omega (arith, nodes_length x) in
      let p : a + length (nodes_of x ++ nodes_of y) ≡ a + size x + size y = omega (arith, length-append (nodes_of x) (nodes_of y), nodes_length x, nodes_length y) in
      (u.0, lies_at (nodes_of y) q u.1, subst (λ (j : ℕ). v j ≡ top (bin o x y)) p w.1.0)

  -- a tree's nodes lie where its root says
  pub lies_root : (a : ℕ) (e : Expr) → Lies a (nodes_of e) → Root v (a + size e - 1) e
  unfolding Root size Lies node_of head_kind head_text top
  lies_root a (leaf l) h = let q : a ≡ a + 1 - 1 = omega arith in subst (λ (j : ℕ). v j ≡ top (leaf l)) q h.0
  lies_root a (un o x) h =
      let w = un_parts a o x h in
      let r = lies_root a x w.0 in
      let p : a + size x ≡ a + (size x + 1) - 1 = omega arith in
      (subst (λ (j : ℕ). v j ≡ top (un o x)) p w.1, omega (arith, size_pos x), root_at x (omega arith) r)
  lies_root a (bin o x y) h =
      let w = bin_parts a o x y h in
      let r = lies_root a x w.0 in
      let q = lies_root (a + size x) y w.1 in
      let p : a + size x + size y ≡ a + (size x + size y + 1) - 1 = omega arith in (
        subst (λ (j : ℕ). v j ≡ top (bin o x y)) p w.2,
        omega (arith, size_pos x),
        root_at x (omega (arith, size_pos x)) r,
        root_at y (omega arith) q,
      )

  pub root_lies : (i : ℕ) (e : Expr) → Root v i e → Lies (i + 1 - size e) (nodes_of e)
  unfolding Root size Lies node_of head_kind head_text top
  root_lies i (leaf l) h = (let q : i ≡ i + 1 - 1 = omega arith in subst (λ (j : ℕ). v j ≡ top (leaf l)) q h, tt)
  root_lies i (un o x) h =
      let z = root_size (i - 1) x h.2 in
      let r = root_lies (i - 1) x h.2 in
      let p : i ≡ i + 1 - (size x + 1) + length (nodes_of x) = omega (arith, h.1, nodes_length x) in
      lies_join _ (nodes_of x) _ (lies_at (nodes_of x) (omega (arith, h.1)) r) (subst (λ (j : ℕ). v j ≡ top (un o x)) p h.0, tt)
  root_lies i (bin o x y) h =
      let z = root_size (i - 1 - size y) x h.2 in
      let r = root_lies (i - 1 - size y) x h.2 in
      let q = root_lies (i - 1) y h.3 in
      let p : i ≡ i + 1 - (size x + size y + 1) + length (nodes_of x ++ nodes_of y) = omega (arith, h.1, length-append (nodes_of x) (nodes_of y), nodes_length x, nodes_length y) in
      lies_join _ (nodes_of x ++ nodes_of y) _
      (lies_join _ (nodes_of x) _ (lies_at (nodes_of x) (omega (arith, h.1)) r) (lies_at (nodes_of y) (omega (arith, h.1, nodes_length x)) q))
      (subst (λ (j : ℕ). v j ≡ top (bin o x y)) p h.0, tt)

  -- each node of a tree is the root of one
  last_root : (a : ℕ) (e : Expr) → Lies a (nodes_of e) → (j : ℕ) → j + 1 ≡ a + size e → HasTree v j
  last_root a e h j p = record { tree = e; root = root_at e (omega arith) (lies_root a e h) }

  pub each_root : (a : ℕ) (e : Expr) → Lies a (nodes_of e) → (j : ℕ) → a ≤ j → j < a + size e → HasTree v j
  unfolding size
  each_root a (leaf l) h j lo hi = last_root a (leaf l) h j (omega arith)
  each_root a (un o x) h j lo hi = go (each_root a x (un_parts a o x h).0 j lo) (dec_lt j (a + size x))
    where
      go : (j < a + size x → HasTree v j) → Dec (j < a + size x) → HasTree v j
      go f (yes l) = f l
      go f (no g) = last_root a (un o x) h j (omega arith)
  each_root a (bin o x y) h j lo hi =
      let w = bin_parts a o x y h in
      go (each_root a x w.0 j lo) (each_root (a + size x) y w.1 j) (dec_lt j (a + size x)) (dec_lt j (a + size x + size y))
    where
      go : (j < a + size x → HasTree v j) → (a + size x ≤ j → j < a + size x + size y → HasTree v j) → Dec (j < a + size x) → Dec (j < a + size x + size y) → HasTree v j
      go f g (yes l) d = f l
      go f g (no k) (yes l) = g (omega arith) l
      go f g (no k) (no q) = last_root a (bin o x y) h j (omega arith)
