-- What `expression` reads, by positions: s is read as e exactly if s is well laid, e's nodes are those of s, and their contents are UTF-8.
-- Assumes nothing.
use Rattle.std.specs.Prelude.{◌≡◌, length}
use Rattle.std.proofs.Common.{◌∙◌, sym, ⊎_elim, eq-or-lt_of_le, arith}
use Rattle.std.proofs.Math.Path.{refl, ap, subst}
use Rattle.std.proofs.Math.Bool.{true}
use Rattle.std.proofs.Math.Option.{some, some-injective}
use mathlib.Core.List.{List, [], ◌∷◌}
use Prim.Native.Nat.{ℕ, zero, suc, ◌+◌, ◌<◌, ◌≤◌}
use Rattle.bytes_wire.specs.Le.{Bytes}
use Rattle.bytes_utf8.specs.Decide.{is_utf8}
use Rattle.tree.specs.Tree.{size}
use Rattle.bytes_format.specs.Ways.{next}
use Rattle.bytes_format.proofs.Laws.{next_some}
use Rattle.bytes_format.specs.Nodes.{nodes_of, labels_of, tree_of, run_read}
use Rattle.bytes_format.proofs.NodeLaws.{nodes_length, tree_there, tree_back}
use Rattle.bytes_format.proofs.Run.{node_list}
use Rattle.rules.specs.Statements.{Expr}
use Rattle.image_expression.specs.Expression.{expression}
use Rattle.image_expression.specs.Place.{Node, node_count, node_at, IsExpression}
use Rattle.image_expression.specs.Heads.{Head, heads, head_kind, head_text, written}
use Rattle.image_expression.specs.Trees.{kind_of, span_of, text_of, node_of, Lies}
use Rattle.image_expression.specs.Layout.{Laid, images, nodes_read, read_laid, node_bytes_lem}

-- ---- labels and nodes

module _ (v : ℕ → Node) where
  is_node : (a : ℕ) (y : Head) → (v a).kind ∷ (v a).text ≡ heads.form.write y → v a ≡ node_of (y, (v a).span)
  unfolding node_of
  is_node a y e =
      let w = (written y).bytes in
      let k : (v a).kind ≡ head_kind y = cc in
      let t : (v a).text ≡ head_text y = cc in
      λ i. record { kind = k i; span = (v a).span; text = t i }

  -- the contents of the nodes a to a + n are UTF-8
  abbrev Texts : ℕ → ℕ → Type 0
  Texts a n = (j : ℕ) → a ≤ j → j < a + n → is_utf8 (v j).text ≡ true

  texts_next : (a n : ℕ) → Texts a (suc n) → Texts (suc a) n
  texts_next a n h j lo hi = h j (omega arith) (omega arith)

  texts_more : (a n : ℕ) → is_utf8 (v a).text ≡ true → Texts (suc a) n → Texts a (suc n)
  texts_more a n p f j lo hi =
      ⊎_elim (λ (q : a ≡ j). subst (λ (k : ℕ). is_utf8 (v k).text ≡ true) q p) (λ (l : a < j). f j l (omega arith)) (eq-or-lt_of_le lo)

  record Labelled (a n : ℕ) (m : List (Head × ℕ)) : Type 0 where
    lies : Lies v a m
    many : n ≡ length m
    texts : Texts a n

  labels_lie : ((i : ℕ) → Bytes ((v i).kind ∷ (v i).text)) → (a n : ℕ) (m : List (Head × ℕ)) → labels_of heads.form (images v a n) ≡ some m → Labelled a n m
  unfolding Lies node_of
  labels_lie b a zero m e = subst (Labelled a 0) (some-injective [] m e) (record { lies = tt; many = refl; texts = λ j lo hi. absurd (omega arith) })
  labels_lie b a (suc n) m e =
      next_some (heads.form.read ((v a).kind ∷ (v a).text)) (λ y. next (labels_of heads.form (images v (suc a) n)) (λ r. some ((y, (v a).span) ∷ r))) e
      (λ y e₁ h. next_some (labels_of heads.form (images v (suc a) n)) (λ r. some ((y, (v a).span) ∷ r)) h (λ r e₂ g.
      let k = heads.form.back ((v a).kind ∷ (v a).text) y (b a) e₁ in
      let q = labels_lie b (suc a) n r e₂ in
      let z = is_node a y k.0 in
      let u : is_utf8 (v a).text ≡ true = ap is_utf8 (ap text_of z) ∙ (written y).utf8 k.1 in
      subst (Labelled a (suc n)) (some-injective ((y, (v a).span) ∷ r) m g)
      (record { lies = (z, q.lies); many = ap suc q.many; texts = texts_more a n u q.texts })))

  lies_labels : (a : ℕ) (m : List (Head × ℕ)) → Lies v a m → Texts a (length m) → labels_of heads.form (images v a (length m)) ≡ some m
  unfolding Lies node_of
  lies_labels a [] h t = refl
  lies_labels a (x ∷ m) h t =
      let w = written x.0 in
      let k : (v a).kind ≡ head_kind x.0 = ap kind_of h.0 in
      let c : (v a).text ≡ head_text x.0 = ap text_of h.0 in
      let p : (v a).span ≡ x.1 = ap span_of h.0 in
      let u : is_utf8 (head_text x.0) ≡ true = rw c at (t a (omega arith) (omega arith)) in
      let r : heads.form.read (head_kind x.0 ∷ head_text x.0) ≡ some x.0 = ap heads.form.read (sym w.bytes) ∙ heads.form.there x.0 (w.ok u) in
      rw (k, c, p, r, lies_labels (suc a) m h.1 (texts_next a (length m) t))

-- ---- images

-- what an image of e is, by positions
pub record Image (s : List ℕ) (e : Expr) : Type 0 where
  pub laid : Laid s
  pub lies : Lies (node_at s) 0 (nodes_of e)
  pub many : node_count s ≡ size e
  pub texts : (j : ℕ) → j < node_count s → is_utf8 (node_at s j).text ≡ true

pub image_parts : {s : List ℕ} {e : Expr} → Bytes s → IsExpression s e → Image s e
unfolding expression
image_parts {s} {e} b r =
    next_some ((node_list 1 2).read s) (run_read 2 heads) r (λ l e₁ h.
    next_some (labels_of heads.form l) tree_of h (λ m e₂ g.
    let d = read_laid s b l e₁ in
    let p : l ≡ images (node_at s) 0 (node_count s) = some-injective l _ (sym e₁ ∙ nodes_read s d) in
    let k = labels_lie (node_at s) (node_bytes_lem s b) 0 (node_count s) m (rw p at e₂) in
    let q : m ≡ nodes_of e = tree_back m e g in
    record {
      laid = d;
      lies = rw q at k.lies;
      many = k.many ∙ ap length q ∙ nodes_length e;
      texts = λ j h. k.texts j (omega arith) (omega arith);
    }))

pub parts_image : {s : List ℕ} {e : Expr} → Image s e → IsExpression s e
unfolding expression
parts_image {s} {e} i =
    let n : length (nodes_of e) ≡ node_count s = nodes_length e ∙ sym i.many in
    let l : labels_of heads.form (images (node_at s) 0 (node_count s)) ≡ some (nodes_of e) = rw n at (lies_labels (node_at s) 0 (nodes_of e) i.lies (λ j lo hi. i.texts j (omega arith))) in
    rw (nodes_read s i.laid, l) (tree_there e)
