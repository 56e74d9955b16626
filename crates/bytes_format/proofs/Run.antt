-- A run: a tree as nodes with children before parents (docs/IMAGES.md).
--     run w (labels leafs uns bins refl) : Format (Tree L U B)                             the head is a code
--     run w (labels_with leafs uns bins f refl) : Format (Tree (A × L) (A × U) (A × B))     the head is a code and the field f : Fixed A
-- `leafs`, `uns` and `bins` are codes for what stands at a leaf, at a node with one operand and at a node with two, and what follows the code
-- is the node's content. The codes of `uns` are counted on from those of `leafs`, and those of `bins` from both.
-- Assumes nothing.
use Rattle.std.specs.Prelude.{◌≡◌, refl, true, ◌⊎◌, List, map, ℕ, suc, ◌+◌, ◌^◌, ◌≤◌, ◌<◌, length, leb}
use Rattle.std.proofs.Common.{ap, inl, inr, arith, length-append}
use Rattle.std.proofs.Math.Option.{some}
use Rattle.bytes_wire.specs.Le.{Bytes}
use Rattle.tree.specs.Tree.{Tree}
use Rattle.bytes_format.specs.Format.{Format, Fixed, Coded, Every}
use Rattle.bytes_format.specs.Ways as W
use Rattle.bytes_format.proofs.Laws as L
use Rattle.bytes_format.proofs.Formats.{raw, number, both, row, headed, refine}
use Rattle.bytes_format.proofs.Sums.{choice, beside, recode, either}
use Rattle.bytes_format.specs.Nodes as N
use Rattle.bytes_format.specs.Nodes.{Label, Label.leaf_label, Label.un_label, Label.bin_label, Labels}
use Rattle.bytes_format.proofs.NodeLaws as K

-- ---- nodes

-- a head of k bytes, the span, the end of the content
abbrev pub node : ℕ → ℕ → Fixed (List ℕ × (ℕ × ℕ))
node k w = both (raw k) (both (number w) (number w))

-- pieces that end at the places `ends`
abbrev pub cut_at : List ℕ → Format (List (List ℕ))
cut_at ends = record {
  write = W.joined;
  read = N.cut_at_read ends;
  Ok = λ l. (N.sums 0 (map length l) ≡ ends) × Every Bytes l;
  there = λ l h. K.cut_at_there ends l h.0;
  back = K.cut_at_back ends;
  bytes = λ l h. L.joined_bytes l h.1;
}

-- the number of nodes, the nodes, their contents: the image of each label, and each span
abbrev pub node_list : ℕ → ℕ → Format (List (List ℕ × ℕ))
node_list k w = refine (headed (number w) (λ n. headed (row (node k w) n) (λ rs. cut_at (map (λ r. r.1.1) rs))))
    (λ p. some (N.mend p.1.0 p.1.1)) (λ l. (length l, (N.rows_of k 0 l, N.contents_of k l)))
    (λ l. (length l < 256 ^ w) × (N.content_total k l < 256 ^ w) × Every (N.NodeOk k w) l)
    (λ l h. ap some (K.mend_rows k 0 l))
    (λ l h. (h.0, K.node_list_ok k w l h.1 h.2))
    (K.node_list_back k w)

abbrev pub run : {L U B : Type 0} → ℕ → Labels (Label L U B) → Format (Tree L U B)
run w lb = refine (node_list lb.head w) (N.run_read w lb) (N.run_write w lb) (N.RunOk w lb) (K.run_there w lb) (K.run_ok w lb) (K.run_back w lb)

-- ---- labels

module _ {L U B : Type 0} where
  abbrev pub to_label : L ⊎ (U ⊎ B) → Label L U B
  to_label (inl l) = leaf_label l
  to_label (inr (inl u)) = un_label u
  to_label (inr (inr b)) = bin_label b

  abbrev pub of_label : Label L U B → L ⊎ (U ⊎ B)
  of_label (leaf_label l) = inl l
  of_label (un_label u) = inr (inl u)
  of_label (bin_label b) = inr (inr b)

  pub to_of : (x : Label L U B) → to_label (of_label x) ≡ x
  to_of (leaf_label l) = refl
  to_of (un_label u) = refl
  to_of (bin_label b) = refl

  pub of_to : (y : L ⊎ (U ⊎ B)) → of_label (to_label y) ≡ y
  of_to (inl l) = refl
  of_to (inr (inl u)) = refl
  of_to (inr (inr b)) = refl

-- the codes of leaves, then those of nodes with one operand, then those of nodes with two
abbrev pub shapes : {L U B : Type 0} → Coded L → Coded U → Coded B → Coded (Label L U B)
shapes l u b = recode (either l (either u b)) to_label of_label to_of of_to

-- at least j bytes follow each code
abbrev pub Front : {T : Type 0} → ℕ → Coded T → Type 0
Front {T} j c = (t : T) → c.Ok t → j ≤ length (c.write t)

pub shapes_front : {L U B : Type 0} (j : ℕ) (l : Coded L) (u : Coded U) (b : Coded B) → Front j l → Front j u → Front j b → Front j (shapes l u b)
shapes_front j l u b p q r (leaf_label x) h = p x h
shapes_front j l u b p q r (un_label x) h = q x h
shapes_front j l u b p q r (bin_label x) h = r x h

pub beside_front : {A T : Type 0} (f : Fixed A) (c : Coded T) → Front f.width (beside f c)
beside_front f c t h = omega (arith, length-append (f.form.write t.0) (c.write t.1), f.wide t.0 h.0)

-- the code and j bytes stand in the node
abbrev pub labelled : {T : Type 0} (j : ℕ) (c : Coded T) → leb c.count 256 ≡ true → Front j c → Labels T
labelled j c few front = record { head = suc j; form = choice c few; front = λ x h. let k = front x h in omega arith }

module _ {L U B : Type 0} (l : Coded L) (u : Coded U) (b : Coded B) where
  abbrev pub labels : leb (l.count + (u.count + b.count)) 256 ≡ true → Labels (Label L U B)
  labels few = labelled 0 (shapes l u b) few (λ t h. omega arith)

  abbrev pub labels_with : {A : Type 0} → Fixed A → leb (l.count + (u.count + b.count)) 256 ≡ true → Labels (Label (A × L) (A × U) (A × B))
  labels_with f few = labelled f.width (shapes (beside f l) (beside f u) (beside f b)) few
      (shapes_front f.width (beside f l) (beside f u) (beside f b) (beside_front f l) (beside_front f u) (beside_front f b))
