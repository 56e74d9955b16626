-- Trees as runs of nodes, children before parents, and nodes as rows with their contents behind them: what `Run.antt` writes and reads.
-- Assumes nothing: these are definitions.
use Rattle.std.specs.Prelude.{cond, List, [], ◌∷◌, ◌++◌, map, ℕ, ◌+◌, ◌-◌, ◌^◌, ◌≤◌, ◌<◌, length, take, drop, leb, eqb}
use Rattle.std.proofs.Math.Option.{Option, none, some}
use Rattle.tree.specs.Tree.{Tree, Tree.leaf, Tree.un, Tree.bin, size}
use Rattle.bytes_format.specs.Format.{Format}
use Rattle.bytes_format.specs.Ways.{next, cut_read}
use Rattle.bytes_wire.specs.Le.{Bytes}

-- what stands at a node
pub data Label (L U B : Type 0) : Type 0 where
  leaf_label : L → Label L U B
  un_label : U → Label L U B
  bin_label : B → Label L U B

-- the images of labels: `head` bytes that stand in the node, and the content
pub record Labels (X : Type 0) : Type 1 where
  pub head : ℕ
  pub form : Format X
  pub front : (x : X) → form.Ok x → head ≤ length (form.write x)

module _ {L U B : Type 0} where
  -- a tree's nodes, each with its span
  abbrev pub nodes_of : Tree L U B → List (Label L U B × ℕ)
  nodes_of (leaf l) = (leaf_label l, size {L = L} {U = U} {B = B} (leaf l)) ∷ []
  nodes_of (un o a) = nodes_of a ++ (un_label o, size (un o a)) ∷ []
  nodes_of (bin o a b) = nodes_of a ++ nodes_of b ++ (bin_label o, size (bin o a b)) ∷ []

  -- a finished tree, if the span is its size
  abbrev pub spanned : Tree L U B → ℕ → List (Tree L U B) → Option (List (Tree L U B))
  spanned t n st = cond (eqb n (size t)) (some (t ∷ st)) none

  -- the next node takes its operands from the stack of finished trees, the right one first
  abbrev pub push : Label L U B → ℕ → List (Tree L U B) → Option (List (Tree L U B))
  push (leaf_label l) n st = spanned (leaf l) n st
  push (un_label o) n [] = none
  push (un_label o) n (a ∷ st) = spanned (un o a) n st
  push (bin_label o) n [] = none
  push (bin_label o) n (b ∷ []) = none
  push (bin_label o) n (b ∷ a ∷ st) = spanned (bin o a b) n st

  abbrev pub grow : List (Label L U B × ℕ) → List (Tree L U B) → Option (List (Tree L U B))
  grow [] st = some st
  grow (x ∷ l) st = next (push x.0 x.1 st) (grow l)

  -- no node is left over
  abbrev pub only : List (Tree L U B) → Option (Tree L U B)
  only [] = none
  only (t ∷ []) = some t
  only (t ∷ u ∷ st) = none

  abbrev pub tree_of : List (Label L U B × ℕ) → Option (Tree L U B)
  tree_of l = next (grow l []) only

  -- P of each label
  abbrev pub Holds : (Label L U B → Type 0) → Tree L U B → Type 0
  Holds P (leaf l) = P (leaf_label l)
  Holds P (un o a) = Holds P a × P (un_label o)
  Holds P (bin o a b) = Holds P a × (Holds P b × P (bin_label o))

  -- the sum of a number for each label
  abbrev pub total : (Label L U B → ℕ) → Tree L U B → ℕ
  total f (leaf l) = f (leaf_label l)
  total f (un o a) = total f a + f (un_label o)
  total f (bin o a b) = total f a + total f b + f (bin_label o)

-- ---- rows

-- running sums, and back to what was added
abbrev pub sums : ℕ → List ℕ → List ℕ
sums from [] = []
sums from (n ∷ l) = (from + n) ∷ sums (from + n) l

abbrev pub steps : ℕ → List ℕ → Option (List ℕ)
steps from [] = some []
steps from (e ∷ l) = cond (leb from e) (next (steps e l) (λ m. some ((e - from) ∷ m))) none

-- pieces that end at the places `ends`
abbrev pub cut_at_read : List ℕ → List ℕ → Option (List (List ℕ))
cut_at_read ends s = next (steps 0 ends) (λ ns. cut_read ns s)

-- a label's image and the node's span, as a row (head, span, end of its content) and a content
module _ (k : ℕ) where
  abbrev pub content_length : List ℕ × ℕ → ℕ
  content_length x = length x.0 - k

  abbrev pub rows_of : ℕ → List (List ℕ × ℕ) → List (List ℕ × (ℕ × ℕ))
  rows_of from [] = []
  rows_of from (x ∷ l) = (take k x.0, (x.1, from + content_length x)) ∷ rows_of (from + content_length x) l

  abbrev pub contents_of : List (List ℕ × ℕ) → List (List ℕ)
  contents_of l = map (λ x. drop k x.0) l

  abbrev pub content_total : List (List ℕ × ℕ) → ℕ
  content_total [] = 0
  content_total (x ∷ l) = content_length x + content_total l

-- the image holds a head, and the span fits
abbrev pub NodeOk : ℕ → ℕ → List ℕ × ℕ → Type 0
NodeOk k w x = (k ≤ length x.0) × (x.1 < 256 ^ w) × Bytes x.0

abbrev pub mend : List (List ℕ × (ℕ × ℕ)) → List (List ℕ) → List (List ℕ × ℕ)
mend [] cs = []
mend (r ∷ rs) [] = []
mend (r ∷ rs) (c ∷ cs) = (r.0 ++ c, r.1.0) ∷ mend rs cs

-- ---- labels and their images

module _ {X : Type 0} (f : Format X) where
  abbrev pub images_of : List (X × ℕ) → List (List ℕ × ℕ)
  images_of l = map (λ x. (f.write x.0, x.1)) l

  abbrev pub labels_of : List (List ℕ × ℕ) → Option (List (X × ℕ))
  labels_of [] = some []
  labels_of (x ∷ l) = next (f.read x.0) (λ a. next (labels_of l) (λ m. some ((a, x.1) ∷ m)))

module _ {L U B : Type 0} (w : ℕ) (lb : Labels (Label L U B)) where
  -- how many bytes all contents have
  abbrev pub content_size : Tree L U B → ℕ
  content_size = total (λ x. length (lb.form.write x) - lb.head)

  -- every count fits w bytes, and every label has an image
  abbrev pub RunOk : Tree L U B → Type 0
  RunOk t = (size t < 256 ^ w) × (content_size t < 256 ^ w) × Holds lb.form.Ok t

  abbrev pub run_write : Tree L U B → List (List ℕ × ℕ)
  run_write t = images_of lb.form (nodes_of t)

  abbrev pub run_read : List (List ℕ × ℕ) → Option (Tree L U B)
  run_read l = next (labels_of lb.form l) tree_of
