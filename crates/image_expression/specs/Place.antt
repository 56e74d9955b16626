-- An expression's run by positions: where a node's bytes lie (docs/IMAGES.md, "An expression's node"), and where a tree stands among the nodes.
-- Only the definitions from `node_count` to `Room`, `Layout.antt`, and src/layout.rt with its proofs know a byte position: all else sees nodes by
-- their numbers.
-- Assumes nothing: these are definitions.
use Rattle.std.specs.Prelude.{◌≡◌, Bool, true, false, List, [], ◌∷◌, ℕ, zero, suc, ◌+◌, ◌-◌, ◌*◌, ◌≤◌, ◌<◌, length, take, drop, get_or, leb}
use Rattle.std.proofs.Math.Option.{Option, none, some}
use Rattle.std.proofs.Math.ListN.{get_elem?}
use Rattle.bytes_wire.specs.Le.{num}
use Rattle.tree.specs.Tree.{leaf, un, bin, size}
use Rattle.rules.specs.declared.BoundBinaryOperator.{BoundBinaryOperator}
use Rattle.rules.specs.Lists.{Text, is_some}
use Rattle.rules.specs.Marking.{operators, operator_no}
use Rattle.rules.specs.Statements.{Leaf, Unary, other_unary, Binary, binary, other_binary, Expr}
use Rattle.image_expression.specs.Expression.{name_of, unaries, unary_no, expression}

-- ---- nodes

-- a node's kind, how many nodes its tree has, and its content
pub record Node : Type 0 where
  pub kind : ℕ
  pub span : ℕ
  pub text : Text

unfoldable pub node_count : List ℕ → ℕ
node_count s = num (take 2 s)

-- how many bytes the contents of the nodes 0 to i have
unfoldable pub end_at : List ℕ → ℕ → ℕ
end_at s i = num (take 2 (drop (5 * i + 5) s))

-- how many bytes the contents before node i have
unfoldable pub start_at : List ℕ → ℕ → ℕ
start_at s zero = 0
start_at s (suc i) = end_at s i

unfoldable pub node_at : List ℕ → ℕ → Node
node_at s i = record {
  kind = get_or s (5 * i + 2) 0;
  span = num (take 2 (drop (5 * i + 3) s));
  text = take (end_at s i - start_at s i) (drop (5 * node_count s + 2 + start_at s i) s);
}

-- how many bytes stand behind the nodes
unfoldable pub behind : List ℕ → ℕ
behind s = length s - (5 * node_count s + 2)

-- as many nodes are there as the count says
abbrev pub all_there : List ℕ → Bool
all_there s = leb (5 * node_count s + 2) (length s)

abbrev pub AllThere : List ℕ → Type 0
AllThere s = 5 * node_count s + 2 ≤ length s

-- the nodes are there, and node i is one of them
pub record Room (s : List ℕ) (i : ℕ) : Type 0 where
  pub nodes : AllThere s
  pub within : i < node_count s

-- and so is its content
pub record Content (s : List ℕ) (i : ℕ) : Type 0 where
  pub node : Room s i
  pub rising : start_at s i ≤ end_at s i
  pub inside : end_at s i ≤ behind s

-- ---- kinds: leaves 0 to 8, one operand 9 to 15, two 16 to 29

abbrev pub name_kind : Bool → ℕ
name_kind false = 0
name_kind true = 1

abbrev pub truth_kind : Bool → ℕ
truth_kind true = 4
truth_kind false = 5

unfoldable pub leaf_kind : Leaf → ℕ
leaf_kind (Leaf.name n) = name_kind n.quoted
leaf_kind (Leaf.number s) = 2
leaf_kind (Leaf.string s) = 3
leaf_kind (Leaf.boolean b) = truth_kind b
leaf_kind Leaf.null = 6
leaf_kind Leaf.other_literal = 7
leaf_kind Leaf.other_expression = 8

unfoldable pub leaf_text : Leaf → Text
leaf_text (Leaf.name n) = n.text
leaf_text (Leaf.number s) = s
leaf_text (Leaf.string s) = s
leaf_text (Leaf.boolean b) = []
leaf_text Leaf.null = []
leaf_text Leaf.other_literal = []
leaf_text Leaf.other_expression = []

unfoldable pub un_kind : Unary → ℕ
un_kind o = 9 + unary_no o

unfoldable pub bin_kind : Binary → ℕ
bin_kind (binary o) = 16 + operator_no o
bin_kind other_binary = 29

-- what stands at a node, by its kind; a kind of no such node gives the last one
unfoldable pub leaf_of : ℕ → Text → Leaf
leaf_of k s =
    get_or
    (name_of false s ∷ name_of true s ∷ Leaf.number s ∷ Leaf.string s ∷ Leaf.boolean true ∷ Leaf.boolean false ∷ Leaf.null ∷ Leaf.other_literal ∷ [])
    k Leaf.other_expression

unfoldable pub un_of : ℕ → Unary
un_of k = get_or unaries (k - 9) other_unary

abbrev operator_or : Option BoundBinaryOperator → Binary
operator_or none = other_binary
operator_or (some o) = binary o

unfoldable pub bin_of : ℕ → Binary
bin_of k = operator_or (get_elem? operators (k - 16))

-- ---- where a tree stands

-- the node at a tree's root
unfoldable pub top : Expr → Node
top (leaf l) = record { kind = leaf_kind l; span = 1; text = leaf_text l }
top (un o a) = record { kind = un_kind o; span = size (un o a); text = [] }
top (bin o a b) = record { kind = bin_kind o; span = size (bin o a b); text = [] }

-- The tree has its root at node i: the last operand is the node just before, and the first one of two ends where the other's span begins.
unfoldable pub Root : (ℕ → Node) → ℕ → Expr → Type 0
Root v i (leaf l) = v i ≡ top (leaf l)
Root v i (un o a) = (v i ≡ top (un o a)) × (1 ≤ i) × Root v (i - 1) a
Root v i (bin o a b) = (v i ≡ top (bin o a b)) × (size b + 1 ≤ i) × Root v (i - 1 - size b) a × Root v (i - 1) b

-- some tree has its root at node i
pub record HasTree (v : ℕ → Node) (i : ℕ) : Type 0 where
  pub tree : Expr
  pub root : Root v i tree

-- ---- images

-- s is e's image
abbrev pub IsExpression : List ℕ → Expr → Type 0
IsExpression s e = expression.read s ≡ some e

-- s is the image of an expression
pub record IsImage (s : List ℕ) : Type 0 where
  pub reads : is_some (expression.read s) ≡ true

-- and node i is one of its nodes
pub record HasNode (s : List ℕ) (i : ℕ) : Type 0 where
  pub image : IsImage s
  pub within : i < node_count s
