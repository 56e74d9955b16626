-- The names of an expression are those of its nodes, in their order.
-- Assumes nothing.
use Rattle.std.specs.Prelude.{◌≡◌, refl, Bool, true, false, cond, not, ◌&&◌, ◌||◌, List, [], ◌∷◌, ◌++◌, ℕ, zero, suc, ◌+◌, ◌-◌, ◌<◌, ◌≤◌, length, leb, eqb, ltb}
use Rattle.std.specs.List.{list_all, list_any, range_with_len}
use Rattle.std.proofs.Common.{◌∙◌, sym, ap, ap₂, append_assoc, append-nil, le-ltb, lt-ltb, eq-eqb}
use Rattle.std.proofs.Math.Bool.{and_assoc, and-true, or_assoc, or-false}
use native.Mathlib.Omega.{arith}
use Rattle.std.proofs.Math.Decide.{dec_lt}
use Rattle.bytes_wire.specs.Le.{Bytes}
use Rattle.tree.specs.Tree.{leaf, un, bin, size}
use Rattle.bytes_format.specs.Nodes.{Label.leaf_label, Label.un_label, Label.bin_label, nodes_of}
use Rattle.bytes_format.proofs.NodeLaws.{nodes_length}
use Rattle.rules.specs.Lists.{all, any}
use Rattle.rules.specs.Limits.{leaf_names, expression_names, name_within}
use Rattle.rules.specs.Names.{beyond_ascii}
use Rattle.rules.specs.Statements.{Name, Leaf, Expr}
use Rattle.image_expression.specs.Place.{Node, node_count, node_at, leaf_kind, leaf_text, un_kind, bin_kind, IsExpression, IsImage, HasNode}
use Rattle.image_expression.specs.Heads.{Head, head_kind, head_text, un_range, bin_range}
use Rattle.image_expression.specs.Trees.{node_of, Lies}
use Rattle.image_expression.specs.Images.{image_parts}

-- the name that stands at a node: the kinds 0 and 1 are names, unquoted and quoted
unfoldable pub node_names : Node → List Name
node_names m = cond (ltb m.kind 2) (record { quoted = eqb m.kind 1; text = m.text } ∷ []) []

-- the names at n nodes from node i on
unfoldable pub names_from : (ℕ → Node) → ℕ → ℕ → List Name
names_from v i zero = []
names_from v i (suc n) = node_names (v i) ++ names_from v (suc i) n

-- ---- labels

head_names : Head → List Name
head_names (leaf_label l) = leaf_names l
head_names (un_label o) = []
head_names (bin_label o) = []

list_names : List (Head × ℕ) → List Name
list_names [] = []
list_names (x ∷ l) = head_names x.0 ++ list_names l

list_append : (l m : List (Head × ℕ)) → list_names (l ++ m) ≡ list_names l ++ list_names m
unfolding list_names
list_append [] m = refl
list_append (x ∷ l) m = ap (λ (k : List Name). head_names x.0 ++ k) (list_append l m) ∙ sym (append_assoc (head_names x.0) (list_names l) (list_names m))

tree_names : (e : Expr) → list_names (nodes_of e) ≡ expression_names e
unfolding list_names head_names expression_names
tree_names (leaf l) = append-nil (leaf_names l)
tree_names (un o a) = list_append (nodes_of a) ((un_label o, size (un o a)) ∷ []) ∙ append-nil (list_names (nodes_of a)) ∙ tree_names a
tree_names (bin o a b) =
    list_append (nodes_of a ++ nodes_of b) ((bin_label o, size (bin o a b)) ∷ [])
    ∙ append-nil (list_names (nodes_of a ++ nodes_of b)) ∙ list_append (nodes_of a) (nodes_of b) ∙ ap₂ (λ (k m : List Name). k ++ m) (tree_names a) (tree_names b)

name_names : (n : ℕ) (q : Bool) (s : List ℕ) → node_names (node_of (leaf_label (Leaf.name (record { quoted = q; text = s })), n)) ≡ record { quoted = q; text = s } ∷ []
unfolding node_names node_of head_kind head_text leaf_kind leaf_text
name_names n false s = refl
name_names n true s = refl

truth_names : (n : ℕ) (b : Bool) → node_names (node_of (leaf_label (Leaf.boolean b), n)) ≡ []
unfolding node_names node_of head_kind head_text leaf_kind leaf_text
truth_names n true = refl
truth_names n false = refl

leaf_names_lem : (n : ℕ) (l : Leaf) → node_names (node_of (leaf_label l, n)) ≡ leaf_names l
unfolding node_names node_of head_kind head_text leaf_kind leaf_text
leaf_names_lem n (Leaf.name m) = name_names n m.quoted m.text
leaf_names_lem n (Leaf.number s) = refl
leaf_names_lem n (Leaf.string s) = refl
leaf_names_lem n (Leaf.boolean b) = truth_names n b
leaf_names_lem n Leaf.null = refl
leaf_names_lem n Leaf.other_literal = refl
leaf_names_lem n Leaf.other_expression = refl

head_names_lem : (n : ℕ) (h : Head) → node_names (node_of (h, n)) ≡ head_names h
unfolding node_names node_of head_kind head_text head_names
head_names_lem n (leaf_label l) = leaf_names_lem n l
head_names_lem n (un_label o) = rw (le-ltb (un_kind o) 2 (omega (arith, un_range o)))
head_names_lem n (bin_label o) = rw (le-ltb (bin_kind o) 2 (omega (arith, bin_range o)))

names_at : (v : ℕ → Node) (a : ℕ) (m : List (Head × ℕ)) → Lies v a m → names_from v a (length m) ≡ list_names m
unfolding names_from list_names Lies
names_at v a [] h = refl
names_at v a (x ∷ m) h = ap₂ (λ (k l : List Name). k ++ l) (ap node_names h.0 ∙ head_names_lem x.1 x.0) (names_at v (suc a) m h.1)

pub image_names : {s : List ℕ} {e : Expr} → Bytes s → IsExpression s e → expression_names e ≡ names_from (node_at s) 0 (node_count s)
image_names {s} {e} b h =
    let i = image_parts b h in
    let n : node_count s ≡ length (nodes_of e) = i.many ∙ sym (nodes_length e) in
    sym (rw n (names_at (node_at s) 0 (nodes_of e) i.lies ∙ tree_names e))

-- ---- one node

abbrev pub Within : Name → Bool
Within n = name_within n.text

pub within_none : (m : Node) → 1 < m.kind → all Within (node_names m) ≡ true
unfolding node_names
within_none m h = rw (le-ltb m.kind 2 h)

pub within_one : (m : Node) → m.kind ≤ 1 → all Within (node_names m) ≡ name_within m.text
unfolding node_names
within_one m h = rw (lt-ltb m.kind 2 (omega arith)) (and-true (name_within m.text))

pub beyond_none : (m : Node) → (m.kind ≡ 0 → ⊥) → any beyond_ascii (node_names m) ≡ false
unfolding node_names beyond_ascii
beyond_none m h = go (dec_lt m.kind 2)
  where
    go : Dec (m.kind < 2) → any beyond_ascii (node_names m) ≡ false
    go (yes l) = rw (lt-ltb m.kind 2 l, eq-eqb m.kind 1 (omega arith))
    go (no l) = rw (le-ltb m.kind 2 (omega arith))

pub beyond_one : (m : Node) → m.kind ≡ 0 → any beyond_ascii (node_names m) ≡ any (leb 128) m.text
unfolding node_names beyond_ascii
beyond_one m h = rw h (or-false (any (leb 128) m.text))

-- ---- looking through the names, one node after the other

-- A look at names answers z where it finds nothing, and then goes by what stands behind. It stops where it finds something.
pub record Look (f : List Name → Bool) (z : Bool) : Type 0 where
  pub nothing : f [] ≡ z
  pub on : (a b : List Name) → f a ≡ z → f (a ++ b) ≡ f b
  pub stop : (a b : List Name) → f a ≡ not z → f (a ++ b) ≡ not z

pub all_append : {A : Type 0} (p : A → Bool) (a b : List A) → all p (a ++ b) ≡ (all p a && all p b)
all_append p [] b = refl
all_append p (x ∷ a) b = ap (λ (t : Bool). p x && t) (all_append p a b) ∙ sym (and_assoc (p x) (all p a) (all p b))

any_append : (p : Name → Bool) (a b : List Name) → any p (a ++ b) ≡ (any p a || any p b)
any_append p [] b = refl
any_append p (x ∷ a) b = ap (λ (t : Bool). p x || t) (any_append p a b) ∙ sym (or_assoc (p x) (any p a) (any p b))

pub all_look : (p : Name → Bool) → Look (all p) true
all_look p = record { nothing = refl; on = λ a b e. all_append p a b ∙ rw e; stop = λ a b e. all_append p a b ∙ rw e }

pub any_look : (p : Name → Bool) → Look (any p) false
any_look p = record { nothing = refl; on = λ a b e. any_append p a b ∙ rw e; stop = λ a b e. any_append p a b ∙ rw e }

-- the first i of n nodes are passed, and nothing was found
pub record Passed (f : List Name → Bool) (s : List ℕ) (n i : ℕ) : Type 0 where
  pub bytes : Bytes s
  pub image : IsImage s
  pub many : n ≡ node_count s
  pub upto : i ≤ n
  pub rest : f (names_from (node_at s) 0 n) ≡ f (names_from (node_at s) i (n - i))

-- what the look says of the expression
abbrev pub Says : (List Name → Bool) → List ℕ → Bool → Type 0
Says f s r = (e : Expr) → IsExpression s e → r ≡ f (expression_names e)

pub begun : {f : List Name → Bool} {s : List ℕ} {n : ℕ} → Bytes s → IsImage s → n ≡ node_count s → Passed f s n 0
begun {f} {s} {n} b i m = let e : n - 0 ≡ n = omega arith in record { bytes = b; image = i; many = m; upto = omega arith; rest = rw e }

names_next : (v : ℕ → Node) (i n : ℕ) → i < n → names_from v i (n - i) ≡ node_names (v i) ++ names_from v (i + 1) (n - (i + 1))
unfolding names_from
names_next v i n h =
    let e : n - i ≡ suc (n - (i + 1)) = omega arith in
    let g : i + 1 ≡ suc i = omega arith in
    rw (e, g)

module _ {f : List Name → Bool} {z : Bool} (look : Look f z) {s : List ℕ} {n i : ℕ} (p : Passed f s n i) where
  said : (r : Bool) → f (names_from (node_at s) i (n - i)) ≡ r → Says f s r
  said r h e g = sym (ap f (image_names p.bytes g) ∙ ap (λ (k : ℕ). f (names_from (node_at s) 0 k)) (sym p.many) ∙ p.rest ∙ h)

  pub has_node : (j : ℕ) → j < n → HasNode s j
  has_node j l = record { image = p.image; within = omega (arith, p.many) }

  pub passes : i < n → f (node_names (node_at s i)) ≡ z → Passed f s n (i + 1)
  passes l h = record {
    bytes = p.bytes;
    image = p.image;
    many = p.many;
    upto = omega arith;
    rest = p.rest ∙ ap f (names_next (node_at s) i n l) ∙ look.on _ _ h;
  }

  pub stops : i < n → f (node_names (node_at s i)) ≡ not z → Says f s (not z)
  stops l h = said (not z) (ap f (names_next (node_at s) i n l) ∙ look.stop _ _ h)

  pub ends : n ≤ i → Says f s z
  unfolding names_from
  ends l = let e : n - i ≡ 0 = omega arith in said z (rw e look.nothing)

-- the test of node j
abbrev pub names_pass : {f : List Name → Bool} {z : Bool} → Look f z → List ℕ → ℕ → Bool
names_pass {f} look s j = f (node_names (node_at s j))

-- a chain over the nodes, which stops where it finds something
module _ {f : List Name → Bool} {s : List ℕ} {n : ℕ} where
  all_turn : (look : Look f true) {i : ℕ} → Passed f s n i → i < n → (b r : Bool) → names_pass look s i ≡ b → (Passed f s n (i + 1) → Says f s r) → Says f s (b && r)
  all_turn look p l true r h k = k (passes look p l h)
  all_turn look p l false r h k = stops look p l h

  all_says : (look : Look f true) (k i : ℕ) → i + k ≡ n → Passed f s n i → Says f s (list_all (names_pass look s) (range_with_len i k))
  all_says look zero i e p = ends look p (omega (arith, e))
  all_says look (suc k) i e p = all_turn look p (omega (arith, e)) _ _ refl (all_says look k (i + 1) (omega (arith, e)))

  pub walk_all : (look : Look f true) (k i : ℕ) → i + k ≡ n → Passed f s n i → {r : Bool} → r ≡ list_all (names_pass look s) (range_with_len i k) → Says f s r
  walk_all look k i e p h = rw h (all_says look k i e p)

  any_turn : (look : Look f false) {i : ℕ} → Passed f s n i → i < n → (b r : Bool) → names_pass look s i ≡ b → (Passed f s n (i + 1) → Says f s r) → Says f s (b || r)
  any_turn look p l true r h k = stops look p l h
  any_turn look p l false r h k = k (passes look p l h)

  any_says : (look : Look f false) (k i : ℕ) → i + k ≡ n → Passed f s n i → Says f s (list_any (names_pass look s) (range_with_len i k))
  any_says look zero i e p = ends look p (omega (arith, e))
  any_says look (suc k) i e p = any_turn look p (omega (arith, e)) _ _ refl (any_says look k (i + 1) (omega (arith, e)))

  pub walk_any : (look : Look f false) (k i : ℕ) → i + k ≡ n → Passed f s n i → {r : Bool} → r ≡ list_any (names_pass look s) (range_with_len i k) → Says f s r
  walk_any look k i e p h = rw h (any_says look k i e p)
