-- How large a bound expression is at most, where the names are within paper 01's limit: no sum of two sizes wraps, and the whole image's length
-- fits 4 bytes. A leaf holds at most 65,536 bytes, and a tree of n nodes has at most (n + 1) / 2 leaves: 11 n + 65536 (n + 1) / 2 bytes.
-- Assumes nothing.
use Rattle.std.specs.Prelude.{◌≡◌, refl, Bool, true, false, List, [], ◌∷◌, ℕ, ◌+◌, ◌-◌, ◌*◌, ◌^◌, ◌≤◌, ◌<◌, eqb, ℤ, length, drop, Result, Ok}
use Rattle.std.proofs.Common.{◌∙◌, sym, ap, arith}
use Rattle.std.proofs.Math.Path.{subst}
use Rattle.std.proofs.lemmas.Bool.{false≢true}
use Rattle.std.proofs.Math.Option.{Option, none, some, none-ne-some, some-injective}
use Rattle.std.proofs.lemmas.List.{length-map}
use Rattle.bytes_wire.specs.Le.{Bytes, num_take_below, drop_bytes}
use Rattle.tree.specs.Tree.{leaf, un, bin, size}
use Rattle.bytes_bundle.specs.Decides.{and_of}
use Rattle.bytes_bundle.specs.Held.{Holds, held}
use Rattle.rules.specs.declared.Mark.{Mark}
use Rattle.rules.specs.declared.Refusal.{Refusal}
use Rattle.rules.specs.Lists.{Text, same, find}
use Rattle.rules.specs.Answers.{given, ◌>>=◌, Verdict, fine, flaw, judged}
use Rattle.rules.specs.Bound as bound
use Rattle.rules.specs.Bound.{BoundLeaf, BoundColumnRef, BoundExpr, mark_of}
use Rattle.rules.specs.Lookup.{ref_named, bound_columns, column_by_name}
use Rattle.rules.specs.Names.{fold, canonical}
use Rattle.rules.specs.Numbers.{integer_literal}
use Rattle.rules.specs.Marking.{
  column_leaf,
  integer_leaf,
  leaf_rule,
  signed_number,
  unary_rule,
  binary_rule,
  or_signed,
  bound_leaf,
  bound_unary,
  bound_binary,
  bind_expression,
}
use Rattle.rules.specs.Statements.{Name, Leaf, Unary, parentheses, null_test, unary, other_unary, Binary, binary, other_binary, Expr}
use Rattle.rules.specs.Tables.{TableSchema}
use Rattle.rules.proofs.Theorems.Answered.{bind_given, never_fine, never_given}
use Rattle.image_expression.specs.Expression.{expression}
use Rattle.image_expression.specs.Place.{Node, node_count, end_at, node_at, name_kind, leaf_kind, leaf_text, top, Root, HasNode}
use Rattle.image_expression.specs.Trees.{root_size}
use Rattle.image_expression.specs.Layout.{text_length}
use Rattle.image_expression.specs.Laws.{is_image, has_content, some_node, every_node, placed}
use Rattle.image_bound.specs.Expression.{bound_expression}
use Rattle.image_bound.specs.Runs as runs
use Rattle.image_bound.specs.Runs.{leaf_bytes, content_length}
use Rattle.image_bound.specs.Spelt as spelt
use Rattle.bind_expression.specs.declared.Measured.{Measured}
use Rattle.bind_expression.specs.Told.{bytes_of}
use Rattle.bind_expression.specs.Marks.{NamesWithin, Markable, Marks, marked_is}

abbrev pub Small : Measured → Type 0
Small m = m.size < 2 ^ 32

fine_same : {A : Type 0} {a b : A} → fine a ≡ fine b → a ≡ b
fine_same h = cc

given_same : {A : Type 0} {a b : A} → given a ≡ given b → a ≡ b
given_same h = cc

-- ---- an image's number of nodes and the ends of its contents have two bytes each

pub few_nodes : {s : List ℕ} → Bytes s → node_count s < 65536
unfolding node_count
few_nodes {s} b = num_take_below 2 2 s b (omega arith)

pub short_text : {s : List ℕ} {i : ℕ} → Bytes s → HasNode s i → length (node_at s i).text < 65536
unfolding end_at
short_text {s} {i} b h =
    let l : end_at s i < 65536 = num_take_below 2 2 (drop (5 * i + 5) s) (drop_bytes (5 * i + 5) b) (omega arith) in
    omega (arith, text_length s i (has_content b h))

-- ---- names

find_passes : {A : Type 0} (p : A → Bool) (l : List A) {y : A} → find p l ≡ some y → p y ≡ true
find_passes p [] {y} e = absurd (none-ne-some y e)
find_passes {A} p (x ∷ l) {y} e = go (p x) refl (find_passes p l) e
  where
    go : (b : Bool) → p x ≡ b → (find p l ≡ some y → p y ≡ true) → elim b [ true ↦ some x | false ↦ find p l ] ≡ some y → p y ≡ true
    go true q below h = subst (λ (z : A). p z ≡ true) (some-injective x y h) q
    go false q below h = below h

same_length : (a b : Text) → same a b ≡ true → length a ≡ length b
same_length [] [] h = refl
same_length [] (y ∷ b) h = absurd (false≢true h)
same_length (x ∷ a) [] h = absurd (false≢true h)
same_length (x ∷ a) (y ∷ b) h = omega (arith, same_length a b (and_of (eqb x y) (same a b) h).1)

canonical_length : (n : Name) → length (canonical n) ≡ length n.text
unfolding canonical
canonical_length n = go n.quoted
  where
    go : (q : Bool) → length (canonical (record { quoted = q; text = n.text })) ≡ length n.text
    go true = refl
    go false = length-map n.text fold

-- a column's name in the table is as long as the name that stands for it
pub name_length : (t : TableSchema) (n : Name) {c : BoundColumnRef} → column_by_name t (canonical n) ≡ some c → length c.name ≡ length n.text
unfolding column_by_name
name_length t n {c} e =
    sym (same_length (canonical n) c.name (find_passes (ref_named (canonical n)) (bound_columns t) e)) ∙ canonical_length n

-- ---- leaves

-- what the nodes of an image with short names hold
abbrev ShortNode : Node → Type 0
ShortNode m = (m.kind < 2 → length m.text ≤ 128) × (length m.text < 65536)

abbrev leaf_size : bound.Marked BoundLeaf → ℕ
leaf_size l = length (leaf_bytes l.kind)

number_small : (negative : Bool) (s : Text) (l : bound.Marked BoundLeaf) → integer_leaf (integer_literal negative s) ≡ fine l → leaf_size l ≤ 65536
number_small negative s l e = go (integer_literal negative s) e
  where
    go : (o : Option ℤ) → integer_leaf o ≡ fine l → leaf_size l ≤ 65536
    go none h = absurd (never_fine h)
    go (some z) h = omega (arith, spelt.int_length z, ap leaf_size (fine_same h))

leaf_small : (t : TableSchema) (k : Leaf) → ShortNode (top (leaf k)) → (l : bound.Marked BoundLeaf) → leaf_rule t k ≡ fine l → leaf_size l ≤ 65536
unfolding leaf_rule top leaf_kind leaf_text
leaf_small t (Leaf.name n) d l e = go (column_by_name t (canonical n)) refl e
  where
    low : (q : Bool) → name_kind q < 2
    low false = omega arith
    low true = omega arith

    go : (o : Option BoundColumnRef) → column_by_name t (canonical n) ≡ o → column_leaf o ≡ fine l → leaf_size l ≤ 65536
    go none p h = absurd (never_fine h)
    go (some c) p h = omega (arith, spelt.column_ref_length c, name_length t n p, d.0 (low n.quoted), ap leaf_size (fine_same h))
leaf_small t (Leaf.number s) d l e = number_small false s l e
leaf_small t (Leaf.string s) d l e = omega (arith, spelt.text_length s, d.1, ap leaf_size (fine_same e))
leaf_small t (Leaf.boolean b) d l e = omega (arith, spelt.bool_length b, ap leaf_size (fine_same e))
leaf_small t Leaf.null d l e = omega (arith, spelt.null_length, ap leaf_size (fine_same e))
leaf_small t Leaf.other_literal d l e = absurd (never_fine e)
leaf_small t Leaf.other_expression d l e = absurd (never_fine e)

-- ---- trees

-- b is no larger than n nodes allow
abbrev Within : ℕ → BoundExpr → Type 0
Within n b = bytes_of b ≤ 32779 * n + 32768

leaf_within_lem : (n : ℕ) → 1 ≤ n → (u : Verdict (bound.Marked BoundLeaf)) → ((l : bound.Marked BoundLeaf) → u ≡ fine l → leaf_size l ≤ 65536)
    → (b : BoundExpr) → (judged u >>= bound_leaf) ≡ given b → Within n b
unfolding bytes_of
leaf_within_lem n h (fine l) s b e = subst (Within n) (given_same e) (omega (arith, s l refl))
leaf_within_lem n h (flaw k) s b e = absurd (never_given e)

unary_within : (n : ℕ) (o : Unary) (m : Mark) (a : BoundExpr) → Within n a → Within (n + 1) (bound_unary o m a)
unfolding bound_unary bytes_of
unary_within n parentheses m a w = omega arith
unary_within n (null_test z) m a w = omega arith
unary_within n (unary o) m a w = omega arith
unary_within n other_unary m a w = omega arith

binary_within : (k n : ℕ) (o : Binary) (m : Mark) (a b : BoundExpr) → Within k a → Within n b → Within (k + n + 1) (bound_binary o m a b)
unfolding bound_binary bytes_of
binary_within k n (binary o) m a b w z = omega arith
binary_within k n other_binary m a b w z = omega arith

module _ (t : TableSchema) (v : ℕ → Node) (count : ℕ) (short : (j : ℕ) → j < count → ShortNode (v j)) where
  within : (i : ℕ) → i < count → (x : Expr) → Root v i x → (b : BoundExpr) → bind_expression t x ≡ given b → Within (size x) b
  unfolding Root bind_expression size
  within i h (leaf k) g b e = leaf_within_lem 1 (omega arith) (leaf_rule t k) (leaf_small t k (subst ShortNode g (short i h))) b e
  within i h (un o a) g b e = go (signed_number o a) (within (i - 1) (omega arith) a g.2) e
    where
      go : (s : Option (Bool × Text)) → ((y : BoundExpr) → bind_expression t a ≡ given y → Within (size a) y)
          → or_signed s bound_leaf (bind_expression t a >>= (λ y. judged (unary_rule o (mark_of y)) >>= (λ m. given (bound_unary o m y)))) ≡ given b
          → Within (size a + 1) b
      go none below q =
          let y = bind_given (bind_expression t a) _ b q in
          let m = bind_given (judged (unary_rule o (mark_of y.0))) _ b y.2 in
          subst (Within (size a + 1)) (given_same m.2) (unary_within (size a) o m.0 y.0 (below y.0 y.1))
      go (some p) below q = leaf_within_lem (size a + 1) (omega arith) _ (number_small p.0 p.1) b q
  within i h (bin o a c) g b e =
      let y = bind_given (bind_expression t a) _ b e in
      let z = bind_given (bind_expression t c) _ b y.2 in
      let m = bind_given (judged (binary_rule o (mark_of y.0) (mark_of z.0))) _ b z.2 in
      subst (Within (size a + size c + 1)) (given_same m.2)
      (binary_within (size a) (size c) o m.0 y.0 z.0 (within (i - 1 - size c) (omega arith) a g.2 y.0 y.1) (within (i - 1) (omega arith) c g.3 z.0 z.1))

-- ---- what the code is told

nodes_short : {e : List ℕ} → Bytes e → NamesWithin e → ((j : ℕ) → j < node_count e → HasNode e j) → (j : ℕ) → j < node_count e → ShortNode (node_at e j)
nodes_short b n h j l = (n.short j l, short_text b (h j l))

-- what marking answers is small
pub small : {t e : List ℕ} {i : ℕ} → Bytes e → Markable t e i → {r : Result Measured Refusal} → Marks t e i r → {m : Measured} → r ≡ Ok m → Small m
small {t} {e} {i} b k s p =
    held k.table (λ v h.
    let x = every_node b k.node.image i k.node.within in
    let y = marked_is t e h i x.tree x.root s p in
    let w = within v (node_at e) (node_count e) (nodes_short b k.names (λ j l. record { image = k.node.image; within = l })) i k.node.within x.tree x.root y.0 y.1 in
    subst Small y.2 (omega (arith, w, root_size (node_at e) i x.tree x.root, few_nodes b, k.node.within)))

-- ---- the whole image

bytes_are : (e : BoundExpr) → 11 * size e + content_length e ≡ bytes_of e
unfolding size content_length bytes_of
bytes_are (leaf l) = omega arith
bytes_are (un o a) = omega (arith, bytes_are a)
bytes_are (bin o a b) = omega (arith, bytes_are a, bytes_are b)

pub run_length : (e : BoundExpr) → length (bound_expression.write e) ≡ 4 + bytes_of e
run_length e = omega (arith, runs.run_length e, bytes_are e)

-- the image of what an expression is bound to has a length that fits 4 bytes
pub short_run : {e : List ℕ} → Bytes e → NamesWithin e → {x : Expr} → Holds expression e x → (v : TableSchema) {y : BoundExpr} → bind_expression v x ≡ given y
    → length (bound_expression.write y) < 2 ^ 32
short_run {e} b n {x} h v {y} q =
    let i = is_image h in
    let p = placed b h in
    let o = some_node b i in
    let w = within v (node_at e) (node_count e) (nodes_short b n (λ j l. record { image = i; within = l })) (node_count e - 1) (omega arith) x p.0 y q in
    omega (arith, run_length y, w, p.1, few_nodes b)
