-- What a node of an expression is bound to over a table, and what its operands are bound to then.
-- Assumes nothing.
use Rattle.std.specs.Prelude.{◌≡◌, refl, Bool, true, false, List, ℕ, ◌+◌, ◌-◌, ◌<◌, ◌≤◌, ltb, eqb}
use Rattle.std.proofs.Common.{◌∙◌, ap, ap₂, arith, ltb-true}
use Rattle.std.proofs.Math.Path.{sym}
use Rattle.std.proofs.Math.Option.{some}
use Rattle.bytes_wire.specs.Le.{Bytes}
use Rattle.tree.specs.Tree.{leaf, un, bin}
use Rattle.rules.specs.declared.BoundUnaryOperator.TheVariants.{Positive, Negative, Not}
use Rattle.rules.specs.declared.BoundBinaryOperator.{BoundBinaryOperator}
use Rattle.rules.specs.declared.Mark.{Mark}
use Rattle.rules.specs.Answers.{Answer, given, refused, ◌>>=◌, Verdict, fine, flaw, judged}
use Rattle.rules.specs.Bound.{Marked, BoundLeaf, BoundUnary, BoundExpr, mark_of}
use Rattle.rules.specs.Lists.{Text}
use Rattle.rules.specs.Marking.{
  with,
  integer_leaf,
  leaf_rule,
  signed_number,
  unary_rule,
  binary_rule,
  operator_no,
  bound_leaf,
  bound_unary,
  bound_binary,
  bind_expression,
}
use Rattle.rules.specs.Numbers.{integer_literal}
use Rattle.rules.specs.Statements.{Leaf, Unary, parentheses, null_test, unary, other_unary, Binary, binary, other_binary, Expr}
use Rattle.rules.specs.Tables.{TableSchema}
use Rattle.rules.proofs.Theorems.Answered.{bind_given, never_given, never_fine}
use Rattle.image_catalogue.specs.Layout.{table}
use Rattle.bytes_bundle.specs.Decides.{and_of}
use Rattle.bytes_bundle.specs.Held.{Holds, held_once}
use Rattle.image_expression.specs.Expression.{expression}
use Rattle.image_expression.specs.Place.{node_count, node_at, leaf_of, un_kind, un_of, bin_kind, bin_of, Root}
use Rattle.image_expression.specs.Heads.{un_kind_lem, bin_kind_lem}
use Rattle.image_expression.specs.Trees.{root_unique}
use Rattle.image_expression.specs.Laws.{placed, leaf_at, un_at, bin_at, kind_range}
use Rattle.image_bound.specs.Expression.{unary_no}
use Rattle.write_expression.specs.Signs.{signs, signed, unsigned}

-- over the table that t holds, the expression that e holds is bound to b
pub record BindsWhole (t e : List ℕ) (b : BoundExpr) : Type 0 where
  pub schema : TableSchema
  pub holds : Holds table t schema
  pub tree : Expr
  pub reads : Holds expression e tree
  pub bound : bind_expression schema tree ≡ given b

-- and the tree at node i of e to b
pub record Binds (t e : List ℕ) (i : ℕ) (b : BoundExpr) : Type 0 where
  pub schema : TableSchema
  pub holds : Holds table t schema
  pub tree : Expr
  pub root : Root (node_at e) i tree
  pub bound : bind_expression schema tree ≡ given b

-- the root is the last node
pub bind_root : {t e : List ℕ} {b : BoundExpr} → Bytes e → BindsWhole t e b → Binds t e (node_count e - 1) b
bind_root y h = record { schema = h.schema; holds = h.holds; tree = h.tree; root = (placed y h.reads).0; bound = h.bound }

given_same : {A : Type 0} {a b : A} → given a ≡ given b → a ≡ b
given_same h = cc

-- a node is bound to one
pub binds_once : {t e : List ℕ} {i : ℕ} {b c : BoundExpr} → Binds t e i b → Binds t e i c → b ≡ c
binds_once {e = e} {i = i} h g =
    let v : h.schema ≡ g.schema = held_once table h.holds g.holds in
    let x : h.tree ≡ g.tree = root_unique (node_at e) i h.tree g.tree h.root g.root in
    given_same (sym h.bound ∙ ap₂ (λ (s : TableSchema) (y : Expr). bind_expression s y) v x ∙ g.bound)

-- ---- a leaf, and a sign with its number

-- the rule of the leaf x, over the table that t holds, gives l
pub record Ruled (t : List ℕ) (x : Leaf) (l : Marked BoundLeaf) : Type 0 where
  pub schema : TableSchema
  pub holds : Holds table t schema
  pub rule : leaf_rule schema x ≡ fine l

-- the rule of a number's text, under a minus or not, gives l
abbrev pub Numbered : Bool → Text → Marked BoundLeaf → Type 0
Numbered negative s l = integer_leaf (integer_literal negative s) ≡ fine l

-- b is a leaf, by a rule P
pub record LeafBinds (P : Marked BoundLeaf → Type 0) (b : BoundExpr) : Type 0 where
  pub label : Marked BoundLeaf
  pub rule : P label
  pub is : b ≡ leaf label

leaf_parts : (u : Verdict (Marked BoundLeaf)) (b : BoundExpr) → (judged u >>= bound_leaf) ≡ given b → LeafBinds (λ l. u ≡ fine l) b
leaf_parts (fine l) b h = record { label = l; rule = refl; is = sym (given_same h) }
leaf_parts (flaw k) b h = absurd (never_given h)

number_parts : (v : TableSchema) (o : Unary) (a : Expr) (b : BoundExpr) (negative : Bool) (s : Text) → signed_number o a ≡ some (negative, s)
    → bind_expression v (un o a) ≡ given b → LeafBinds (Numbered negative s) b
unfolding bind_expression
number_parts v o a b negative s z h = leaf_parts (integer_leaf (integer_literal negative s)) b (rw z at h)

-- ---- nodes with operands: `code` is the node's kind as a bound node

pub record UnBinds (t e : List ℕ) (i k code : ℕ) (b : BoundExpr) : Type 0 where
  pub node : Marked BoundUnary
  pub operand : BoundExpr
  pub below : Binds t e (i - 1) operand
  pub rule : unary_rule (un_of k) (mark_of operand) ≡ fine node.mark
  pub kind : code ≡ 2 + unary_no node.kind
  pub is : b ≡ un node operand

pub record BinBinds (t e : List ℕ) (i k n code : ℕ) (b : BoundExpr) : Type 0 where
  pub node : Marked BoundBinaryOperator
  pub left : BoundExpr
  pub right : BoundExpr
  pub first : Binds t e (i - 1 - n) left
  pub last : Binds t e (i - 1) right
  pub rule : binary_rule (bin_of k) (mark_of left) (mark_of right) ≡ fine node.mark
  pub kind : code ≡ 7 + operator_no node.kind
  pub is : b ≡ bin node left right

-- an answer that is given, and a rule that is fine with it
record Step {A C : Type 0} (r : Answer A) (u : A → Verdict Mark) (f : A → Mark → C) (c : C) : Type 0 where
  pub value : A
  pub mark : Mark
  pub came : r ≡ given value
  pub rule : u value ≡ fine mark
  pub is : c ≡ f value mark

step : {A C : Type 0} (r : Answer A) (u : A → Verdict Mark) (f : A → Mark → C) (c : C) → (r >>= (λ x. judged (u x) >>= (λ m. given (f x m)))) ≡ given c → Step r u f c
step {A} {C} (given a) u f c h = go (u a) refl h
  where
    go : (w : Verdict Mark) → u a ≡ w → (judged w >>= (λ m. given (f a m))) ≡ given c → Step (given a) u f c
    go (fine m) e g = record { value = a; mark = m; came = refl; rule = e; is = sym (given_same g) }
    go (flaw k) e g = absurd (never_given g)
step (refused q) u f c h = absurd (never_given h)

-- one operand, and the rule that makes b of what it is bound to
record Below (t e : List ℕ) (i k : ℕ) (b : BoundExpr) : Type 0 where
  pub operand : BoundExpr
  pub mark : Mark
  pub below : Binds t e (i - 1) operand
  pub rule : unary_rule (un_of k) (mark_of operand) ≡ fine mark
  pub is : b ≡ bound_unary (un_of k) mark operand

-- what is made of an operand, and of two, by the operator
null_node : (o : Unary) → 10 ≤ un_kind o → un_kind o < 12 → (x : BoundExpr) (m : Mark) → (n : Marked BoundUnary) × (n.mark ≡ m) × (un_kind o - 5 ≡ 2 + unary_no n.kind) × (bound_unary o m x ≡ un n x)
unfolding un_kind bound_unary
null_node parentheses lo hi x m = absurd (omega arith)
null_node (null_test false) lo hi x m = (with (BoundUnary.is_null false) m, refl, refl, refl)
null_node (null_test true) lo hi x m = (with (BoundUnary.is_null true) m, refl, refl, refl)
null_node (unary Positive) lo hi x m = absurd (omega arith)
null_node (unary Negative) lo hi x m = absurd (omega arith)
null_node (unary Not) lo hi x m = absurd (omega arith)
null_node other_unary lo hi x m = absurd (omega arith)

operator_node : (o : Unary) → 12 ≤ un_kind o → (x : BoundExpr) (m : Mark) → unary_rule o (mark_of x) ≡ fine m
    → (n : Marked BoundUnary) × (n.mark ≡ m) × (un_kind o - 10 ≡ 2 + unary_no n.kind) × (bound_unary o m x ≡ un n x)
unfolding un_kind bound_unary unary_rule
operator_node parentheses lo x m h = absurd (omega arith)
operator_node (null_test false) lo x m h = absurd (omega arith)
operator_node (null_test true) lo x m h = absurd (omega arith)
operator_node (unary Positive) lo x m h = (with (BoundUnary.unary Positive) m, refl, refl, refl)
operator_node (unary Negative) lo x m h = (with (BoundUnary.unary Negative) m, refl, refl, refl)
operator_node (unary Not) lo x m h = (with (BoundUnary.unary Not) m, refl, refl, refl)
operator_node other_unary lo x m h = absurd (never_fine h)

parens_node : (o : Unary) → un_kind o ≡ 9 → (x : BoundExpr) (m : Mark) → bound_unary o m x ≡ x
unfolding un_kind bound_unary
parens_node parentheses h x m = refl
parens_node (null_test false) h x m = absurd (omega arith)
parens_node (null_test true) h x m = absurd (omega arith)
parens_node (unary Positive) h x m = absurd (omega arith)
parens_node (unary Negative) h x m = absurd (omega arith)
parens_node (unary Not) h x m = absurd (omega arith)
parens_node other_unary h x m = absurd (omega arith)

binary_node : (o : Binary) (x y : BoundExpr) (m : Mark) → binary_rule o (mark_of x) (mark_of y) ≡ fine m
    → (n : Marked BoundBinaryOperator) × (n.mark ≡ m) × (bin_kind o - 9 ≡ 7 + operator_no n.kind) × (bound_binary o m x y ≡ bin n x y)
unfolding bin_kind bound_binary binary_rule
binary_node (binary o) x y m h = (with o m, refl, omega arith, refl)
binary_node other_binary x y m h = absurd (never_fine h)

binary_made : {t e : List ℕ} {i k n : ℕ} {b : BoundExpr} → bin_kind (bin_of k) ≡ k → (x y : BoundExpr) (m : Mark) → Binds t e (i - 1 - n) x → Binds t e (i - 1) y
    → binary_rule (bin_of k) (mark_of x) (mark_of y) ≡ fine m → b ≡ bound_binary (bin_of k) m x y → BinBinds t e i k n (k - 9) b
binary_made {k = k} c x y m f l h z =
    let w = binary_node (bin_of k) x y m h in
    record { node = w.0; left = x; right = y; first = f; last = l; rule = h ∙ ap fine (sym w.1); kind = omega (arith, w.2); is = z ∙ w.3 }

-- ---- going down: k is the kind at node i

module _ {t e : List ℕ} {i : ℕ} {b : BoundExpr} (h : Binds t e i b) (k : ℕ) (is : k ≡ (node_at e i).kind) where
  pub leaf_binds : k < 9 → LeafBinds (Ruled t (leaf_of k (node_at e i).text)) b
  unfolding bind_expression
  leaf_binds hi =
      let q = leaf_at (node_at e) i k is h.tree h.root hi in
      let p = leaf_parts (leaf_rule h.schema (leaf_of k (node_at e i).text)) b (sym (ap (bind_expression h.schema) q) ∙ h.bound) in
      record { label = p.label; rule = record { schema = h.schema; holds = h.holds; rule = p.rule }; is = p.is }

  pub number_binds : 12 ≤ k → signs k (node_at e (i - 1)) ≡ true → LeafBinds (Numbered (eqb k 13) (node_at e (i - 1)).text) b
  number_binds lo f =
      let hi : k < 14 = ltb-true k 14 (and_of (ltb k 14) (eqb (node_at e (i - 1)).kind 2) f).0 in
      let u = un_at (node_at e) i k is h.tree h.root (omega arith) (omega arith) in
      let z = signed (node_at e) (i - 1) (un_of k) u.operand u.root k (sym (un_kind_lem k (omega arith) (omega arith))) lo f in
      number_parts h.schema (un_of k) u.operand b (eqb k 13) _ z (sym (ap (bind_expression h.schema) u.is) ∙ h.bound)

  below : 9 ≤ k → k < 16 → (12 ≤ k → signs k (node_at e (i - 1)) ≡ false) → Below t e i k b
  unfolding bind_expression
  below lo hi f =
      let u = un_at (node_at e) i k is h.tree h.root lo hi in
      let z = unsigned (node_at e) (i - 1) (un_of k) u.operand u.root k (sym (un_kind_lem k lo hi)) f in
      let q : bind_expression h.schema (un (un_of k) u.operand) ≡ given b = sym (ap (bind_expression h.schema) u.is) ∙ h.bound in
      let p = step (bind_expression h.schema u.operand) (λ x. unary_rule (un_of k) (mark_of x)) (λ x m. bound_unary (un_of k) m x) b (rw z at q) in
      record {
        operand = p.value;
        mark = p.mark;
        below = record { schema = h.schema; holds = h.holds; tree = u.operand; root = u.root; bound = p.came };
        rule = p.rule;
        is = p.is;
      }

  pub parens_binds : k ≡ 9 → Binds t e (i - 1) b
  parens_binds z =
      let p = below (omega arith) (omega arith) (λ lo. absurd (omega arith)) in
      let q : p.operand ≡ b = sym (p.is ∙ parens_node (un_of k) (un_kind_lem k (omega arith) (omega arith) ∙ z) p.operand p.mark) in
      rw q at p.below

  pub null_binds : 10 ≤ k → k < 12 → UnBinds t e i k (k - 5) b
  null_binds lo hi =
      let p = below (omega arith) (omega arith) (λ l. absurd (omega arith)) in
      let c : un_kind (un_of k) ≡ k = un_kind_lem k (omega arith) (omega arith) in
      let n = null_node (un_of k) (omega arith) (omega arith) p.operand p.mark in
      record { node = n.0; operand = p.operand; below = p.below; rule = p.rule ∙ ap fine (sym n.1); kind = omega (arith, n.2); is = p.is ∙ n.3 }

  pub operator_binds : 12 ≤ k → k < 16 → signs k (node_at e (i - 1)) ≡ false → UnBinds t e i k (k - 10) b
  operator_binds lo hi f =
      let p = below (omega arith) hi (λ l. f) in
      let c : un_kind (un_of k) ≡ k = un_kind_lem k (omega arith) hi in
      let n = operator_node (un_of k) (omega arith) p.operand p.mark p.rule in
      record { node = n.0; operand = p.operand; below = p.below; rule = p.rule ∙ ap fine (sym n.1); kind = omega (arith, n.2); is = p.is ∙ n.3 }

  pub binary_binds : 16 ≤ k → (n : ℕ) → n ≡ (node_at e (i - 1)).span → BinBinds t e i k n (k - 9) b
  unfolding bind_expression
  binary_binds lo n d =
      let a = bin_at (node_at e) i k is n d h.tree h.root lo in
      let q : bind_expression h.schema (bin (bin_of k) a.left a.right) ≡ given b = sym (ap (bind_expression h.schema) a.is) ∙ h.bound in
      let w = bind_given (bind_expression h.schema a.left) _ b q in
      let p = step (bind_expression h.schema a.right) (λ y. binary_rule (bin_of k) (mark_of w.0) (mark_of y)) (λ y m. bound_binary (bin_of k) m w.0 y) b w.2 in
      let c : bin_kind (bin_of k) ≡ k = bin_kind_lem k lo (kind_range (node_at e) i k is h.tree h.root) in
      binary_made c w.0 p.value p.mark
      (record { schema = h.schema; holds = h.holds; tree = a.left; root = a.left_root; bound = w.1 })
      (record { schema = h.schema; holds = h.holds; tree = a.right; root = a.right_root; bound = p.came })
      p.rule
      p.is
