-- One step of marking: what the operands' answers make of a node's, by the kind k of the node.
-- Assumes nothing.
use mathlib.Core.Path.{◌≡◌, ◌∙◌, refl, sym, ap, ap₂}
use mathlib.Core.Bool.{Bool, true, false, ◌&&◌, true≢false}
use mathlib.Core.List.{List}
use mathlib.Core.Option.{Option, some, none}
use Prim.Native.Nat.{ℕ, ◌-◌, ◌<◌, ◌≤◌}
use native.Mathlib.Omega.{arith}
use lib.Dec.{ltb, eqb, lit<}
use lib.ListN.{length}
use borrow.Author.Tests.{ltb-true, eqb-true, lt-ltb, eq-eqb}
use Rattle.std.specs.Prelude.{Result, Ok, Err}
use Rattle.bytes_wire.specs.Le.{Bytes}
use Rattle.tree.specs.Tree.{leaf, un, bin}
use Rattle.bytes_bundle.specs.Decides.{and_of}
use Rattle.rules.specs.declared.BoundUnaryOperator.TheVariants.{Positive, Negative, Not}
use Rattle.rules.specs.declared.Mark.{Mark}
use Rattle.rules.specs.declared.Refusal.{Refusal}
use Rattle.rules.specs.Lists.{Text}
use Rattle.rules.specs.Bound.{BoundExpr}
use Rattle.rules.specs.Marking.{integer_leaf, leaf_rule, sign, leaf_number, number_in, together, signed_number, unary_rule, binary_rule, bind_expression}
use Rattle.rules.specs.Numbers.{integer_literal}
use Rattle.rules.specs.Statements.{Leaf, Unary, parentheses, null_test, unary, other_unary, Expr}
use Rattle.rules.specs.Tables.{TableSchema}
use Rattle.image_catalogue.specs.Layout.{table}
use Rattle.image_expression.specs.Place.{Node, node_count, node_at, leaf_kind, leaf_of, un_kind, un_of, bin_of, top, Root}
use Rattle.image_expression.specs.Heads.{leaf_range, bin_range, un_of_lem}
use Rattle.image_expression.specs.Trees.{kind_of}
use Rattle.image_expression.specs.Laws.{placed, leaf_at, bin_at}
use Rattle.image_bound.specs.Expression.{bound_expression}
use Rattle.bytes_bundle.specs.Held.{Holds}
use Rattle.bind_expression.specs.declared.Measured.{Measured}
use Rattle.bind_expression.specs.declared.BoundExpression.{BoundExpression}
use Rattle.bind_expression.specs.Told.{measured, leaf_told, after, null_told, over_one, over_two, unary_told}
use Rattle.bind_expression.specs.Marks.{Marks, Sizes, marked_is, marked_refused}
use Rattle.bind_expression.proofs.Told.{leaf_told_lem, un_told, bin_told, after_same, after_is}

-- ---- a sign directly over a number, by the two nodes' kinds

number_below : (v : ℕ → Node) (j : ℕ) (a : Expr) → Root v j a → (v j).kind ≡ 2 → number_in a ≡ some (v j).text
unfolding number_in leaf_number leaf_of
number_below v j a g z = rw (leaf_at v j 2 (sym z) a g (lit< tt))

no_number : (l : Leaf) → (leaf_kind l ≡ 2 → ⊥) → leaf_number l ≡ none
unfolding leaf_kind leaf_number
no_number (Leaf.name n) h = refl
no_number (Leaf.number s) h = absurd (h refl)
no_number (Leaf.string s) h = refl
no_number (Leaf.boolean b) h = refl
no_number Leaf.null h = refl
no_number Leaf.other_literal h = refl
no_number Leaf.other_expression h = refl

no_number_below : (v : ℕ → Node) (j : ℕ) (a : Expr) → Root v j a → ((v j).kind ≡ 2 → ⊥) → number_in a ≡ none
unfolding Root top number_in
no_number_below v j (leaf l) g n = no_number l (λ h. n (ap kind_of g ∙ h))
no_number_below v j (un o a) g n = refl
no_number_below v j (bin o a b) g n = refl

sign_at : (o : Unary) → 12 ≤ un_kind o → un_kind o < 14 → sign o ≡ some (eqb (un_kind o) 13)
unfolding un_kind sign
sign_at parentheses lo hi = absurd (omega arith)
sign_at (null_test false) lo hi = absurd (omega arith)
sign_at (null_test true) lo hi = absurd (omega arith)
sign_at (unary Positive) lo hi = refl
sign_at (unary Negative) lo hi = refl
sign_at (unary Not) lo hi = absurd (omega arith)
sign_at other_unary lo hi = absurd (omega arith)

-- the operator is no sign, or the operand no number
no_literal : (o : Unary) (x : Option Text) → (12 ≤ un_kind o → un_kind o < 14 → x ≡ none) → together (sign o) x ≡ none
unfolding un_kind sign
no_literal parentheses x h = refl
no_literal (null_test n) x h = refl
no_literal (unary Positive) x h = rw (h (omega arith) (omega arith))
no_literal (unary Negative) x h = rw (h (omega arith) (omega arith))
no_literal (unary Not) x h = refl
no_literal other_unary x h = refl

-- whether an operator of kind k over a node is a sign over a number
abbrev pub signs : ℕ → Node → Bool
signs k n = ltb k 14 && eqb n.kind 2

pub no_sign : (k : ℕ) (n : Node) → signs k n ≡ false → k < 14 → n.kind ≡ 2 → ⊥
no_sign k n f hi z = true≢false (sym (rw (lt-ltb k 14 hi, eq-eqb n.kind 2 z)) ∙ f)

-- ---- answers by kinds

null_by_kind : (o : Unary) → 10 ≤ un_kind o → un_kind o < 12 → (m : Measured) → null_told m ≡ unary_told o m
unfolding un_kind unary_told
null_by_kind parentheses lo hi m = absurd (omega arith)
null_by_kind (null_test n) lo hi m = refl
null_by_kind (unary Positive) lo hi m = absurd (omega arith)
null_by_kind (unary Negative) lo hi m = absurd (omega arith)
null_by_kind (unary Not) lo hi m = absurd (omega arith)
null_by_kind other_unary lo hi m = absurd (omega arith)

parens_by_kind : (o : Unary) → un_kind o ≡ 9 → (m : Measured) → Ok m ≡ unary_told o m
unfolding un_kind unary_told
parens_by_kind parentheses h m = refl
parens_by_kind (null_test false) h m = absurd (omega arith)
parens_by_kind (null_test true) h m = absurd (omega arith)
parens_by_kind (unary Positive) h m = absurd (omega arith)
parens_by_kind (unary Negative) h m = absurd (omega arith)
parens_by_kind (unary Not) h m = absurd (omega arith)
parens_by_kind other_unary h m = absurd (omega arith)

operator_by_kind : (o : Unary) → 12 ≤ un_kind o → (m : Measured) → over_one (unary_rule o) m ≡ unary_told o m
unfolding un_kind unary_told
operator_by_kind parentheses lo m = absurd (omega arith)
operator_by_kind (null_test false) lo m = absurd (omega arith)
operator_by_kind (null_test true) lo m = absurd (omega arith)
operator_by_kind (unary o) lo m = refl
operator_by_kind other_unary lo m = refl

-- ---- the steps

module _ (t e : List ℕ) (i k : ℕ) (is : k ≡ (node_at e i).kind) (r : Result Measured Refusal) where
  pub leaf_says : k < 9 → ((v : TableSchema) → Holds table t v → r ≡ leaf_told (leaf_rule v (leaf_of k (node_at e i).text))) → Marks t e i r
  unfolding bind_expression
  leaf_says hi q v h x g = rw (leaf_at (node_at e) i k is x g hi) (q v h ∙ leaf_told_lem (leaf_rule v (leaf_of k (node_at e i).text)))

  pub literal_says : 12 ≤ k → signs k (node_at e (i - 1)) ≡ true → (s : Text) → s ≡ (node_at e (i - 1)).text
      → r ≡ leaf_told (integer_leaf (integer_literal (eqb k 13) s)) → Marks t e i r
  unfolding Root top bind_expression signed_number
  literal_says lo f s d q v h (leaf l) g = absurd (omega (arith, leaf_range l, ap kind_of g))
  literal_says lo f s d q v h (un o a) g =
      let p = and_of (ltb k 14) (eqb (node_at e (i - 1)).kind 2) f in
      let hi : k < 14 = ltb-true k 14 p.0 in
      let z : (node_at e (i - 1)).kind ≡ 2 = eqb-true _ 2 p.1 in
      let c : k ≡ un_kind o = is ∙ ap kind_of g.0 in
      rw (sign_at o (omega arith) (omega arith), number_below (node_at e) (i - 1) a g.2 z, ← c, ← d) (q ∙ leaf_told_lem (integer_leaf (integer_literal (eqb k 13) s)))
  literal_says lo f s d q v h (bin o a b) g =
      let p = and_of (ltb k 14) (eqb (node_at e (i - 1)).kind 2) f in
      let hi : k < 14 = ltb-true k 14 p.0 in
      absurd (omega (arith, bin_range o, ap kind_of g.0))

  -- the operand's answer is y, the node makes f of what it measures, and the two are no literal
  pub un_says : 9 ≤ k → k < 16 → (12 ≤ k → k < 14 → (node_at e (i - 1)).kind ≡ 2 → ⊥)
      → (f : Measured → Result Measured Refusal) → ((o : Unary) → k ≡ un_kind o → (m : Measured) → f m ≡ unary_told o m)
      → (y : Result Measured Refusal) → Marks t e (i - 1) y → r ≡ after y f → Marks t e i r
  unfolding Root top bind_expression signed_number
  un_says lo hi n f d y s q v h (leaf l) g = absurd (omega (arith, leaf_range l, ap kind_of g))
  un_says lo hi n f d y s q v h (un o a) g =
      let c : k ≡ un_kind o = is ∙ ap kind_of g.0 in
      rw (no_literal o _ (λ lo' hi'. no_number_below (node_at e) (i - 1) a g.2 (n (omega arith) (omega arith))))
      (q ∙ after_same y f (unary_told o) (d o c) ∙ rw (s v h a g.2) (un_told o (bind_expression v a)))
  un_says lo hi n f d y s q v h (bin o a b) g = absurd (omega (arith, bin_range o, ap kind_of g.0))

  pub parens_says : k ≡ 9 → Marks t e (i - 1) r → Marks t e i r
  parens_says z s =
      un_says (omega arith) (omega arith) (λ lo hi n. omega arith) Ok (λ o c. parens_by_kind o (sym c ∙ z)) r s (after_is r)

  pub null_says : 10 ≤ k → k < 12 → (y : Result Measured Refusal) → Marks t e (i - 1) y → r ≡ after y null_told → Marks t e i r
  null_says lo hi y s q =
      un_says (omega arith) (omega arith) (λ l m n. omega arith) null_told (λ o c. null_by_kind o (omega arith) (omega arith)) y s q

  pub operator_says : 12 ≤ k → k < 16 → signs k (node_at e (i - 1)) ≡ false → (y : Result Measured Refusal) → Marks t e (i - 1) y
      → r ≡ after y (over_one (unary_rule (un_of k))) → Marks t e i r
  operator_says lo hi f y s q =
      un_says (omega arith) hi (λ l. no_sign k (node_at e (i - 1)) f) (over_one (unary_rule (un_of k)))
      (λ o c m. ap (λ (p : Unary). over_one (unary_rule p) m) (ap un_of c ∙ un_of_lem o) ∙ operator_by_kind o (omega arith) m) y s q

  module _ (lo : 16 ≤ k) (n : ℕ) (d : n ≡ (node_at e (i - 1)).span) (y : Result Measured Refusal) (left : Marks t e (i - 1 - n) y) where
    -- the left operand's refusal stands
    pub left_says : (q : Refusal) → y ≡ Err q → r ≡ Err q → Marks t e i r
    unfolding bind_expression
    left_says q p z v h x g =
        let a = bin_at (node_at e) i k is n d x g lo in
        rw (a.is, marked_refused t e h (i - 1 - n) a.left a.left_root left p) z

    pub bin_says : (m : Measured) → y ≡ Ok m → (z : Result Measured Refusal) → Marks t e (i - 1) z
        → r ≡ after z (over_two (binary_rule (bin_of k)) m) → Marks t e i r
    unfolding bind_expression
    bin_says m p z right q v h x g =
        let a = bin_at (node_at e) i k is n d x g lo in
        let w = marked_is t e h (i - 1 - n) a.left a.left_root left p in
        rw (a.is, w.1)
        (q ∙ ap (λ (c : Measured). after z (over_two (binary_rule (bin_of k)) c)) (sym w.2)
        ∙ rw (right v h a.right a.right_root) (bin_told (bin_of k) w.0 (bind_expression v a.right)))

-- ---- a whole expression

abbrev bound : Mark → ℕ → Result BoundExpression Refusal
bound m k = Ok (record { mark = m; len = k })

module _ (t e : List ℕ) (b : Bytes e) (n : ℕ) (is : n ≡ node_count e) (y : Result Measured Refusal) (s : Marks t e (n - 1) y) where
  pub size_says : (m : Measured) → y ≡ Ok m → (k : ℕ) → ((c : BoundExpr) → measured c ≡ m → k ≡ length (bound_expression.write c))
      → Sizes t e (Ok (record { mark = m.mark; len = k }))
  size_says m p k f v h x g =
      let w = marked_is t e h (n - 1) x (rw is (placed b g).0) s p in
      rw w.1 (ap₂ bound (sym (ap (λ (c : Measured). c.mark) w.2)) (f w.0 w.2))

  pub refused_says : (q : Refusal) → y ≡ Err q → Sizes t e (Err q)
  refused_says q p v h x g = rw (marked_refused t e h (n - 1) x (rw is (placed b g).0) s p)
