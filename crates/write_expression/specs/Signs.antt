-- A sign directly over a number, by the kinds of the two nodes: 12 and 13 are the signs, 2 is a number.
-- Assumes nothing.
use Rattle.std.specs.Prelude.{◌≡◌, Bool, true, false, ◌&&◌, ℕ, ◌<◌, ◌≤◌, ltb, eqb}
use Rattle.std.proofs.Common.{◌∙◌, sym, ap, arith, lit<}
use Rattle.std.proofs.Math.Path.{refl}
use Rattle.std.proofs.Math.Bool.{true≢false}
use Rattle.std.proofs.Math.Option.{Option, some, none}
use borrow.Author.Tests.{ltb-true, eqb-true, lt-ltb, eq-eqb}
use Rattle.tree.specs.Tree.{leaf, un, bin}
use Rattle.bytes_bundle.specs.Decides.{and_of}
use Rattle.rules.specs.declared.BoundUnaryOperator.TheVariants.{Positive, Negative, Not}
use Rattle.rules.specs.Lists.{Text}
use Rattle.rules.specs.Marking.{sign, leaf_number, number_in, together, signed_number}
use Rattle.rules.specs.Statements.{Leaf, Unary, parentheses, null_test, unary, other_unary, Expr}
use Rattle.image_expression.specs.Place.{Node, leaf_kind, leaf_of, un_kind, top, Root}
use Rattle.image_expression.specs.Trees.{kind_of}
use Rattle.image_expression.specs.Laws.{leaf_at}

-- whether a node of kind k, which is 12 or more, is a sign over a number at the node n
abbrev pub signs : ℕ → Node → Bool
signs k n = ltb k 14 && eqb n.kind 2

sign_at : (o : Unary) → 12 ≤ un_kind o → un_kind o < 14 → sign o ≡ some (eqb (un_kind o) 13)
unfolding un_kind sign
sign_at parentheses lo hi = absurd (omega arith)
sign_at (null_test false) lo hi = absurd (omega arith)
sign_at (null_test true) lo hi = absurd (omega arith)
sign_at (unary Positive) lo hi = refl
sign_at (unary Negative) lo hi = refl
sign_at (unary Not) lo hi = absurd (omega arith)
sign_at other_unary lo hi = absurd (omega arith)

no_sign : (o : Unary) (x : Option Text) → (12 ≤ un_kind o → un_kind o < 14 → x ≡ none) → together (sign o) x ≡ none
unfolding un_kind sign
no_sign parentheses x h = refl
no_sign (null_test n) x h = refl
no_sign (unary Positive) x h = rw (h (omega arith) (omega arith))
no_sign (unary Negative) x h = rw (h (omega arith) (omega arith))
no_sign (unary Not) x h = refl
no_sign other_unary x h = refl

no_number : (l : Leaf) → (leaf_kind l ≡ 2 → ⊥) → leaf_number l ≡ none
unfolding leaf_kind leaf_number
no_number (Leaf.name n) h = refl
no_number (Leaf.number s) h = absurd (h refl)
no_number (Leaf.string s) h = refl
no_number (Leaf.boolean b) h = refl
no_number Leaf.null h = refl
no_number Leaf.other_literal h = refl
no_number Leaf.other_expression h = refl

module _ (v : ℕ → Node) (j : ℕ) where
  pub number_below : (a : Expr) → Root v j a → (v j).kind ≡ 2 → a ≡ leaf (Leaf.number (v j).text)
  unfolding leaf_of
  number_below a g z = leaf_at v j 2 (sym z) a g (lit< tt)

  no_number_below : (a : Expr) → Root v j a → ((v j).kind ≡ 2 → ⊥) → number_in a ≡ none
  unfolding Root top number_in
  no_number_below (leaf l) g n = no_number l (λ h. n (ap kind_of g ∙ h))
  no_number_below (un o a) g n = refl
  no_number_below (bin o a b) g n = refl

-- the operator o over the tree a, whose root is node j
module _ (v : ℕ → Node) (j : ℕ) (o : Unary) (a : Expr) (g : Root v j a) (k : ℕ) (is : k ≡ un_kind o) where
  pub signed : 12 ≤ k → signs k (v j) ≡ true → signed_number o a ≡ some (eqb k 13, (v j).text)
  unfolding signed_number number_in leaf_number
  signed lo f =
      let p = and_of (ltb k 14) (eqb (v j).kind 2) f in
      let hi : k < 14 = ltb-true k 14 p.0 in
      rw (sign_at o (omega arith) (omega arith), number_below v j a g (eqb-true _ 2 p.1), ← is)

  pub unsigned : (12 ≤ k → signs k (v j) ≡ false) → signed_number o a ≡ none
  unfolding signed_number
  unsigned f =
      no_sign o _ (λ lo hi.
      no_number_below v j a g (λ z. true≢false (sym (rw (lt-ltb k 14 (omega arith), eq-eqb (v j).kind 2 z)) ∙ f (omega arith))))
