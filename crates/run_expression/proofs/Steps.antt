-- One step of working out: what the operands come to makes what a node comes to, by the node's kind k.
-- Assumes nothing.
use mathlib.Core.Path.{◌≡◌, ◌∙◌, refl, sym, ap, ap₂}
use mathlib.Core.Bool.{Bool, true, false, ◌&&◌, true≢false}
use mathlib.Core.List.{List}
use mathlib.Core.Option.{Option, some, none}
use Prim.Native.Nat.{ℕ, ◌-◌, ◌<◌, ◌≤◌}
use native.Mathlib.Omega.{arith}
use Rattle.std.specs.Prelude.{Option as Maybe, Some, None}
use lib.Dec.{leb, ltb, eqb, lit<}
use borrow.Author.Tests.{leb-true, leb-false, ltb-true, ltb-false, eqb-true, eqb-false}
use Rattle.bytes_wire.specs.Le.{Bytes}
use Rattle.tree.specs.Tree.{leaf, un, bin}
use Rattle.bytes_bundle.specs.Decides.{and_of}
use Rattle.bytes_bundle.specs.Held.{Holds}
use Rattle.image_catalogue.specs.Layout.{table}
use Rattle.image_expression.specs.Place.{Node, node_count, node_at, leaf_kind, leaf_of, un_kind, un_of, bin_of, top, Root}
use Rattle.image_expression.specs.Heads.{un_kind_lem}
use Rattle.image_expression.specs.Trees.{kind_of}
use Rattle.image_expression.specs.Laws.{placed, leaf_at, un_at, bin_at}
use Rattle.image_row.specs.Layout.{row}
use Rattle.rules.specs.Bound.{Value}
use Rattle.rules.specs.Evaluate.{Worked, worked, fault, no_rule, then, literal_value, leaf_value, unary_value, binary_value, evaluate}
use Rattle.rules.specs.Lists.{Text}
use Rattle.rules.specs.Marking.{sign, leaf_number, number_in, together, signed_number}
use Rattle.rules.specs.Numbers.{integer_literal}
use Rattle.rules.specs.Rows.{Row}
use Rattle.rules.specs.Statements.{Leaf, parentheses, Expr}
use Rattle.rules.specs.Tables.{TableSchema}
use Rattle.run_values.specs.declared.Worth.{Worth}
use Rattle.run_values.specs.Worths.{told, heard, value_of, told_then}
use Rattle.run_expression.specs.Works.{Works, Comes}
use Rattle.run_expression.proofs.Arms.{among, only}

-- ---- a sign directly over a number, by the two nodes' kinds

signed : {k : ℕ} → 12 ≤ k → k < 14 → sign (un_of k) ≡ some (eqb k 13)
unfolding sign un_of
signed lo hi = among (λ j. sign (un_of j) ≡ some (eqb j 13)) lo refl (λ l. rw (only l hi))

no_sign_low : {k : ℕ} → 9 ≤ k → k < 12 → sign (un_of k) ≡ none
unfolding sign un_of
no_sign_low lo hi = among (λ j. sign (un_of j) ≡ none) lo refl (λ l. among (λ j. sign (un_of j) ≡ none) l refl (λ m. rw (only m hi)))

no_sign_high : {k : ℕ} → 14 ≤ k → k < 16 → sign (un_of k) ≡ none
unfolding sign un_of
no_sign_high lo hi = among (λ j. sign (un_of j) ≡ none) lo refl (λ l. rw (only l hi))

number_below : (v : ℕ → Node) (j : ℕ) (a : Expr) → Root v j a → (v j).kind ≡ 2 → number_in a ≡ some (v j).text
unfolding number_in leaf_number leaf_of
number_below v j a g z = rw (leaf_at v j 2 (sym z) a g (lit< tt))

no_number : (l : Leaf) → (leaf_kind l ≡ 2 → ⊥) → leaf_number l ≡ none
unfolding leaf_kind leaf_number
no_number (Leaf.name n) h = refl
no_number (Leaf.number s) h = absurd (h refl)
no_number (Leaf.string s) h = refl
no_number (Leaf.boolean b) h = refl
no_number Leaf.null h = refl
no_number Leaf.other_literal h = refl
no_number Leaf.other_expression h = refl

no_number_below : (v : ℕ → Node) (j : ℕ) (a : Expr) → Root v j a → ((v j).kind ≡ 2 → ⊥) → number_in a ≡ none
unfolding Root top number_in
no_number_below v j (leaf l) g n = no_number l (λ h. n (ap kind_of g ∙ h))
no_number_below v j (un o a) g n = refl
no_number_below v j (bin o a b) g n = refl

together_none : (o : Option Bool) → together o none ≡ none
together_none none = refl
together_none (some b) = refl

-- an operator of kind k over a node is a sign over a number, or none
abbrev pub signs : ℕ → Node → Bool
signs k n = leb 12 k && (ltb k 14 && eqb n.kind 2)

unsigned : (v : ℕ → Node) (j k : ℕ) (a : Expr) → Root v j a → 9 ≤ k → k < 16 → signs k (v j) ≡ false → signed_number (un_of k) a ≡ none
unfolding signed_number
unsigned v j k a g lo hi f = low (leb 12 k) refl (ltb k 14) refl (eqb (v j).kind 2) refl f
  where
    low : (p : Bool) → leb 12 k ≡ p → (q : Bool) → ltb k 14 ≡ q → (s : Bool) → eqb (v j).kind 2 ≡ s → (p && (q && s)) ≡ false → together (sign (un_of k)) (number_in a) ≡ none
    low false x q y s z h = rw (no_sign_low lo (leb-false 12 k x))
    low true x false y s z h = rw (no_sign_high (ltb-false k 14 y) hi)
    low true x true y false z h = rw (no_number_below v j a g (eqb-false (v j).kind 2 z)) (together_none (sign (un_of k)))
    low true x true y true z h = absurd (true≢false h)

-- ---- the steps

parens_none : (a : Expr) → signed_number parentheses a ≡ none
unfolding signed_number sign
parens_none a = refl

then_same : (w : Worked Value) → told (then w (unary_value parentheses)) ≡ told w
unfolding unary_value
then_same (worked v) = refl
then_same fault = refl
then_same no_rule = refl

paren_of : {k : ℕ} → k ≡ 9 → un_of k ≡ parentheses
unfolding un_of
paren_of h = rw h

no_paren : {k : ℕ} → 10 ≤ k → k < 16 → un_of k ≡ parentheses → ⊥
unfolding un_kind
no_paren {k} lo hi h = omega (arith, un_kind_lem k (omega arith) hi, ap un_kind h)

-- what an operand comes to
then_none : (w : Worked Value) (f : Value → Worked Value) {y : Maybe Worth} → heard value_of y ≡ told w → y ≡ None → none ≡ told (then w f)
then_none w f h e = let n : none ≡ told w = ap (heard value_of) (sym e) ∙ h in rw (told_then w f, ← n)

then_some : (w : Worked Value) (f : Value → Worked Value) {y : Maybe Worth} {u : Worth} → heard value_of y ≡ told w → y ≡ Some u → told (f (value_of u)) ≡ told (then w f)
then_some w f {y} {u} h e = let n : some (value_of u) ≡ told w = ap (heard value_of) (sym e) ∙ h in rw (told_then w f, ← n)

module _ (t e r : List ℕ) (i k : ℕ) (is : k ≡ (node_at e i).kind) (w : Maybe Worth) where
  pub leaf_says : k < 9 → ((v : TableSchema) → Holds table t v → (x : Row) → Holds row r x → heard value_of w ≡ told (leaf_value v x (leaf_of k (node_at e i).text))) → Works t e i r w
  unfolding evaluate
  leaf_says hi q v h x g a o = rw (leaf_at (node_at e) i k is a o hi) (q v h x g)

  pub literal_says : 10 ≤ k → k < 16 → signs k (node_at e (i - 1)) ≡ true → (s : Text) → s ≡ (node_at e (i - 1)).text
      → heard value_of w ≡ told (literal_value (integer_literal (eqb k 13) s)) → Works t e i r w
  unfolding evaluate signed_number
  literal_says lo hi f s d q v h x g a o =
      let p = and_of (leb 12 k) (ltb k 14 && eqb (node_at e (i - 1)).kind 2) f in
      let p' = and_of (ltb k 14) (eqb (node_at e (i - 1)).kind 2) p.1 in
      let u = un_at (node_at e) i k is a o (omega arith) hi in
      let m : signed_number (un_of k) u.operand ≡ some (eqb k 13, s) =
      ap₂ together (signed (leb-true 12 k p.0) (ltb-true k 14 p'.0)) (number_below (node_at e) (i - 1) u.operand u.root (eqb-true _ 2 p'.1) ∙ ap some (sym d)) in
      rw (u.is, m) q

  pub parens_says : k ≡ 9 → Works t e (i - 1) r w → Works t e i r w
  unfolding evaluate
  parens_says z s v h x g a o =
      let u = un_at (node_at e) i k is a o (omega arith) (omega arith) in
      rw (u.is, paren_of z, parens_none u.operand, then_same (evaluate v x u.operand)) (s v h x g u.operand u.root)

  module _ (lo : 10 ≤ k) (hi : k < 16) (f : signs k (node_at e (i - 1)) ≡ false) (y : Maybe Worth) (s : Works t e (i - 1) r y) where
    unary_by : ((v : TableSchema) (x : Row) (b : Expr) → heard value_of y ≡ told (evaluate v x b) → heard value_of w ≡ told (then (evaluate v x b) (unary_value (un_of k)))) → Works t e i r w
    unfolding evaluate
    unary_by q v h x g a o =
        let u = un_at (node_at e) i k is a o (omega arith) hi in
        rw (u.is, unsigned (node_at e) (i - 1) k u.operand u.root (omega arith) hi f) (q v x u.operand (s v h x g u.operand u.root))

    pub unary_none : y ≡ None → w ≡ None → Works t e i r w
    unary_none p q = unary_by (λ v x b z. rw q (then_none (evaluate v x b) (unary_value (un_of k)) z p))

    pub unary_says : {u : Worth} → y ≡ Some u → heard value_of w ≡ told (unary_value (un_of k) (value_of u)) → Works t e i r w
    unary_says p q = unary_by (λ v x b z. q ∙ then_some (evaluate v x b) (unary_value (un_of k)) z p)

  module _ (lo : 16 ≤ k) (n : ℕ) (d : n ≡ (node_at e (i - 1)).span) (y : Maybe Worth) (s : Works t e (i - 1 - n) r y) where
    binary_by : ((v : TableSchema) → Holds table t v → (x : Row) → Holds row r x → (b c : Expr) → heard value_of y ≡ told (evaluate v x b) → Root (node_at e) (i - 1) c
        → heard value_of w ≡ told (then (evaluate v x b) (λ p. then (evaluate v x c) (binary_value (bin_of k) p)))) → Works t e i r w
    unfolding evaluate
    binary_by q v h x g a o =
        let u = bin_at (node_at e) i k is n d a o lo in
        rw u.is (q v h x g u.left u.right (s v h x g u.left u.left_root) u.right_root)

    pub left_none : y ≡ None → w ≡ None → Works t e i r w
    left_none p q = binary_by (λ v h x g b c z o. rw q (then_none (evaluate v x b) _ z p))

    module _ {l : Worth} (p : y ≡ Some l) (z : Maybe Worth) (s' : Works t e (i - 1) r z) where
      pub right_none : z ≡ None → w ≡ None → Works t e i r w
      right_none q m =
          binary_by (λ v h x g b c j o.
          rw m (then_none (evaluate v x c) (binary_value (bin_of k) (value_of l)) (s' v h x g c o) q ∙ then_some (evaluate v x b) _ j p))

      pub binary_says : {u : Worth} → z ≡ Some u → heard value_of w ≡ told (binary_value (bin_of k) (value_of l) (value_of u)) → Works t e i r w
      binary_says q m =
          binary_by (λ v h x g b c j o.
          m ∙ then_some (evaluate v x c) (binary_value (bin_of k) (value_of l)) (s' v h x g c o) q ∙ then_some (evaluate v x b) _ j p)

-- ---- a whole expression

pub whole : (t e r : List ℕ) → Bytes e → (n : ℕ) → n ≡ node_count e → (w : Maybe Worth) → Works t e (n - 1) r w → Comes t e r w
whole t e r b n is w s v h x g a o = s v h x g a (rw is (placed b o).0)
