-- What stands at a node, its kind and its content: each is the one of its kind, the kinds tell leaves, one operand and two apart, and a label's
-- image is its kind and its content.
-- Assumes nothing.
use Rattle.std.specs.Prelude.{◌≡◌, refl, Bool, true, false, cond, ◌&&◌, [], ◌∷◌, ℕ, zero, suc, ◌+◌, ◌-◌, ◌≤◌, ◌<◌, T, ltb, eqb}
use Rattle.std.proofs.Common.{sym, ap, subst, ⊎_elim, not-suc-le-zero, le_of_suc-le-suc, eq-or-lt_of_le, arith, eqb→eq, lit<, lit≤, le-ltb}
use Rattle.bytes_utf8.specs.Decide.{is_utf8}
use Rattle.bytes_format.specs.Nodes.{Labels, Label, Label.leaf_label, Label.un_label, Label.bin_label}
use Rattle.bytes_format.proofs.Run.{labels}
use Rattle.rules.specs.declared.BoundUnaryOperator.TheVariants.{Positive, Negative, Not}
use Rattle.rules.specs.declared.BoundBinaryOperator.{BoundBinaryOperator}
use Rattle.rules.specs.declared.BoundBinaryOperator.TheVariants as op
use Rattle.rules.specs.Lists.{Text}
use Rattle.rules.specs.Marking.{operator_no}
use Rattle.rules.proofs.Theorems.Table.{operator_found}
use Rattle.rules.specs.Statements.{Leaf, Unary, parentheses, null_test, unary, other_unary, Binary, binary, other_binary}
use Rattle.image_expression.specs.Expression.{name_of, leaf_codes, unary_codes, binary_codes}
use Rattle.image_expression.specs.Place.{name_kind, truth_kind, leaf_kind, leaf_text, un_kind, bin_kind, leaf_of, un_of, bin_of}

-- ---- each is the one of its kind

name_of_lem : (q : Bool) (s : Text) → leaf_of (name_kind q) s ≡ name_of q s
unfolding leaf_of
name_of_lem false s = refl
name_of_lem true s = refl

truth_of_lem : (b : Bool) → leaf_of (truth_kind b) [] ≡ Leaf.boolean b
unfolding leaf_of
truth_of_lem true = refl
truth_of_lem false = refl

pub leaf_of_lem : (l : Leaf) → leaf_of (leaf_kind l) (leaf_text l) ≡ l
unfolding leaf_of leaf_kind leaf_text
leaf_of_lem (Leaf.name n) = name_of_lem n.quoted n.text
leaf_of_lem (Leaf.number s) = refl
leaf_of_lem (Leaf.string s) = refl
leaf_of_lem (Leaf.boolean b) = truth_of_lem b
leaf_of_lem Leaf.null = refl
leaf_of_lem Leaf.other_literal = refl
leaf_of_lem Leaf.other_expression = refl

pub un_of_lem : (o : Unary) → un_of (un_kind o) ≡ o
unfolding un_of un_kind
un_of_lem parentheses = refl
un_of_lem (null_test false) = refl
un_of_lem (null_test true) = refl
un_of_lem (unary Positive) = refl
un_of_lem (unary Negative) = refl
un_of_lem (unary Not) = refl
un_of_lem other_unary = refl

pub bin_of_lem : (o : Binary) → bin_of (bin_kind o) ≡ o
unfolding bin_of bin_kind
bin_of_lem (binary o) = let e : 16 + operator_no o - 16 ≡ operator_no o = omega arith in rw (e, operator_found o)
bin_of_lem other_binary = refl

-- ---- the kinds tell them apart

name_range : (q : Bool) → name_kind q < 9
name_range false = lit< tt
name_range true = lit< tt

truth_range : (b : Bool) → truth_kind b < 9
truth_range true = lit< tt
truth_range false = lit< tt

pub leaf_range : (l : Leaf) → leaf_kind l < 9
unfolding leaf_kind
leaf_range (Leaf.name n) = name_range n.quoted
leaf_range (Leaf.number s) = lit< tt
leaf_range (Leaf.string s) = lit< tt
leaf_range (Leaf.boolean b) = truth_range b
leaf_range Leaf.null = lit< tt
leaf_range Leaf.other_literal = lit< tt
leaf_range Leaf.other_expression = lit< tt

null_test_range : (n : Bool) → un_kind (null_test n) < 16
unfolding un_kind
null_test_range false = lit< tt
null_test_range true = lit< tt

pub un_range : (o : Unary) → (9 ≤ un_kind o) × (un_kind o < 16)
unfolding un_kind
un_range parentheses = (lit≤ tt, lit< tt)
un_range (null_test n) = (omega arith, null_test_range n)
un_range (unary Positive) = (lit≤ tt, lit< tt)
un_range (unary Negative) = (lit≤ tt, lit< tt)
un_range (unary Not) = (lit≤ tt, lit< tt)
un_range other_unary = (lit≤ tt, lit< tt)

operator_range : (o : BoundBinaryOperator) → operator_no o < 13
operator_range op.Add = lit< tt
operator_range op.Subtract = lit< tt
operator_range op.Multiply = lit< tt
operator_range op.Divide = lit< tt
operator_range op.Modulo = lit< tt
operator_range op.Equal = lit< tt
operator_range op.NotEqual = lit< tt
operator_range op.GreaterThan = lit< tt
operator_range op.GreaterThanOrEqual = lit< tt
operator_range op.LessThan = lit< tt
operator_range op.LessThanOrEqual = lit< tt
operator_range op.And = lit< tt
operator_range op.Or = lit< tt

pub bin_range : (o : Binary) → (16 ≤ bin_kind o) × (bin_kind o < 30)
unfolding bin_kind
bin_range (binary o) = omega (arith, operator_range o)
bin_range other_binary = (lit≤ tt, lit< tt)

-- ---- each kind is that of what it gives

-- a rule at each number below n, from one test that computes at all of them
abbrev below : ℕ → (ℕ → Bool) → Bool
below zero f = true
below (suc n) f = f n && below n f

and_left : (a b : Bool) → T (a && b) → T a
and_left true b t = tt
and_left false b t = t

and_right : (a b : Bool) → T (a && b) → T b
and_right true b t = t
and_right false b t = absurd t

below_at : (n : ℕ) (f : ℕ → Bool) → T (below n f) → (k : ℕ) → k < n → T (f k)
below_at zero f t k h = absurd (not-suc-le-zero h)
below_at (suc n) f t k h =
    ⊎_elim (λ (e : k ≡ n). subst (λ (j : ℕ). T (f j)) (sym e) (and_left (f n) (below n f) t))
    (λ (l : k < n). below_at n f (and_right (f n) (below n f) t) k l)
    (eq-or-lt_of_le (le_of_suc-le-suc h))

pub leaf_kind_lem : (k : ℕ) (s : Text) → k < 9 → leaf_kind (leaf_of k s) ≡ k
unfolding leaf_kind leaf_of
leaf_kind_lem k s h = eqb→eq _ _ (below_at 9 (λ j. eqb (leaf_kind (leaf_of j s)) j) tt k h)

pub un_kind_lem : (k : ℕ) → 9 ≤ k → k < 16 → un_kind (un_of k) ≡ k
unfolding un_kind un_of
un_kind_lem k lo hi = eqb→eq _ _ (rw (le-ltb k 9 lo) at (below_at 16 (λ j. cond (ltb j 9) true (eqb (un_kind (un_of j)) j)) tt k hi))

pub bin_kind_lem : (k : ℕ) → 16 ≤ k → k < 30 → bin_kind (bin_of k) ≡ k
unfolding bin_kind bin_of
bin_kind_lem k lo hi = eqb→eq _ _ (rw (le-ltb k 16 lo) at (below_at 30 (λ j. cond (ltb j 16) true (eqb (bin_kind (bin_of j)) j)) tt k hi))

-- only the kinds 0 to 3 have a content
pub leaf_text_lem : (k : ℕ) (s : Text) → (4 ≤ k → s ≡ []) → leaf_text (leaf_of k s) ≡ s
unfolding leaf_text leaf_of
leaf_text_lem zero s h = refl
leaf_text_lem (suc zero) s h = refl
leaf_text_lem (suc (suc zero)) s h = refl
leaf_text_lem (suc (suc (suc zero))) s h = refl
leaf_text_lem (suc (suc (suc (suc zero)))) s h = sym (h (omega arith))
leaf_text_lem (suc (suc (suc (suc (suc zero))))) s h = sym (h (omega arith))
leaf_text_lem (suc (suc (suc (suc (suc (suc zero)))))) s h = sym (h (omega arith))
leaf_text_lem (suc (suc (suc (suc (suc (suc (suc zero))))))) s h = sym (h (omega arith))
leaf_text_lem (suc (suc (suc (suc (suc (suc (suc (suc k)))))))) s h = sym (h (omega arith))

pub no_text : (l : Leaf) → 4 ≤ leaf_kind l → leaf_text l ≡ []
unfolding leaf_kind leaf_text
no_text (Leaf.name n) h = absurd (few n.quoted h)
  where
    few : (q : Bool) → 4 ≤ name_kind q → ⊥
    few false k = omega arith
    few true k = omega arith
no_text (Leaf.number s) h = absurd (omega arith)
no_text (Leaf.string s) h = absurd (omega arith)
no_text (Leaf.boolean b) h = refl
no_text Leaf.null h = refl
no_text Leaf.other_literal h = refl
no_text Leaf.other_expression h = refl

-- ---- labels and their images

abbrev pub Head : Type 0
Head = Label Leaf Unary Binary

abbrev pub heads : Labels Head
heads = labels leaf_codes unary_codes binary_codes refl

unfoldable pub head_kind : Head → ℕ
head_kind (leaf_label l) = leaf_kind l
head_kind (un_label o) = un_kind o
head_kind (bin_label o) = bin_kind o

unfoldable pub head_text : Head → Text
head_text (leaf_label l) = leaf_text l
head_text (un_label o) = []
head_text (bin_label o) = []

-- a label's image: its kind, and its content, which is UTF-8
pub record Written (x : Head) : Type 0 where
  pub bytes : heads.form.write x ≡ head_kind x ∷ head_text x
  pub ok : is_utf8 (head_text x) ≡ true → heads.form.Ok x
  pub utf8 : heads.form.Ok x → is_utf8 (head_text x) ≡ true

name_written : (q : Bool) (s : Text) → Written (leaf_label (name_of q s))
unfolding head_kind head_text leaf_kind leaf_text is_utf8
name_written false s = record { bytes = refl; ok = λ h. h; utf8 = λ h. h }
name_written true s = record { bytes = refl; ok = λ h. h; utf8 = λ h. h }

truth_written : (b : Bool) → Written (leaf_label (Leaf.boolean b))
unfolding head_kind head_text leaf_kind leaf_text is_utf8
truth_written true = record { bytes = refl; ok = λ h. tt; utf8 = λ h. refl }
truth_written false = record { bytes = refl; ok = λ h. tt; utf8 = λ h. refl }

leaf_written : (l : Leaf) → Written (leaf_label l)
unfolding head_kind head_text leaf_kind leaf_text is_utf8
leaf_written (Leaf.name n) = name_written n.quoted n.text
leaf_written (Leaf.number s) = record { bytes = refl; ok = λ h. h; utf8 = λ h. h }
leaf_written (Leaf.string s) = record { bytes = refl; ok = λ h. h; utf8 = λ h. h }
leaf_written (Leaf.boolean b) = truth_written b
leaf_written Leaf.null = record { bytes = refl; ok = λ h. tt; utf8 = λ h. refl }
leaf_written Leaf.other_literal = record { bytes = refl; ok = λ h. tt; utf8 = λ h. refl }
leaf_written Leaf.other_expression = record { bytes = refl; ok = λ h. tt; utf8 = λ h. refl }

bin_written : (o : Binary) → Written (bin_label o)
unfolding head_kind head_text bin_kind is_utf8
bin_written (binary o) = record { bytes = ap (λ (k : ℕ). k ∷ []) (omega arith); ok = λ h. tt; utf8 = λ h. refl }
bin_written other_binary = record { bytes = refl; ok = λ h. tt; utf8 = λ h. refl }

pub written : (x : Head) → Written x
unfolding head_kind head_text un_kind is_utf8
written (leaf_label l) = leaf_written l
written (un_label o) = record { bytes = refl; ok = λ h. tt; utf8 = λ h. refl }
written (bin_label o) = bin_written o
