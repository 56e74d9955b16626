-- What the value rules say of the operators' kinds.
-- Assumes nothing.
use Rattle.std.specs.Prelude.{◌≡◌, Bool, ◌&&◌, ◌||◌, ℕ, ◌≤◌, ◌<◌, ℤ, List}
use Rattle.std.specs.Bool.{beq}
use Rattle.std.specs.Borrow.{Bor}
use Rattle.std.proofs.Common.{refl, sym, ap, ◌∙◌, arith}
use Rattle.std.proofs.Math.Bool.{true, false, xor}
use Rattle.std.proofs.Math.Option.{Option, none, some}
use Rattle.image_expression.specs.Place.{bin_of, bin_kind}
use Rattle.image_expression.specs.Heads.{bin_kind_lem}
use Rattle.rules.specs.declared.BoundBinaryOperator.{BoundBinaryOperator}
use Rattle.rules.specs.declared.BoundBinaryOperator.TheVariants as op
use Rattle.rules.specs.Bound.{Value}
use Rattle.rules.specs.Lists.{Text}
use Rattle.rules.specs.Evaluate.{no_rule, as_bool, is_null, two, arithmetic, equal, less, truth, opposite, same_bool, operate, binary_value}
use Rattle.rules.specs.Statements.{Binary, binary, other_binary}
use Rattle.run_values.specs.declared.Worth.{Worth}
use Rattle.run_values.specs.declared.Worth.TheVariants as worth
use Rattle.run_values.specs.Worths.{told, value_of}

-- ---- the operator of a kind

pub operator_of : {k : ℕ} → 16 ≤ k → k < 29 → (o : BoundBinaryOperator) × (bin_of k ≡ binary o) × (bin_kind (binary o) ≡ k)
unfolding bin_kind
operator_of {k} lo hi = go (bin_of k) refl
  where
    go : (o : Binary) → bin_of k ≡ o → (p : BoundBinaryOperator) × (bin_of k ≡ binary p) × (bin_kind (binary p) ≡ k)
    go (binary o) h = (o, h, sym (ap bin_kind h) ∙ bin_kind_lem k lo (omega arith))
    go other_binary h = absurd (omega (arith, bin_kind_lem k lo (omega arith), ap bin_kind h))

-- ---- NULL in either operand gives NULL

module _ {k : ℕ} (lo : 16 ≤ k) (hi : k < 29) where
  pub left_null : (v : Value) → some Value.null ≡ told (binary_value (bin_of k) Value.null v)
  unfolding binary_value
  left_null v = rw (operator_of lo hi).1

  pub right_null : (u : Value) → some Value.null ≡ told (binary_value (bin_of k) u Value.null)
  unfolding binary_value
  right_null (Value.int z) = rw (operator_of lo hi).1
  right_null (Value.text s) = rw (operator_of lo hi).1
  right_null (Value.bool b) = rw (operator_of lo hi).1
  right_null Value.null = rw (operator_of lo hi).1

-- ---- operands of two kinds have no rule

no_rule_lem : (o : BoundBinaryOperator) (u v : Value) → ((f : ℤ → ℤ → Option ℤ) → arithmetic f u v ≡ no_rule) → equal u v ≡ none → less u v ≡ none → less v u ≡ none
    → ((g : Bool → Bool → Bool) → two g (as_bool u) (as_bool v) ≡ none) → operate o u v ≡ no_rule
unfolding operate
no_rule_lem op.Add u v a e l m b = a _
no_rule_lem op.Subtract u v a e l m b = a _
no_rule_lem op.Multiply u v a e l m b = a _
no_rule_lem op.Divide u v a e l m b = a _
no_rule_lem op.Modulo u v a e l m b = a _
no_rule_lem op.Equal u v a e l m b = ap truth e
no_rule_lem op.NotEqual u v a e l m b = ap (λ (z : Option Bool). truth (opposite z)) e
no_rule_lem op.GreaterThan u v a e l m b = ap truth m
no_rule_lem op.GreaterThanOrEqual u v a e l m b = ap (λ (z : Option Bool). truth (opposite z)) l
no_rule_lem op.LessThan u v a e l m b = ap truth l
no_rule_lem op.LessThanOrEqual u v a e l m b = ap (λ (z : Option Bool). truth (opposite z)) m
no_rule_lem op.And u v a e l m b = ap truth (b ◌&&◌)
no_rule_lem op.Or u v a e l m b = ap truth (b ◌||◌)

module _ {k : ℕ} (lo : 16 ≤ k) (hi : k < 29) where
  none_of : (u v : Value) → is_null u ≡ false → is_null v ≡ false → ((o : BoundBinaryOperator) → operate o u v ≡ no_rule) → none ≡ told (binary_value (bin_of k) u v)
  unfolding binary_value
  none_of u v p q f = let o = operator_of lo hi in rw (o.1, p, q, f o.0)

  pub beside_int : (z : ℤ) (w : Worth) → (w ≡ worth.Null → ⊥) → ((y : ℤ) → w ≡ worth.Int y → ⊥) → none ≡ told (binary_value (bin_of k) (Value.int z) (value_of w))
  unfolding arithmetic equal less
  beside_int z worth.Null n f = absurd (n refl)
  beside_int z (worth.Int y) n f = absurd (f y refl)
  beside_int z (worth.Bool b) n f = none_of _ _ refl refl (λ o. no_rule_lem o _ _ (λ f. refl) refl refl refl (λ g. refl))
  beside_int z (worth.Text s) n f = none_of _ _ refl refl (λ o. no_rule_lem o _ _ (λ f. refl) refl refl refl (λ g. refl))

  pub beside_bool : (b : Bool) (w : Worth) → (w ≡ worth.Null → ⊥) → ((c : Bool) → w ≡ worth.Bool c → ⊥) → none ≡ told (binary_value (bin_of k) (Value.bool b) (value_of w))
  unfolding arithmetic equal less
  beside_bool b worth.Null n f = absurd (n refl)
  beside_bool b (worth.Int y) n f = none_of _ _ refl refl (λ o. no_rule_lem o _ _ (λ f. refl) refl refl refl (λ g. refl))
  beside_bool b (worth.Bool c) n f = absurd (f c refl)
  beside_bool b (worth.Text s) n f = none_of _ _ refl refl (λ o. no_rule_lem o _ _ (λ f. refl) refl refl refl (λ g. refl))

  pub beside_text : (s : List ℕ) (w : Worth) → (w ≡ worth.Null → ⊥) → ((t : Bor (List ℕ)) → w ≡ worth.Text t → ⊥) → none ≡ told (binary_value (bin_of k) (Value.text s) (value_of w))
  unfolding arithmetic equal less
  beside_text s worth.Null n f = absurd (n refl)
  beside_text s (worth.Int y) n f = none_of _ _ refl refl (λ o. no_rule_lem o _ _ (λ f. refl) refl refl refl (λ g. refl))
  beside_text s (worth.Bool b) n f = none_of _ _ refl refl (λ o. no_rule_lem o _ _ (λ f. refl) refl refl refl (λ g. refl))
  beside_text s (worth.Text t) n f = absurd (f t refl)

-- ---- two truth values: = and <>, AND and OR

pub same_bool_lem : (m n : Bool) → beq m n ≡ same_bool m n
unfolding xor
same_bool_lem true true = refl
same_bool_lem true false = refl
same_bool_lem false true = refl
same_bool_lem false false = refl

bool_rest : (o : BoundBinaryOperator) (m n : Bool) → (bin_kind (binary o) ≡ 21 → ⊥) → (bin_kind (binary o) ≡ 22 → ⊥) → (bin_kind (binary o) ≡ 27 → ⊥)
    → (bin_kind (binary o) ≡ 28 → ⊥) → operate o (Value.bool m) (Value.bool n) ≡ no_rule
unfolding bin_kind operate arithmetic less
bool_rest op.Add m n a b c d = refl
bool_rest op.Subtract m n a b c d = refl
bool_rest op.Multiply m n a b c d = refl
bool_rest op.Divide m n a b c d = refl
bool_rest op.Modulo m n a b c d = refl
bool_rest op.Equal m n a b c d = absurd (a refl)
bool_rest op.NotEqual m n a b c d = absurd (b refl)
bool_rest op.GreaterThan m n a b c d = refl
bool_rest op.GreaterThanOrEqual m n a b c d = refl
bool_rest op.LessThan m n a b c d = refl
bool_rest op.LessThanOrEqual m n a b c d = refl
bool_rest op.And m n a b c d = absurd (c refl)
bool_rest op.Or m n a b c d = absurd (d refl)

pub bools_none : {k : ℕ} → 16 ≤ k → k < 29 → (m n : Bool) → (k ≡ 21 → ⊥) → (k ≡ 22 → ⊥) → (k ≡ 27 → ⊥) → (k ≡ 28 → ⊥)
    → none ≡ told (binary_value (bin_of k) (Value.bool m) (Value.bool n))
unfolding binary_value
bools_none {k} lo hi m n a b c d =
    let o = operator_of lo hi in
    rw (o.1, bool_rest o.0 m n (λ z. a (sym o.2 ∙ z)) (λ z. b (sym o.2 ∙ z)) (λ z. c (sym o.2 ∙ z)) (λ z. d (sym o.2 ∙ z)))

-- ---- TEXT is only compared

texts_rest : (o : BoundBinaryOperator) (s t : Text) → bin_kind (binary o) < 21 → operate o (Value.text s) (Value.text t) ≡ no_rule
unfolding bin_kind operate arithmetic
texts_rest op.Add s t h = refl
texts_rest op.Subtract s t h = refl
texts_rest op.Multiply s t h = refl
texts_rest op.Divide s t h = refl
texts_rest op.Modulo s t h = refl
texts_rest op.Equal s t h = absurd (omega arith)
texts_rest op.NotEqual s t h = absurd (omega arith)
texts_rest op.GreaterThan s t h = absurd (omega arith)
texts_rest op.GreaterThanOrEqual s t h = absurd (omega arith)
texts_rest op.LessThan s t h = absurd (omega arith)
texts_rest op.LessThanOrEqual s t h = absurd (omega arith)
texts_rest op.And s t h = absurd (omega arith)
texts_rest op.Or s t h = absurd (omega arith)

pub texts_none : {k : ℕ} → 16 ≤ k → k < 21 → (s t : Text) → none ≡ told (binary_value (bin_of k) (Value.text s) (Value.text t))
unfolding binary_value
texts_none {k} lo hi s t = let o = operator_of lo (omega arith) in rw (o.1, texts_rest o.0 s t (omega (arith, o.2)))
