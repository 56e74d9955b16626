-- What an expression comes to has an image, where the row and the expression have one: an INT is in 64 signed bits, a TEXT is a column's or a
-- literal's.
-- Assumes nothing.
use Rattle.std.specs.Prelude.{◌≡◌, refl, Bool, true, cond, not, ◌&&◌, ◌||◌, List, [], ◌∷◌, ℕ, zero, suc, ◌^◌, ◌<◌, ℤ, length, get_or, set}
use Rattle.std.proofs.Math.Bool.{false}
use Rattle.std.proofs.Math.Option.{Option, none, some}
use Rattle.std.proofs.Common.{arith, lit<, ltb-true}
use Rattle.tree.specs.Tree.{leaf, un, bin}
use Rattle.bytes_utf8.specs.Decide.{is_utf8}
use Rattle.bytes_format.specs.Format.{Every}
use Rattle.bytes_format.specs.Nodes as N
use Rattle.bytes_format.specs.Nodes.{Label, Labels}
use Rattle.bytes_format.proofs.Run.{labels}
use Rattle.image_value.specs.Parts.{value}
use Rattle.image_expression.specs.Expression.{expression, leaf_codes, unary_codes, binary_codes}
use Rattle.image_bound.specs.Spelt as spelt
use Rattle.rules.specs.declared.BoundUnaryOperator.TheVariants.{Positive, Negative, Not}
use Rattle.rules.specs.declared.BoundBinaryOperator.{BoundBinaryOperator}
use Rattle.rules.specs.declared.BoundBinaryOperator.TheVariants as op
use Rattle.rules.specs.declared.ExpressionType.{ExpressionType}
use Rattle.rules.specs.declared.Mark.{Mark}
use Rattle.rules.specs.Lists.{Text}
use Rattle.rules.specs.Tables.{TableSchema}
use Rattle.rules.specs.Statements.{Leaf, Unary, parentheses, null_test, unary, other_unary, Binary, binary, other_binary, Expr}
use Rattle.rules.specs.Bound.{Value, int, text, bool, null, BoundColumnRef}
use Rattle.rules.specs.Names.{canonical}
use Rattle.rules.specs.Numbers.{in_range, integer_literal, sum, difference, product, quotient, remainder, negation}
use Rattle.rules.specs.Lookup.{column_by_name}
use Rattle.rules.specs.Marking.{Marking, signed_number}
use Rattle.rules.specs.Obeys.{Obeys}
use Rattle.rules.specs.Rows.{Row, row_obeys}
use Rattle.rules.specs.Evaluate.{
  Worked,
  worked,
  fault,
  no_rule,
  then,
  as_int,
  as_bool,
  is_null,
  two,
  exactly,
  arithmetic,
  equal,
  less,
  truth,
  opposite,
  operate,
  binary_value,
  on_int,
  on_bool,
  unary_value,
  column_value,
  literal_value,
  leaf_value,
  or_signed_value,
  evaluate,
}
use Rattle.rules.proofs.Theorems.HasMark.{OfType, an_int, a_text, a_bool, HasMark, of_type, may_be_null_lem}
use Rattle.rules.proofs.Theorems.Values.{comes_to, value_has_mark}

-- ---- a value that can stand in a row's image

abbrev pub Fine : Value → Type 0
Fine v = value.Ok v × (length (value.write v) < 256 ^ 4)

fine_int : (z : ℤ) → in_range z ≡ true → Fine (int z)
unfolding value
fine_int z h = (ltb-true _ _ h, lit< tt)

pub fine_text : (s : Text) → is_utf8 s ≡ true → length s < 65536 → Fine (text s)
unfolding value
fine_text s u h = (u, omega (arith, spelt.text_length s))

fine_bool : (b : Bool) → Fine (bool b)
unfolding value
fine_bool b = (tt, lit< tt)

pub fine_null : Fine null
unfolding value
fine_null = (tt, lit< tt)

-- ---- a list of them

module _ {A : Type 0} (P : A → Type 0) where
  pub every_at : (l : List A) (n : ℕ) (d : A) → Every P l → P d → P (get_or l n d)
  every_at [] n d h z = z
  every_at (x ∷ l) zero d h z = h.0
  every_at (x ∷ l) (suc n) d h z = every_at l n d h.1 z

  pub every_set : (l : List A) (n : ℕ) (a : A) → Every P l → P a → Every P (set l n a)
  every_set [] n a h z = tt
  every_set (x ∷ l) zero a h z = (z, h.1)
  every_set (x ∷ l) (suc n) a h z = (h.0, every_set l n a h.1 z)

-- ---- the text of a value: a column's or a literal's

-- a TEXT can stand in a row's image
abbrev Told : Value → Type 0
Told (int z) = Unit {0}
Told (text s) = Fine (text s)
Told (bool b) = Unit {0}
Told null = Unit {0}

told_fine : (v : Value) → Fine v → Told v
told_fine (int z) h = tt
told_fine (text s) h = h
told_fine (bool b) h = tt
told_fine null h = tt

-- where something is worked out, it has such a text
abbrev Comes : Worked Value → Type 0
Comes (worked v) = Told v
Comes fault = Unit {0}
Comes no_rule = Unit {0}

comes_then : (w : Worked Value) (f : Value → Worked Value) → Comes w → ((v : Value) → Told v → Comes (f v)) → Comes (then w f)
comes_then (worked v) f h k = k v h
comes_then fault f h k = tt
comes_then no_rule f h k = tt

comes_unless : (b : Bool) (w : Worked Value) → Comes w → Comes (cond b (worked null) w)
comes_unless true w h = tt
comes_unless false w h = h

comes_exactly : (o : Option ℤ) → Comes (exactly o)
comes_exactly none = tt
comes_exactly (some z) = tt

comes_literal : (o : Option ℤ) → Comes (literal_value o)
comes_literal none = tt
comes_literal (some z) = tt

comes_truth : (o : Option Bool) → Comes (truth o)
comes_truth none = tt
comes_truth (some b) = tt

comes_int : (f : ℤ → Worked Value) → ((z : ℤ) → Comes (f z)) → (o : Option ℤ) → Comes (on_int f o)
comes_int f h none = tt
comes_int f h (some z) = h z

comes_bool : (f : Bool → Worked Value) → ((b : Bool) → Comes (f b)) → (o : Option Bool) → Comes (on_bool f o)
comes_bool f h none = tt
comes_bool f h (some b) = h b

comes_arithmetic : (f : ℤ → ℤ → Option ℤ) (x y : Value) → Comes (arithmetic f x y)
unfolding arithmetic
comes_arithmetic f x y = go (as_int x) (as_int y)
  where
    go : (a b : Option ℤ) → Comes (elim (two (λ (m n : ℤ). exactly (f m n)) a b) as (λ o. Worked Value) [ none ↦ no_rule | some w ↦ w ])
    go none b = tt
    go (some m) none = tt
    go (some m) (some n) = comes_exactly (f m n)

comes_operate : (o : BoundBinaryOperator) (x y : Value) → Comes (operate o x y)
unfolding operate
comes_operate op.Add x y = comes_arithmetic sum x y
comes_operate op.Subtract x y = comes_arithmetic difference x y
comes_operate op.Multiply x y = comes_arithmetic product x y
comes_operate op.Divide x y = comes_arithmetic quotient x y
comes_operate op.Modulo x y = comes_arithmetic remainder x y
comes_operate op.Equal x y = comes_truth (equal x y)
comes_operate op.NotEqual x y = comes_truth (opposite (equal x y))
comes_operate op.GreaterThan x y = comes_truth (less y x)
comes_operate op.GreaterThanOrEqual x y = comes_truth (opposite (less x y))
comes_operate op.LessThan x y = comes_truth (less x y)
comes_operate op.LessThanOrEqual x y = comes_truth (opposite (less y x))
comes_operate op.And x y = comes_truth (two ◌&&◌ (as_bool x) (as_bool y))
comes_operate op.Or x y = comes_truth (two ◌||◌ (as_bool x) (as_bool y))

comes_binary : (o : Binary) (x y : Value) → Comes (binary_value o x y)
unfolding binary_value
comes_binary (binary o) x y = comes_unless (is_null x || is_null y) (operate o x y) (comes_operate o x y)
comes_binary other_binary x y = tt

comes_unary : (o : Unary) (x : Value) → Told x → Comes (unary_value o x)
unfolding unary_value
comes_unary parentheses x h = h
comes_unary (null_test n) x h = tt
comes_unary (unary Positive) x h = comes_unless (is_null x) (on_int (λ (z : ℤ). worked (int z)) (as_int x)) (comes_int (λ (z : ℤ). worked (int z)) (λ z. tt) (as_int x))
comes_unary (unary Negative) x h = comes_unless (is_null x) (on_int (λ (z : ℤ). exactly (negation z)) (as_int x)) (comes_int (λ (z : ℤ). exactly (negation z)) (λ z. comes_exactly (negation z)) (as_int x))
comes_unary (unary Not) x h = comes_unless (is_null x) (on_bool (λ (b : Bool). worked (bool (not b))) (as_bool x)) (comes_bool (λ (b : Bool). worked (bool (not b))) (λ b. tt) (as_bool x))
comes_unary other_unary x h = tt

comes_signed : (p : Option (Bool × Text)) (w : Worked Value) → Comes w → Comes (or_signed_value p w)
comes_signed none w h = h
comes_signed (some p) w h = comes_literal (integer_literal p.0 p.1)

-- ---- an expression that has an image, node by node

abbrev pub node_labels : Labels (Label Leaf Unary Binary)
node_labels = labels leaf_codes unary_codes binary_codes refl

-- every label has an image, and all contents together have fewer than 65,536 bytes
pub record Short (e : Expr) : Type 0 where
  pub held : N.Holds node_labels.form.Ok e
  pub content : N.content_size 2 node_labels e < 65536

pub short : (e : Expr) → expression.Ok e → Short e
unfolding expression
short e h = record { held = h.2; content = h.1 }

module _ (t : TableSchema) (row : Row) (row_fine : Every Fine row) where
  comes_column : (o : Option BoundColumnRef) → Comes (column_value row o)
  comes_column none = tt
  comes_column (some c) = told_fine _ (every_at Fine row c.ordinal.0 null row_fine fine_null)

  comes_leaf : (l : Leaf) → Short (leaf l) → Comes (leaf_value t row l)
  unfolding leaf_value
  comes_leaf (Leaf.name n) h = comes_column (column_by_name t (canonical n))
  comes_leaf (Leaf.number s) h = comes_literal (integer_literal false s)
  comes_leaf (Leaf.string s) h = fine_text s h.held (omega (arith, h.content))
  comes_leaf (Leaf.boolean b) h = tt
  comes_leaf Leaf.null h = tt
  comes_leaf Leaf.other_literal h = tt
  comes_leaf Leaf.other_expression h = tt

  comes : (e : Expr) → Short e → Comes (evaluate t row e)
  unfolding evaluate
  comes (leaf l) h = comes_leaf l h
  comes (un o a) h =
      let below = comes a (record { held = h.held.0; content = omega (arith, h.content) }) in
      comes_signed (signed_number o a) (then (evaluate t row a) (unary_value o)) (comes_then (evaluate t row a) (unary_value o) below (comes_unary o))
  comes (bin o a b) h =
      let left = comes a (record { held = h.held.0; content = omega (arith, h.content) }) in
      let right = comes b (record { held = h.held.1.0; content = omega (arith, h.content) }) in
      comes_then (evaluate t row a) (λ x. then (evaluate t row b) (binary_value o x)) left (λ x _. comes_then (evaluate t row b) (binary_value o x) right (λ y _. comes_binary o x y))

-- ---- the value

fine_typed : {s : ExpressionType} {v : Value} → OfType s v → Told v → Fine v
fine_typed (an_int {z = z} h) k = fine_int z h
fine_typed a_text k = k
fine_typed (a_bool {b = b}) k = fine_bool b

fine_marked : {m : Mark} {v : Value} → HasMark m v → Told v → Fine v
fine_marked (of_type q) k = fine_typed q k
fine_marked (may_be_null_lem n) k = fine_null

-- What an expression comes to has an image, if the row and the expression have one and the expression is marked over the table.
pub value_fine : (t : TableSchema) (row : Row) → row_obeys t row ≡ true → Every Fine row → (e : Expr) (w : Marking) → Obeys t e w → expression.Ok e
    → {v : Value} → evaluate t row e ≡ worked v → Fine v
value_fine t row obeys fine e w o k {v} q = fine_marked (comes_to (value_has_mark t row obeys e w o) q) (rw q at (comes t row fine e (short e k)))
