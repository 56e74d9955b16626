-- "Values": an expression's value has its marking's type, and is NULL only where the marking says it may be.
-- Assumes nothing.
use Rattle.std.specs.Prelude.{◌≡◌, Bool, true, cond, not, ◌↔◌, ◌⊎◌, List, [], ◌∷◌, ℕ, zero, suc, ◌+◌, get_or, ℤ, pos, negsuc, neg_ℤ, ◌+ℤ◌, ◌-ℤ◌, ◌*ℤ◌}
use Rattle.std.proofs.Math.Path.{refl}
use Rattle.std.proofs.Common.{ap, inl, inr, add-zero, add-suc, suc-add, zero-add}
use Rattle.std.proofs.Math.Bool.{false, ◌&&◌, ◌||◌, or-true, and-eq-true_iff}
use Rattle.std.proofs.lemmas.Bool.{false≢true}
use Rattle.std.proofs.Math.Option.{Option, none, some}
use Rattle.std.specs.Int.Signed.{quot_z, rem_z}
use Rattle.rules.specs.declared.DataType.{DataType}
use Rattle.rules.specs.declared.DataType.TheVariants as data-type
use Rattle.rules.specs.declared.ExpressionType.{ExpressionType}
use Rattle.rules.specs.declared.ExpressionType.TheVariants as type
use Rattle.rules.specs.declared.Mark.{Mark}
use Rattle.rules.specs.declared.BoundUnaryOperator.TheVariants.{Positive, Negative, Not}
use Rattle.rules.specs.declared.BoundBinaryOperator.{BoundBinaryOperator}
use Rattle.rules.specs.declared.BoundBinaryOperator.TheVariants as op
use Rattle.rules.specs.Lists.{Text, find}
use Rattle.rules.specs.Tables.{ColumnSchema, TableSchema}
use Rattle.rules.specs.Statements.{Leaf, Unary, parentheses, null_test, unary, other_unary, Binary, binary, other_binary, Expr}
use Rattle.rules.specs.Bound.{Value, int, text, bool, null, BoundColumnRef}
use Rattle.rules.specs.Names.{canonical}
use Rattle.rules.specs.Numbers.{in_range, ranged, number_text, integer_literal, sum, difference, product, quotient, remainder, negation}
use Rattle.rules.specs.Lookup.{bound_column, bound_columns_from, bound_columns, ref_named, column_by_name, expression_type, column_mark}
use Rattle.rules.specs.Marking.{Marking, root_mark}
use Rattle.rules.specs.Obeys.{
  NumberObeys,
  LeafObeys,
  UnaryObeys,
  TwoOf,
  Equality,
  Ordering,
  OperatorObeys,
  BinaryObeys,
  Obeys,
  at_leaf,
  at_signed,
  at_unary,
  at_binary,
}
use Rattle.rules.specs.Analyze.{same_type}
use Rattle.rules.specs.Rows.{Row, value_obeys, columns_obeyed, row_obeys}
use Rattle.rules.specs.Evaluate.{
  Worked,
  worked,
  then,
  as_int,
  as_bool,
  is_null,
  two,
  exactly,
  arithmetic,
  equal,
  less,
  truth,
  opposite,
  operate,
  binary_value,
  unary_value,
  or_null,
  on_int,
  on_bool,
  at,
  literal_value,
  leaf_value,
  evaluate,
}
use Rattle.rules.proofs.Theorems.Answered.{never_some}
use Rattle.rules.proofs.Theorems.HasMark.{OfType, an_int, a_text, a_bool, HasMark, of_type, may_be_null_lem, FaultsOr}

-- ---- what is worked out

module _ {A : Type 0} {P : A → Type 0} where
  -- what holds of whatever it comes to
  pub so_too : {Q : A → Type 0} {w : Worked A} → ((a : A) → P a → Q a) → FaultsOr w P → FaultsOr w Q
  so_too k (inl e) = inl e
  so_too k (inr p) = inr (p.0, p.1, k p.0 p.2)

  pub comes_to : {w : Worked A} {a : A} → FaultsOr w P → w ≡ worked a → P a
  comes_to (inl f) e = absurd (false≢true (cc))
  comes_to {a = a} (inr p) e = let h : p.0 ≡ a = cc in rw h at p.2

  -- a step, and the next from what the first came to
  pub and_next : {B : Type 0} {Q : B → Type 0} {w : Worked A} (f : A → Worked B) → FaultsOr w P → ((a : A) → P a → FaultsOr (f a) Q)
      → FaultsOr (then w f) Q
  and_next f (inl e) k = rw e (inl refl)
  and_next f (inr p) k = rw p.1 (k p.0 p.2)

-- ---- INT in 64 signed bits: "A zero divisor or a result outside 64 signed bits is fault 11."

abbrev InRange : Option ℤ → Type 0
InRange o = (z : ℤ) → o ≡ some z → in_range z ≡ true

ranged_in_range : (z : ℤ) → InRange (ranged z)
ranged_in_range z = go (in_range z) refl
  where
    go : (b : Bool) → in_range z ≡ b → (y : ℤ) → cond b (some z) none ≡ some y → in_range y ≡ true
    go true e y h = cc
    go false e y h = absurd (never_some h)

none_in_range : InRange none
none_in_range z h = absurd (never_some h)

quotient_in_range : (a b : ℤ) → InRange (quotient a b)
quotient_in_range a (pos zero) = none_in_range
quotient_in_range a (pos (suc n)) = ranged_in_range (quot_z a (pos (suc n)))
quotient_in_range a (negsuc n) = ranged_in_range (quot_z a (negsuc n))

remainder_in_range : (a b : ℤ) → InRange (remainder a b)
remainder_in_range a (pos zero) = none_in_range
remainder_in_range a (pos (suc n)) = ranged_in_range (rem_z a (pos (suc n)))
remainder_in_range a (negsuc n) = ranged_in_range (rem_z a (negsuc n))

literal_in_range : (negative : Bool) (s : Text) → InRange (integer_literal negative s)
unfolding integer_literal
literal_in_range negative s = go (number_text s)
  where
    go : (o : Option ℤ) → InRange (elim o [ none ↦ none | some z ↦ ranged (cond negative (neg_ℤ z) z) ])
    go none = none_in_range
    go (some z) = ranged_in_range (cond negative (neg_ℤ z) z)

exactly_int : (o : Option ℤ) → InRange o → FaultsOr (exactly o) (OfType type.Int)
exactly_int none h = inl refl
exactly_int (some z) h = inr (int z, refl, an_int (h z refl))

-- ---- two operands that are not NULL: a lemma for each group of operators

-- an answer of TRUE or FALSE
abbrev Decided : Option Bool → Type 0
Decided o = (b : Bool) × (o ≡ some b)

opposite_decided : (o : Option Bool) → Decided o → Decided (opposite o)
opposite_decided o d = (not d.0, ap opposite d.1)

decided_bool : (o : Option Bool) {r : ExpressionType} → r ≡ type.Bool → Decided o → FaultsOr (truth o) (OfType r)
decided_bool o e d = rw (e, d.1) (inr (bool d.0, refl, a_bool))

module _ {s u r : ExpressionType} {x y : Value} where
  -- "two INT give INT": f is exact, and tests the range
  arithmetic_type : (f : ℤ → ℤ → Option ℤ) → ((a b : ℤ) → InRange (f a b)) → TwoOf type.Int s u r → OfType s x → OfType u y
      → FaultsOr (arithmetic f x y) (OfType r)
  unfolding arithmetic
  arithmetic_type f h p q q' = rw p.2 (go (rw p.0 at q) (rw p.1 at q'))
    where
      go : {x y : Value} → OfType type.Int x → OfType type.Int y → FaultsOr (arithmetic f x y) (OfType type.Int)
      go (an_int {z = a} p) (an_int {z = b} q) = exactly_int (f a b) (h a b)

  -- "two equal types, not NULL, give BOOL"
  equality_decided : Equality s u r → OfType s x → OfType u y → Decided (equal x y)
  unfolding equal
  equality_decided p q q' = go q (rw (← p.0) at q')
    where
      go : {s : ExpressionType} {x y : Value} → OfType s x → OfType s y → Decided (equal x y)
      go (an_int p) (an_int q) = (_, refl)
      go a_text a_text = (_, refl)
      go a_bool a_bool = (_, refl)

  -- "two INT or two TEXT give BOOL": either way round
  ordering_decided : Ordering s u r → OfType s x → OfType u y → Decided (less x y) × Decided (less y x)
  unfolding less
  ordering_decided p q q' = let w = rw (← p.0) at q' in (go p.1 q w, go p.1 w q)
    where
      go : {s : ExpressionType} {x y : Value} → (s ≡ type.Int) ⊎ (s ≡ type.Text) → OfType s x → OfType s y → Decided (less x y)
      go e (an_int p) (an_int q) = (_, refl)
      go e a_text a_text = (_, refl)
      go (inl e) a_bool a_bool = (true, cc)
      go (inr e) a_bool a_bool = (true, cc)

  -- "two BOOL give BOOL"
  logic_decided : (f : Bool → Bool → Bool) → TwoOf type.Bool s u r → OfType s x → OfType u y → Decided (two f (as_bool x) (as_bool y))
  logic_decided f p q q' = go (rw p.0 at q) (rw p.1 at q')
    where
      go : {x y : Value} → OfType type.Bool x → OfType type.Bool y → Decided (two f (as_bool x) (as_bool y))
      go a_bool a_bool = (_, refl)

  operator_type : (o : BoundBinaryOperator) → OperatorObeys o s u r → OfType s x → OfType u y → FaultsOr (operate o x y) (OfType r)
  unfolding OperatorObeys operate
  operator_type op.Add p q q' = arithmetic_type sum (λ a b. ranged_in_range (a +ℤ b)) p q q'
  operator_type op.Subtract p q q' = arithmetic_type difference (λ a b. ranged_in_range (a -ℤ b)) p q q'
  operator_type op.Multiply p q q' = arithmetic_type product (λ a b. ranged_in_range (a *ℤ b)) p q q'
  operator_type op.Divide p q q' = arithmetic_type quotient quotient_in_range p q q'
  operator_type op.Modulo p q q' = arithmetic_type remainder remainder_in_range p q q'
  operator_type op.Equal p q q' = decided_bool _ p.2 (equality_decided p q q')
  operator_type op.NotEqual p q q' = decided_bool _ p.2 (opposite_decided _ (equality_decided p q q'))
  operator_type op.GreaterThan p q q' = decided_bool _ p.2 (ordering_decided p q q').1
  operator_type op.GreaterThanOrEqual p q q' = decided_bool _ p.2 (opposite_decided _ (ordering_decided p q q').0)
  operator_type op.LessThan p q q' = decided_bool _ p.2 (ordering_decided p q q').0
  operator_type op.LessThanOrEqual p q q' = decided_bool _ p.2 (opposite_decided _ (ordering_decided p q q').1)
  operator_type op.And p q q' = decided_bool _ p.2 (logic_decided ◌&&◌ p q q')
  operator_type op.Or p q q' = decided_bool _ p.2 (logic_decided ◌||◌ p q q')

-- ---- operands that may be NULL

not_null : {s : ExpressionType} {x : Value} → OfType s x → is_null x ≡ false
not_null (an_int p) = refl
not_null a_text = refl
not_null a_bool = refl

typed_as : {t : ExpressionType} {m : Mark} {v : Value} → m.ty ≡ t → OfType t v → HasMark m v
typed_as e q = of_type (rw (← e) at q)

typed_mark : {t : ExpressionType} {m : Mark} {w : Worked Value} → m.ty ≡ t → FaultsOr w (OfType t) → FaultsOr w (HasMark m)
typed_mark e = so_too (λ v q. typed_as e q)

binary_has_mark : (o : Binary) {a b m : Mark} {x y : Value} → BinaryObeys o a b m → HasMark a x → HasMark b y
    → FaultsOr (binary_value o x y) (HasMark m)
unfolding BinaryObeys binary_value
binary_has_mark (binary o) p (may_be_null_lem n) q' = inr (null, refl, may_be_null_lem (rw (p.1, n)))
binary_has_mark (binary o) p (of_type q) (may_be_null_lem n) = inr (null, rw (not_null q), may_be_null_lem (rw (p.1, n, or-true)))
binary_has_mark (binary o) p (of_type q) (of_type q') = rw (not_null q, not_null q') (typed_mark refl (operator_type o p.0 q q'))
binary_has_mark other_binary p q q' = absurd p

-- an operand of a sign or of NOT
operand_has_mark : {t : ExpressionType} {a m : Mark} {x : Value} {w : Worked Value} → (a.ty ≡ t) × (m ≡ a)
    → (OfType t x → FaultsOr w (OfType t)) → HasMark a x → FaultsOr (or_null x w) (HasMark m)
operand_has_mark p k (may_be_null_lem n) = inr (null, refl, may_be_null_lem (rw p.1 n))
operand_has_mark p k (of_type q) = rw (p.1, not_null q) (typed_mark p.0 (k (rw p.0 at q)))

positive_type : {x : Value} → OfType type.Int x → FaultsOr (on_int (λ (z : ℤ). worked (int z)) (as_int x)) (OfType type.Int)
positive_type (an_int p) = inr (_, refl, an_int p)

negative_type : {x : Value} → OfType type.Int x → FaultsOr (on_int (λ (z : ℤ). exactly (negation z)) (as_int x)) (OfType type.Int)
negative_type (an_int {z = z} p) = exactly_int _ (ranged_in_range (neg_ℤ z))

not_type : {x : Value} → OfType type.Bool x → FaultsOr (on_bool (λ (b : Bool). worked (bool (not b))) (as_bool x)) (OfType type.Bool)
not_type a_bool = inr (_, refl, a_bool)

unary_has_mark : (o : Unary) {a m : Mark} {x : Value} → UnaryObeys o a m → HasMark a x → FaultsOr (unary_value o x) (HasMark m)
unfolding UnaryObeys unary_value
unary_has_mark parentheses {x = x} p q = inr (x, refl, rw p q)
unary_has_mark (null_test n) p q = rw p (inr (_, refl, of_type a_bool))
unary_has_mark (unary Positive) p q = operand_has_mark p positive_type q
unary_has_mark (unary Negative) p q = operand_has_mark p negative_type q
unary_has_mark (unary Not) p q = operand_has_mark p not_type q
unary_has_mark other_unary p q = absurd p

-- ---- leaves and trees

number_has_mark : (negative : Bool) (s : Text) {m : Mark} → NumberObeys negative s m
    → FaultsOr (literal_value (integer_literal negative s)) (HasMark m)
number_has_mark negative s p =
    rw (p.ranged, p.marked) (inr (int p.value, refl, of_type (an_int (literal_in_range negative s p.value p.ranged))))

-- a column stands at a position, counted from 0
pub data StandsAt (c : ColumnSchema) : ℕ → List ColumnSchema → Type 0 where
  here : {cs : List ColumnSchema} → StandsAt c 0 (c ∷ cs)
  behind : {d : ColumnSchema} {n : ℕ} {cs : List ColumnSchema} → StandsAt c n cs → StandsAt c (suc n) (d ∷ cs)

-- a bound column is one of these columns, bound with its position, where the first of them stands at n
abbrev BoundFrom : TableSchema → ℕ → List ColumnSchema → BoundColumnRef → Type 0
BoundFrom t n cs r = (k : ℕ) × (c : ColumnSchema) × StandsAt c k cs × (r ≡ bound_column t (n + k) c)

found_bound : (t : TableSchema) (p : BoundColumnRef → Bool) (n : ℕ) (cs : List ColumnSchema) (r : BoundColumnRef)
    → find p (bound_columns_from t n cs) ≡ some r → BoundFrom t n cs r
unfolding bound_columns_from
found_bound t p n [] r h = absurd (never_some h)
found_bound t p n (c ∷ cs) r h = go (p (bound_column t n c)) (found_bound t p (suc n) cs r) h
  where
    go : (b : Bool) → (find p (bound_columns_from t (suc n) cs) ≡ some r → BoundFrom t (suc n) cs r)
        → elim b [ true ↦ some (bound_column t n c) | false ↦ find p (bound_columns_from t (suc n) cs) ] ≡ some r → BoundFrom t n (c ∷ cs) r
    go true below e = (0, c, here, cc (add-zero n))
    go false below e = let w = below e in (suc w.0, w.1, behind w.2, rw (add-suc, ← suc-add) w.3)

-- the column of the table that a bound column stands for, and its position
pub record ColumnOf (t : TableSchema) (r : BoundColumnRef) : Type 0 where
  pub position : ℕ
  pub column : ColumnSchema
  pub stands : StandsAt column position t.columns
  pub bound : r ≡ bound_column t position column

pub column_of_lem : {t : TableSchema} {r : BoundColumnRef} (name : Text) → column_by_name t name ≡ some r → ColumnOf t r
unfolding column_by_name bound_columns
column_of_lem {t} {r} name h =
    let w = found_bound t (ref_named name) 0 t.columns r h in
    record { position = w.0; column = w.1; stands = w.2; bound = rw zero-add at w.3 }

same_type_lem : (a b : DataType) → (same_type a b ≡ true) ↔ (expression_type a ≡ expression_type b)
same_type_lem data-type.Int data-type.Int = (λ h. refl, λ e. refl)
same_type_lem data-type.Int data-type.Text = (λ h. cc, λ e. cc)
same_type_lem data-type.Int data-type.Bool = (λ h. cc, λ e. cc)
same_type_lem data-type.Text data-type.Int = (λ h. cc, λ e. cc)
same_type_lem data-type.Text data-type.Text = (λ h. refl, λ e. refl)
same_type_lem data-type.Text data-type.Bool = (λ h. cc, λ e. cc)
same_type_lem data-type.Bool data-type.Int = (λ h. cc, λ e. cc)
same_type_lem data-type.Bool data-type.Text = (λ h. cc, λ e. cc)
same_type_lem data-type.Bool data-type.Bool = (λ h. refl, λ e. refl)

-- A value obeys a column exactly if it has the column's mark.
pub value_obeys_lem : (t : TableSchema) (n : ℕ) (c : ColumnSchema) (v : Value)
    → (value_obeys c v ≡ true) ↔ HasMark (column_mark (bound_column t n c)) v
unfolding value_obeys bound_column
value_obeys_lem t n c v = (only v, all v)
  where
    only : (v : Value) → value_obeys c v ≡ true → HasMark (column_mark (bound_column t n c)) v
    only (int z) h = let w = simp and-eq-true_iff at h in typed_as ((same_type_lem c.ty data-type.Int).0 w.0) (an_int w.1)
    only (text s) h = typed_as ((same_type_lem c.ty data-type.Text).0 h) a_text
    only (bool b) h = typed_as ((same_type_lem c.ty data-type.Bool).0 h) a_bool
    only null h = may_be_null_lem h

    typed : {s : ExpressionType} {v : Value} → expression_type c.ty ≡ s → OfType s v → value_obeys c v ≡ true
    typed e (an_int h) = simp and-eq-true_iff ((same_type_lem c.ty data-type.Int).1 e, h)
    typed e a_text = (same_type_lem c.ty data-type.Text).1 e
    typed e a_bool = (same_type_lem c.ty data-type.Bool).1 e

    all : (v : Value) → HasMark (column_mark (bound_column t n c)) v → value_obeys c v ≡ true
    all v (of_type q) = typed refl q
    all v (may_be_null_lem h) = h

-- the value at a column's position
stands_value : {c : ColumnSchema} {n : ℕ} {cs : List ColumnSchema} → StandsAt c n cs → (row : Row) → columns_obeyed cs row ≡ true
    → value_obeys c (get_or row n null) ≡ true
unfolding columns_obeyed
stands_value here [] h = absurd (false≢true h)
stands_value here (v ∷ row) h = let w = simp and-eq-true_iff at h in w.0
stands_value (behind p) [] h = absurd (false≢true h)
stands_value (behind p) (v ∷ row) h = let w = simp and-eq-true_iff at h in stands_value p row w.1

module _ (t : TableSchema) (row : Row) (obeys : row_obeys t row ≡ true) where
  -- A column's value in a row that obeys the table has the column's mark.
  pub column_has_mark : {c : BoundColumnRef} (name : Text) → column_by_name t name ≡ some c → HasMark (column_mark c) (at row c.ordinal)
  unfolding row_obeys bound_column
  column_has_mark name h =
      let w = column_of_lem name h in
      rw w.bound ((value_obeys_lem t w.position w.column _).0 (stands_value w.stands row obeys))

  leaf_has_mark : (l : Leaf) {m : Mark} → LeafObeys t l m → FaultsOr (leaf_value t row l) (HasMark m)
  unfolding LeafObeys leaf_value
  leaf_has_mark (Leaf.name n) p = rw (p.known, p.marked) (inr (_, refl, column_has_mark (canonical n) p.known))
  leaf_has_mark (Leaf.number s) p = number_has_mark false s p
  leaf_has_mark (Leaf.string s) p = rw p (inr (text s, refl, of_type a_text))
  leaf_has_mark (Leaf.boolean b) p = rw p (inr (bool b, refl, of_type a_bool))
  leaf_has_mark Leaf.null p = rw p (inr (null, refl, may_be_null_lem refl))
  leaf_has_mark Leaf.other_literal p = absurd p
  leaf_has_mark Leaf.other_expression p = absurd p

  -- "Values": worked out in a row that obeys the table, an expression with a marking faults, or its value has its marking's type, and is NULL
  -- only where the marking says it may be.
  pub value_has_mark : (e : Expr) (w : Marking) → Obeys t e w → FaultsOr (evaluate t row e) (HasMark (root_mark w))
  unfolding evaluate
  value_has_mark e w (at_leaf {l = l} p) = leaf_has_mark l p
  value_has_mark e w (at_signed negative s h p) = rw h (number_has_mark negative s p)
  value_has_mark e w (at_unary {o = o} {a = a} {w = z} h v p) =
      rw h (and_next (unary_value o) (value_has_mark a z v) (λ x q. unary_has_mark o p q))
  value_has_mark e w (at_binary {o = o} {a = a} {b = b} {w = y} {z = z} u v p) =
      and_next _ (value_has_mark a y u) (λ x q. and_next (binary_value o x) (value_has_mark b z v) (λ x' q'. binary_has_mark o p q q'))
