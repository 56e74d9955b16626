-- The rule at one node, a function, is the relation of that node: for a leaf, for one operand, and for two.
-- Assumes nothing.
use Rattle.std.specs.Prelude.{◌≡◌, refl, Bool, true, false, ◌&&◌, ◌||◌, ◌↔◌, ◌⊎◌}
use Rattle.std.proofs.Common.{◌∙◌, sym, true≢false, inl, inr, ⊎_elim}
use Rattle.std.proofs.lemmas.Bool.{false≢true}
use Rattle.std.proofs.Math.Bool.{and-eq-true_iff}
use Rattle.std.proofs.Math.Logic.{⊎_map}
use Rattle.rules.specs.declared.Class.TheVariants.{SchemaMismatch, UnsupportedSql}
use Rattle.rules.specs.declared.ExpressionType.{ExpressionType}
use Rattle.rules.specs.declared.ExpressionType.TheVariants as type
use Rattle.rules.specs.declared.Mark.{Mark}
use Rattle.rules.specs.declared.BoundUnaryOperator.TheVariants.{Positive, Negative, Not}
use Rattle.rules.specs.declared.BoundBinaryOperator.{BoundBinaryOperator}
use Rattle.rules.specs.declared.BoundBinaryOperator.TheVariants as op
use Rattle.rules.specs.Lists.{Text}
use Rattle.rules.specs.Answers.{Verdict, fine, flaw}
use Rattle.rules.specs.Tables.{TableSchema}
use Rattle.rules.specs.Statements.{Leaf, Unary, parentheses, null_test, unary, other_unary, Binary, binary, other_binary}
use Rattle.rules.specs.Bound.{Value, Marked, BoundLeaf}
use Rattle.rules.specs.Names.{canonical}
use Rattle.rules.specs.Numbers.{integer_literal}
use Rattle.rules.specs.Lookup.{column_by_name, column_mark, mark}
use Rattle.rules.specs.Marking.{
  with,
  column_leaf,
  integer_leaf,
  leaf_rule,
  is,
  operand_of,
  unary_rule,
  two_of,
  equality,
  ordering,
  operator_rule,
  typed,
  binary_rule,
}
use Rattle.rules.specs.Obeys.{
  NumberObeys,
  NameObeys,
  LeafObeys,
  UnaryObeys,
  TwoOf,
  Equality,
  Ordering,
  OperatorObeys,
  BinaryObeys,
}
use Rattle.rules.proofs.Theorems.Answered.{
  never_fine,
  Reads,
  Exactly,
  reads_fine,
  reads_flaw,
  reads_as,
  reads_none,
  reads_if,
  reads_unless,
  reads_found,
}

-- ---- tests of types

is_self : (a : ExpressionType) → is a a ≡ true
is_self type.Int = refl
is_self type.Text = refl
is_self type.Bool = refl
is_self type.Null = refl

is_true : (a b : ExpressionType) → is a b ≡ true → a ≡ b
is_true type.Int type.Int h = refl
is_true type.Int type.Text h = cc
is_true type.Int type.Bool h = cc
is_true type.Int type.Null h = cc
is_true type.Text type.Int h = cc
is_true type.Text type.Text h = refl
is_true type.Text type.Bool h = cc
is_true type.Text type.Null h = cc
is_true type.Bool type.Int h = cc
is_true type.Bool type.Text h = cc
is_true type.Bool type.Bool h = refl
is_true type.Bool type.Null h = cc
is_true type.Null type.Int h = cc
is_true type.Null type.Text h = cc
is_true type.Null type.Bool h = cc
is_true type.Null type.Null h = refl

-- `is` tests whether two types are the same
pub is_exactly : (a b : ExpressionType) → (is a b ≡ true) ↔ (a ≡ b)
is_exactly a b = (is_true a b, λ e. rw e (is_self b))

pub neither_true : (a b : Bool) → ((a || b) ≡ false) ↔ ((a ≡ true → ⊥) × (b ≡ true → ⊥))
neither_true true b = (λ h. absurd (true≢false h), λ h. absurd (h.0 refl))
neither_true false true = (λ h. absurd (true≢false h), λ h. absurd (h.1 refl))
neither_true false false = (λ h. (false≢true, false≢true), λ h. refl)

pub either_true : (a b : Bool) → ((a || b) ≡ true) ↔ ((a ≡ true) ⊎ (b ≡ true))
either_true true b = (λ h. inl refl, λ h. refl)
either_true false b = (λ h. inr h, λ h. ⊎_elim (λ e. absurd (false≢true e)) (λ e. e) h)

one_of : (a s t : ExpressionType) → ((is a s || is a t) ≡ true) ↔ ((a ≡ s) ⊎ (a ≡ t))
one_of a s t =
    (λ h. ⊎_map (is_exactly a s).0 (is_exactly a t).0 ((either_true _ _).0 h), λ h. (either_true _ _).1 (⊎_map (is_exactly a s).1 (is_exactly a t).1 h))

-- two types of different names are different
pub apart : {a b c : ExpressionType} → is b c ≡ false → a ≡ b → a ≡ c → ⊥
apart {a} {b} {c} d p q = true≢false (sym ((is_exactly b c).1 (sym p ∙ q)) ∙ d)

ordered_not_null : {a : ExpressionType} → (a ≡ type.Int) ⊎ (a ≡ type.Text) → a ≡ type.Null → ⊥
ordered_not_null = ⊎_elim (apart refl) (apart refl)

-- ---- the rule at one node is the relation there

abbrev pub mark_of_leaf : Marked BoundLeaf → Mark
mark_of_leaf l = l.mark

-- a number text, under a minus or not
pub number_reads : (negative : Bool) (s : Text) → Reads mark_of_leaf (integer_leaf (integer_literal negative s)) (NumberObeys negative s)
number_reads negative s =
    reads_as (λ m. (λ p. record { value = p.0; ranged = p.1; marked = p.2 }, λ p. (p.value, p.ranged, p.marked)))
    (reads_found integer_leaf (λ z. with (BoundLeaf.literal (Value.int z)) (mark type.Int false)) SchemaMismatch refl (λ z. refl) (integer_literal negative s))

-- a name
name_reads : (t : TableSchema) (name : Text) → Reads mark_of_leaf (column_leaf (column_by_name t name)) (NameObeys t name)
name_reads t name =
    reads_as (λ m. (λ p. record { column = p.0; known = p.1; marked = p.2 }, λ p. (p.column, p.known, p.marked)))
    (reads_found column_leaf (λ c. with (BoundLeaf.column c) (column_mark c)) SchemaMismatch refl (λ z. refl) (column_by_name t name))

-- Leaves.
pub leaf_reads : (t : TableSchema) (l : Leaf) → Reads mark_of_leaf (leaf_rule t l) (LeafObeys t l)
unfolding leaf_rule LeafObeys
leaf_reads t (Leaf.name n) = name_reads t (canonical n)
leaf_reads t (Leaf.number s) = number_reads false s
leaf_reads t (Leaf.string s) = reads_fine _
leaf_reads t (Leaf.boolean b) = reads_fine _
leaf_reads t Leaf.null = reads_fine _
leaf_reads t Leaf.other_literal = reads_flaw UnsupportedSql
leaf_reads t Leaf.other_expression = reads_flaw UnsupportedSql

-- an operand that has to be of a type
operand_reads : (t : ExpressionType) (a : Mark) → Exactly (operand_of t a) (λ m. (a.ty ≡ t) × (m ≡ a))
operand_reads t a =
    reads_as (λ m. (λ p. ((is_exactly _ t).0 p.0, p.1), λ p. ((is_exactly _ t).1 p.0, p.1)))
    (reads_if (is a.ty t) SchemaMismatch (reads_fine a))

-- One operand.
pub unary_reads : (o : Unary) (a : Mark) → Exactly (unary_rule o a) (UnaryObeys o a)
unfolding unary_rule UnaryObeys
unary_reads parentheses a = reads_fine a
unary_reads (null_test n) a = reads_fine _
unary_reads (unary Positive) a = operand_reads type.Int a
unary_reads (unary Negative) a = operand_reads type.Int a
unary_reads (unary Not) a = operand_reads type.Bool a
unary_reads other_unary a = reads_flaw UnsupportedSql

-- "+ - * / %: two INT give INT. AND, OR: two BOOL give BOOL."
two_reads : (t a b : ExpressionType) → Exactly (two_of t a b) (TwoOf t a b)
two_reads t a b =
    reads_as (λ r. (λ p. let w = simp (and-eq-true_iff, is_exactly) at p in (w.0.0, w.0.1, w.1), λ p. simp (and-eq-true_iff, is_exactly) ((p.0, p.1), p.2)))
    (reads_if (is a t && is b t) SchemaMismatch (reads_fine t))

-- "= and <>: two equal types, not NULL, give BOOL."
equality_reads : (a b : ExpressionType) → Exactly (equality a b) (Equality a b)
equality_reads a b =
    reads_as
    (λ r. (
      λ p. let w = simp (neither_true, is_exactly) at p in (w.1.0, w.0.0, w.1.1),
      λ p. simp (neither_true, is_exactly) ((p.1, rw (← p.0) p.1), (p.0, p.2)),
    ))
    (reads_unless (is a type.Null || is b type.Null) UnsupportedSql (reads_if (is a b) SchemaMismatch (reads_fine type.Bool)))

-- "< <= > >=: two INT or two TEXT give BOOL."
ordering_reads : (a b : ExpressionType) → Exactly (ordering a b) (Ordering a b)
ordering_reads a b =
    reads_as
    (λ r. (
      λ p. let w = simp (and-eq-true_iff, one_of, is_exactly) at p.1 in (w.0.0, w.0.1, w.1),
      λ p. let n = ordered_not_null p.1 in simp (and-eq-true_iff, neither_true, one_of, is_exactly) ((n, rw (← p.0) n), ((p.0, p.1), p.2)),
    ))
    (reads_unless (is a type.Null || is b type.Null) UnsupportedSql
    (reads_if (is a b && (is a type.Int || is a type.Text)) SchemaMismatch (reads_fine type.Bool)))

-- The 13 operators.
pub operator_reads : (o : BoundBinaryOperator) (a b : ExpressionType) → Exactly (operator_rule o a b) (OperatorObeys o a b)
unfolding operator_rule OperatorObeys
operator_reads op.Add a b = two_reads type.Int a b
operator_reads op.Subtract a b = two_reads type.Int a b
operator_reads op.Multiply a b = two_reads type.Int a b
operator_reads op.Divide a b = two_reads type.Int a b
operator_reads op.Modulo a b = two_reads type.Int a b
operator_reads op.Equal a b = equality_reads a b
operator_reads op.NotEqual a b = equality_reads a b
operator_reads op.GreaterThan a b = ordering_reads a b
operator_reads op.GreaterThanOrEqual a b = ordering_reads a b
operator_reads op.LessThan a b = ordering_reads a b
operator_reads op.LessThanOrEqual a b = ordering_reads a b
operator_reads op.And a b = two_reads type.Bool a b
operator_reads op.Or a b = two_reads type.Bool a b

-- "May be null if either operand may."
typed_reads : (v : Verdict ExpressionType) (n : Bool) {P : ExpressionType → Type 0} → Exactly v P
    → Exactly (typed v n) (λ m. P m.ty × (m.nullable ≡ n))
typed_reads (fine t) n r =
    record {
      only = λ m h. let e : mark t n ≡ m = cc in rw (← e) (r.only t refl, refl);
      all = λ m p. let w = r.all m.ty p.0 in let e : t ≡ m.ty = cc in (mark t n, refl, λ i. record { ty = e i; nullable = sym p.1 i });
    }
typed_reads (flaw k) n r = reads_none k (λ m p. never_fine (r.all m.ty p.0).1)

-- Two operands.
pub binary_reads : (o : Binary) (a b : Mark) → Exactly (binary_rule o a b) (BinaryObeys o a b)
unfolding binary_rule BinaryObeys
binary_reads (binary o) a b = typed_reads _ _ (operator_reads o a.ty b.ty)
binary_reads other_binary a b = reads_flaw UnsupportedSql
