-- A condition, and a value given to a column, as relations.
-- Assumes nothing.
use Rattle.std.specs.Prelude.{◌≡◌, refl, Bool, true, false, not, ◌&&◌, ◌↔◌}
use Rattle.std.proofs.Common.{ap, true≢false, inl, inr, ⊎_elim}
use Rattle.std.proofs.lemmas.Bool.{false≢true, not-false}
use Rattle.rules.specs.declared.Class.TheVariants.{SchemaMismatch, ConstraintViolation}
use Rattle.rules.specs.declared.ExpressionType.{ExpressionType}
use Rattle.rules.specs.declared.ExpressionType.TheVariants as type
use Rattle.rules.specs.declared.DataType.{DataType}
use Rattle.rules.specs.declared.DataType.TheVariants as data-type
use Rattle.rules.specs.declared.Mark.{Mark}
use Rattle.rules.specs.declared.BoundUnaryOperator.TheVariants.{Positive, Negative, Not}
use Rattle.rules.specs.declared.BoundBinaryOperator.{BoundBinaryOperator}
use Rattle.rules.specs.declared.BoundBinaryOperator.TheVariants as op
use Rattle.rules.specs.Answers.{given, fine}
use Rattle.rules.specs.Tables.{TableSchema}
use Rattle.rules.specs.Statements.{Leaf, Unary, parentheses, null_test, unary, other_unary, Binary, binary, other_binary, Expr}
use Rattle.rules.specs.Bound.{BoundColumnRef, BoundExpr, mark_of}
use Rattle.rules.specs.Lookup.{expression_type}
use Rattle.rules.specs.Marking.{is, Marking, root_mark, bind_expression}
use Rattle.rules.specs.Obeys.{LeafObeys, UnaryObeys, OperatorObeys, BinaryObeys, Obeys, FitObeys, at_leaf, at_signed, at_unary, at_binary}
use Rattle.rules.specs.Fits.{is_condition, fit}
use Rattle.rules.proofs.Theorems.Answered.{passed, reads_fine, reads_as, reads_if, reads_unless, reads_either}
use Rattle.rules.proofs.Theorems.Nodes.{is_exactly, apart}
use Rattle.rules.proofs.Theorems.Marked.{obeys_of}

-- ---- type NULL may be null

-- a mark of type NULL may be null
abbrev NullMay : Mark → Type 0
NullMay m = m.ty ≡ type.Null → m.nullable ≡ true

-- of another type it says nothing
other_type_lem : {m : Mark} {k : ExpressionType} → is k type.Null ≡ false → m.ty ≡ k → NullMay m
other_type_lem d p e = absurd (apart d p e)

-- no column is of type NULL
column_not_null : (d : DataType) → is (expression_type d) type.Null ≡ false
column_not_null data-type.Int = refl
column_not_null data-type.Text = refl
column_not_null data-type.Bool = refl

leaf_null : (t : TableSchema) (l : Leaf) (m : Mark) → LeafObeys t l m → NullMay m
unfolding LeafObeys
leaf_null t (Leaf.name n) m p = rw p.marked (other_type_lem (column_not_null p.column.ty) refl)
leaf_null t (Leaf.number s) m p = rw p.marked (other_type_lem refl refl)
leaf_null t (Leaf.string s) m p = rw p (other_type_lem refl refl)
leaf_null t (Leaf.boolean b) m p = rw p (other_type_lem refl refl)
leaf_null t Leaf.null m p = rw p (λ e. refl)
leaf_null t Leaf.other_literal m p = absurd p
leaf_null t Leaf.other_expression m p = absurd p

unary_null : (o : Unary) (a m : Mark) → NullMay a → UnaryObeys o a m → NullMay m
unfolding UnaryObeys
unary_null parentheses a m h p = rw p h
unary_null (null_test n) a m h p = rw p (other_type_lem refl refl)
unary_null (unary Positive) a m h p = rw p.1 h
unary_null (unary Negative) a m h p = rw p.1 h
unary_null (unary Not) a m h p = rw p.1 h
unary_null other_unary a m h p = absurd p

-- no operator gives type NULL
operator_null : (o : BoundBinaryOperator) (a b r : ExpressionType) → OperatorObeys o a b r → r ≡ type.Null → ⊥
unfolding OperatorObeys
operator_null op.Add a b r p = apart refl p.2
operator_null op.Subtract a b r p = apart refl p.2
operator_null op.Multiply a b r p = apart refl p.2
operator_null op.Divide a b r p = apart refl p.2
operator_null op.Modulo a b r p = apart refl p.2
operator_null op.Equal a b r p = apart refl p.2
operator_null op.NotEqual a b r p = apart refl p.2
operator_null op.GreaterThan a b r p = apart refl p.2
operator_null op.GreaterThanOrEqual a b r p = apart refl p.2
operator_null op.LessThan a b r p = apart refl p.2
operator_null op.LessThanOrEqual a b r p = apart refl p.2
operator_null op.And a b r p = apart refl p.2
operator_null op.Or a b r p = apart refl p.2

binary_null : (o : Binary) (a b m : Mark) → BinaryObeys o a b m → NullMay m
unfolding BinaryObeys
binary_null (binary o) a b m p e = absurd (operator_null o a.ty b.ty m.ty p.0 e)
binary_null other_binary a b m p e = absurd p

-- In a marking that obeys, type NULL at the root may be null.
pub null_may : {t : TableSchema} {e : Expr} {w : Marking} → Obeys t e w → (root_mark w).ty ≡ type.Null → (root_mark w).nullable ≡ true
null_may (at_leaf {l = l} {m = m} p) = leaf_null _ l m p
null_may (at_signed {m = m} negative s e p) = rw p.marked (other_type_lem refl refl)
null_may (at_unary {o = o} {m = m} e v p) = unary_null o _ m (null_may v) p
null_may (at_binary {o = o} {m = m} u v p) = binary_null o _ _ m p

-- ---- a condition

-- "A condition must be BOOL."
pub condition_exactly : (m : Mark) → (is_condition m ≡ fine tt) ↔ (m.ty ≡ type.Bool)
condition_exactly m =
    passed
    (reads_as (λ u. (λ p. (is_exactly m.ty type.Bool).0 p.0, λ e. ((is_exactly m.ty type.Bool).1 e, refl)))
    (reads_if (is m.ty type.Bool) SchemaMismatch (reads_fine tt)))

-- ---- a value given to a column

implied : (a b : Bool) → ((a && not b) ≡ false) ↔ (a ≡ true → b ≡ true)
implied true true = (λ h e. refl, λ h. refl)
implied true false = (λ h. absurd (true≢false h), λ h. absurd (false≢true (h refl)))
implied false b = (λ h e. absurd (false≢true e), λ h. refl)

-- "A value given to a column: type NULL into a column not nullable, 2; other type, 1; may be null into one not nullable, 2." It is fine
-- exactly where it fits.
pub fit_exactly : (m : Mark) (c : BoundColumnRef) → (m.ty ≡ type.Null → m.nullable ≡ true) → (fit m c ≡ fine tt) ↔ FitObeys m c
unfolding fit
fit_exactly m c h =
    let null-type = is_exactly m.ty type.Null in
    let column-type = is_exactly m.ty (expression_type c.ty) in
    passed
    (reads_as (λ u. (
      ⊎_elim (λ p. record { fitting = inl (null-type.0 p.0); null_allowed = λ e. p.1.0 })
          (λ p. record { fitting = inr (column-type.0 (not-false _ p.1.0)); null_allowed = (implied _ _).0 p.1.1.0 }),
      λ f.
          ⊎_elim (λ e. inl (null-type.1 e, (f.null_allowed (h e), refl)))
          (λ e. inr (rw e (column_not_null c.ty), (ap not (column-type.1 e), ((implied _ _).1 f.null_allowed, refl)))) f.fitting,
    ))
    (reads_either (is m.ty type.Null) (reads_if c.nullable ConstraintViolation (reads_fine tt))
    (reads_unless (not (is m.ty (expression_type c.ty))) SchemaMismatch
    (reads_unless (m.nullable && not c.nullable) ConstraintViolation (reads_fine tt)))))

-- So it is for every value that is bound.
pub bound_fits : (t : TableSchema) (e : Expr) {x : BoundExpr} → bind_expression t e ≡ given x → (c : BoundColumnRef)
    → (fit (mark_of x) c ≡ fine tt) ↔ FitObeys (mark_of x) c
bound_fits t e {x} h c = let w = obeys_of t e h in fit_exactly (mark_of x) c (rw (← w.2) (null_may w.1))
