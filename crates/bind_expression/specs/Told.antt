-- What marking answers, as the code says it.
-- Assumes nothing: these are definitions.
use Rattle.std.specs.Prelude.{false, ℕ, ◌+◌, length, Result, Ok, Err}
use Rattle.tree.specs.Tree.{leaf, un, bin}
use Rattle.rules.specs.declared.Class.{Class}
use Rattle.rules.specs.declared.ExpressionType.{ExpressionType}
use Rattle.rules.specs.declared.ExpressionType.TheVariants as type
use Rattle.rules.specs.declared.Mark.{Mark}
use Rattle.rules.specs.declared.Refusal.{Refusal}
use Rattle.rules.specs.Answers.{Answer, given, refused, Verdict, fine, flaw}
use Rattle.rules.specs.Bound as bound
use Rattle.rules.specs.Bound.{Value, BoundLeaf, BoundExpr, mark_of}
use Rattle.rules.specs.Lookup as lookup
use Rattle.rules.specs.Marking.{unary_rule}
use Rattle.rules.specs.Statements.{Unary, parentheses, null_test, unary, other_unary}
use Rattle.image_bound.specs.Expression.{bound_expression}
use Rattle.image_bound.specs.Runs.{leaf_bytes}
use Rattle.bind_expression.specs.declared.Measured.{Measured}
use Rattle.bind_expression.specs.declared.BoundExpression.{BoundExpression}

abbrev pub run : ℕ → Mark → Measured
run n m = record { mark = m; size = n }

-- the bytes that the nodes and what the leaves hold take in the bound image
unfoldable pub bytes_of : BoundExpr → ℕ
bytes_of (leaf l) = length (leaf_bytes l.kind) + 11
bytes_of (un o a) = bytes_of a + 11
bytes_of (bin o a b) = bytes_of a + bytes_of b + 11

-- what a bound expression measures
abbrev pub measured : BoundExpr → Measured
measured b = run (bytes_of b) (mark_of b)

abbrev pub told : Answer Measured → Result Measured Refusal
told (given m) = Ok m
told (refused r) = Err r

abbrev pub refused_with : Class → Result Measured Refusal
refused_with k = Err (record { class = k })

-- the rule at a node decides, where the run takes n bytes
abbrev pub verdict_told : ℕ → Verdict Mark → Result Measured Refusal
verdict_told n (fine m) = Ok (run n m)
verdict_told n (flaw k) = refused_with k

-- ---- leaves

abbrev pub leaf_told : Verdict (bound.Marked BoundLeaf) → Result Measured Refusal
leaf_told (fine l) = Ok (run (length (leaf_bytes l.kind) + 11) l.mark)
leaf_told (flaw k) = refused_with k

-- the type that a literal has, and how long its text is
abbrev pub type_of : Value → ExpressionType
type_of (Value.int z) = type.Int
type_of (Value.text s) = type.Text
type_of (Value.bool b) = type.Bool
type_of Value.null = type.Null

abbrev pub text_of : Value → ℕ
text_of (Value.int z) = 0
text_of (Value.text s) = length s
text_of (Value.bool b) = 0
text_of Value.null = 0

-- ---- nodes with operands

-- an operand's answer goes into the node's; an operand's refusal stands
abbrev pub after : Result Measured Refusal → (Measured → Result Measured Refusal) → Result Measured Refusal
after (Ok m) f = f m
after (Err r) f = Err r

-- a node over what it is bound to: one node more
abbrev pub over_one : (Mark → Verdict Mark) → Measured → Result Measured Refusal
over_one f m = verdict_told (m.size + 11) (f m.mark)

abbrev pub over_two : (Mark → Mark → Verdict Mark) → Measured → Measured → Result Measured Refusal
over_two f a b = verdict_told (a.size + b.size + 11) (f a.mark b.mark)

-- IS NULL and IS NOT NULL are BOOL and never null
abbrev pub null_told : Measured → Result Measured Refusal
null_told m = Ok (run (m.size + 11) (lookup.mark type.Bool false))

-- parentheses are as inside, with no node of their own
unfoldable pub unary_told : Unary → Measured → Result Measured Refusal
unary_told parentheses m = Ok m
unary_told (null_test n) m = null_told m
unary_told (unary o) m = over_one (unary_rule (unary o)) m
unary_told other_unary m = over_one (unary_rule other_unary) m

-- ---- a whole expression

abbrev pub size_told : Answer BoundExpr → Result BoundExpression Refusal
size_told (given b) = Ok (record { mark = mark_of b; len = length (bound_expression.write b) })
size_told (refused r) = Err r
