-- Answers of the rules and of the code, step by step.
-- Assumes nothing.
use mathlib.Core.Path.{◌≡◌, refl}
use mathlib.Core.Bool.{Bool}
use Rattle.std.specs.Prelude.{Result, Ok, Err}
use Rattle.tree.specs.Tree.{un, bin}
use Prim.Native.Nat.{ℕ, ◌+◌}
use Rattle.rules.specs.declared.BoundBinaryOperator.{BoundBinaryOperator}
use Rattle.rules.specs.declared.Class.{Class}
use Rattle.rules.specs.declared.ExpressionType.{ExpressionType}
use Rattle.rules.specs.declared.Mark.{Mark}
use Rattle.rules.specs.declared.Refusal.{Refusal}
use Rattle.rules.specs.Answers.{Answer, given, refused, ◌>>=◌, Verdict, fine, flaw, judged}
use Rattle.rules.specs.Bound as bound
use Rattle.rules.specs.Bound.{BoundLeaf, BoundUnary, BoundExpr, mark_of}
use Rattle.rules.specs.Lookup.{mark}
use Rattle.rules.specs.Marking.{with, typed, unary_rule, binary_rule, bound_leaf, bound_unary, bound_binary}
use Rattle.rules.specs.Statements.{Unary, parentheses, null_test, unary, other_unary, Binary, binary, other_binary}
use Rattle.rules.proofs.Theorems.Answered.{mapped}
use Rattle.bind_operators.specs.Told as operators
use Rattle.bind_expression.specs.declared.Measured.{Measured}
use Rattle.bind_expression.specs.Told.{run, bytes_of, measured, told, verdict_told, leaf_told, refused_with, after, over_two, unary_told}

-- a rule that was told as a Result, by the case that it is
pub ruled_ok : (n : ℕ) (u : Verdict Mark) {m : Mark} → Ok m ≡ operators.told u → Ok (run n m) ≡ verdict_told n u
ruled_ok n (fine m) p = cc
ruled_ok n (flaw k) p = cc

pub ruled_err : (n : ℕ) (u : Verdict Mark) {k : Class} → Err k ≡ operators.told u → refused_with k ≡ verdict_told n u
ruled_err n (fine m) p = cc
ruled_err n (flaw k) p = cc

-- the operators' table is asked for the type alone
pub typed_told : (n : ℕ) (u : Verdict ExpressionType) (may : Bool) {t : ExpressionType} → Ok t ≡ operators.told u
    → Ok (run n (mark t may)) ≡ verdict_told n (typed u may)
typed_told n (fine x) may p = cc
typed_told n (flaw k) may p = cc

pub flaw_told : (n : ℕ) (u : Verdict ExpressionType) (may : Bool) {k : Class} → Err k ≡ operators.told u
    → refused_with k ≡ verdict_told n (typed u may)
flaw_told n (fine x) may p = cc
flaw_told n (flaw h) may p = cc

pub leaf_told_lem : (u : Verdict (bound.Marked BoundLeaf)) → leaf_told u ≡ told (mapped measured (judged u >>= bound_leaf))
unfolding bytes_of
leaf_told_lem (fine l) = refl
leaf_told_lem (flaw k) = refl

-- the rule at a node, which takes 11 bytes more than its operands
un_node : (u : Verdict Mark) (o : BoundUnary) (a : BoundExpr)
    → verdict_told (bytes_of a + 11) u ≡ told (mapped measured (judged u >>= (λ m. given (un (with o m) a))))
unfolding bytes_of
un_node (fine m) o a = refl
un_node (flaw k) o a = refl

bin_node : (u : Verdict Mark) (o : BoundBinaryOperator) (a b : BoundExpr)
    → verdict_told (bytes_of a + bytes_of b + 11) u ≡ told (mapped measured (judged u >>= (λ m. given (bin (with o m) a b))))
unfolding bytes_of
bin_node (fine m) o a b = refl
bin_node (flaw k) o a b = refl

-- an operand's answer, and what the node makes of it
over_one_lem : (o : Unary) (x : BoundExpr)
    → unary_told o (measured x) ≡ told (mapped measured (judged (unary_rule o (mark_of x)) >>= (λ m. given (bound_unary o m x))))
unfolding unary_told unary_rule bound_unary bytes_of
over_one_lem parentheses x = refl
over_one_lem (null_test n) x = refl
over_one_lem (unary o) x = un_node (unary_rule (unary o) (mark_of x)) (BoundUnary.unary o) x
over_one_lem other_unary x = refl

pub un_told : (o : Unary) (y : Answer BoundExpr)
    → after (told (mapped measured y)) (unary_told o) ≡ told (mapped measured (y >>= (λ x. judged (unary_rule o (mark_of x)) >>= (λ m. given (bound_unary o m x)))))
un_told o (given x) = over_one_lem o x
un_told o (refused q) = refl

-- two operands, where the left one is bound to a
over_two_lem : (o : Binary) (a b : BoundExpr)
    → over_two (binary_rule o) (measured a) (measured b) ≡ told (mapped measured (judged (binary_rule o (mark_of a) (mark_of b)) >>= (λ m. given (bound_binary o m a b))))
unfolding bound_binary binary_rule
over_two_lem (binary o) a b = bin_node (binary_rule (binary o) (mark_of a) (mark_of b)) o a b
over_two_lem other_binary a b = refl

pub bin_told : (o : Binary) (a : BoundExpr) (y : Answer BoundExpr)
    → after (told (mapped measured y)) (over_two (binary_rule o) (measured a))
    ≡ told (mapped measured (y >>= (λ b. judged (binary_rule o (mark_of a) (mark_of b)) >>= (λ m. given (bound_binary o m a b)))))
bin_told o a (given b) = over_two_lem o a b
bin_told o a (refused q) = refl

pub after_same : (y : Result Measured Refusal) (f g : Measured → Result Measured Refusal) → ((m : Measured) → f m ≡ g m) → after y f ≡ after y g
after_same (Ok m) f g h = h m
after_same (Err q) f g h = refl

pub after_is : (y : Result Measured Refusal) → y ≡ after y Ok
after_is (Ok m) = refl
after_is (Err q) = refl
