-- An expression's run, as docs/IMAGES.md lays it out: the codes of the nodes. Leaves have 0 to 8, nodes with one operand 9 to 15, nodes with
-- two 16 to 29.
-- Assumes nothing.
use Rattle.std.specs.Prelude.{◌≡◌, refl, Bool, true, false, ◌⊎◌, List, [], ◌∷◌, ℕ}
use Rattle.std.proofs.Math.Option.{none, some}
use Rattle.std.proofs.Common.{inl, inr}
use Rattle.std.proofs.Math.ListN.{get_elem?}
use Rattle.bytes_format.specs.Format.{Format, Coded}
use Rattle.bytes_format.proofs.Formats.{text, nothing}
use Rattle.bytes_format.proofs.Sums.{Case, case, Some, nth, made, sum, kinds, either, recode}
use Rattle.bytes_format.proofs.Run.{run, labels}
use Rattle.image_value.specs.Parts.{operator_codes}
use Rattle.rules.specs.declared.BoundUnaryOperator.TheVariants.{Positive, Negative, Not}
use Rattle.rules.specs.declared.BoundBinaryOperator.{BoundBinaryOperator}
use Rattle.rules.specs.Lists.{Text}
use Rattle.rules.specs.Statements.{Leaf, Unary, parentheses, null_test, unary, other_unary, Binary, binary, other_binary, Expr}

-- ---- leaves

abbrev pub name_of : Bool → Text → Leaf
name_of q s = Leaf.name (record { quoted = q; text = s })

abbrev pub leaf_cases : List (Case Leaf)
leaf_cases =
    case text (name_of false) ∷ case text (name_of true) ∷ case text Leaf.number ∷ case text Leaf.string ∷ case nothing (λ u. Leaf.boolean true)
    ∷ case nothing (λ u. Leaf.boolean false) ∷ case nothing (λ u. Leaf.null) ∷ case nothing (λ u. Leaf.other_literal)
    ∷ case nothing (λ u. Leaf.other_expression) ∷ []

abbrev pub which_name : Bool → Text → Some leaf_cases
which_name false s = nth leaf_cases 0 s
which_name true s = nth leaf_cases 1 s

abbrev pub which_truth : Bool → Some leaf_cases
which_truth true = nth leaf_cases 4 tt
which_truth false = nth leaf_cases 5 tt

abbrev pub which_leaf : Leaf → Some leaf_cases
which_leaf (Leaf.name n) = which_name n.quoted n.text
which_leaf (Leaf.number s) = nth leaf_cases 2 s
which_leaf (Leaf.string s) = nth leaf_cases 3 s
which_leaf (Leaf.boolean b) = which_truth b
which_leaf Leaf.null = nth leaf_cases 6 tt
which_leaf Leaf.other_literal = nth leaf_cases 7 tt
which_leaf Leaf.other_expression = nth leaf_cases 8 tt

pub name_made : (q : Bool) (s : Text) → made leaf_cases (which_name q s) ≡ name_of q s
name_made false s = refl
name_made true s = refl

pub truth_made : (b : Bool) → made leaf_cases (which_truth b) ≡ Leaf.boolean b
truth_made true = refl
truth_made false = refl

pub leaf_made : (l : Leaf) → made leaf_cases (which_leaf l) ≡ l
leaf_made (Leaf.name n) = name_made n.quoted n.text
leaf_made (Leaf.number s) = refl
leaf_made (Leaf.string s) = refl
leaf_made (Leaf.boolean b) = truth_made b
leaf_made Leaf.null = refl
leaf_made Leaf.other_literal = refl
leaf_made Leaf.other_expression = refl

abbrev pub leaf_codes : Coded Leaf
leaf_codes =
    sum leaf_cases which_leaf leaf_made refl

-- ---- nodes with one operand

abbrev pub unaries : List Unary
unaries =
    parentheses ∷ null_test false ∷ null_test true ∷ unary Positive ∷ unary Negative ∷ unary Not ∷ other_unary ∷ []

abbrev pub null_test_no : Bool → ℕ
null_test_no false = 1
null_test_no true = 2

abbrev pub unary_no : Unary → ℕ
unary_no parentheses = 0
unary_no (null_test n) = null_test_no n
unary_no (unary Positive) = 3
unary_no (unary Negative) = 4
unary_no (unary Not) = 5
unary_no other_unary = 6

pub null_test_found : (n : Bool) → get_elem? unaries (null_test_no n) ≡ some (null_test n)
null_test_found false = refl
null_test_found true = refl

pub unary_found : (u : Unary) → get_elem? unaries (unary_no u) ≡ some u
unary_found parentheses = refl
unary_found (null_test n) = null_test_found n
unary_found (unary Positive) = refl
unary_found (unary Negative) = refl
unary_found (unary Not) = refl
unary_found other_unary = refl

abbrev pub unary_codes : Coded Unary
unary_codes = kinds (record { all = unaries; index = unary_no; found = unary_found; order = refl; few = refl })

-- ---- nodes with two operands, in the order of `BoundBinaryOperator`

abbrev pub to_binary : BoundBinaryOperator ⊎ Unit {0} → Binary
to_binary (inl o) = binary o
to_binary (inr u) = other_binary

abbrev pub of_binary : Binary → BoundBinaryOperator ⊎ Unit {0}
of_binary (binary o) = inl o
of_binary other_binary = inr tt

pub to_of : (b : Binary) → to_binary (of_binary b) ≡ b
to_of (binary o) = refl
to_of other_binary = refl

pub of_to : (x : BoundBinaryOperator ⊎ Unit {0}) → of_binary (to_binary x) ≡ x
of_to (inl o) = refl
of_to (inr u) = refl

-- the thirteen operators, and behind them the one code for any other
abbrev pub binary_codes : Coded Binary
binary_codes = recode (either operator_codes (kinds (record { all = tt ∷ []; index = λ u. 0; found = λ u. refl; order = refl; few = refl }))) to_binary of_binary to_of of_to

-- ---- the run

unfoldable pub expression : Format Expr
expression = run 2 (labels leaf_codes unary_codes binary_codes refl)

pub expression_not_empty : expression.read [] ≡ none
unfolding expression
expression_not_empty = refl
