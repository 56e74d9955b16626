-- A bound expression's run, as docs/IMAGES.md lays it out: the head of a node is its kind, its type and a mark: nullable. Leaves have the kinds
-- 0 and 1, nodes with one operand 2 to 6, nodes with two 7 to 19.
-- Assumes nothing.
use Rattle.std.specs.Prelude.{◌≡◌, refl, Bool, true, false, List, [], ◌∷◌, ℕ}
use Rattle.std.proofs.Common.{ap, ap₂}
use Rattle.std.proofs.Math.Option.{none, some}
use Rattle.std.proofs.Math.ListN.{get_elem?}
use Rattle.tree.specs.Tree.{Tree, leaf, un, bin}
use Rattle.bytes_format.specs.Format.{Format, Fixed, Coded}
use Rattle.bytes_format.proofs.Formats.{mark, via, via_field, both}
use Rattle.bytes_format.proofs.Sums.{Case, case, Some, nth, made, sum, kinds}
use Rattle.bytes_format.proofs.Run.{run, labels_with}
use Rattle.image_value.specs.Parts.{expression_type, operator_codes, value}
use Rattle.rules.specs.declared.Mark.{Mark}
use Rattle.rules.specs.declared.BoundUnaryOperator.TheVariants.{Positive, Negative, Not}
use Rattle.rules.specs.declared.BoundBinaryOperator.{BoundBinaryOperator}
use Rattle.rules.specs.Bound.{Marked, BoundLeaf, BoundUnary, BoundExpr}
use Rattle.image_bound.specs.Columns.{bound_column_ref}

-- the type and may-be-null of a node
abbrev pub marks : Fixed Mark
marks = via_field (both expression_type mark) (λ p. record { ty = p.0; nullable = p.1 }) (λ m. (m.ty, m.nullable)) (λ m. refl) (λ p h. refl)

-- ---- the kinds

abbrev pub leaf_cases : List (Case BoundLeaf)
leaf_cases = case bound_column_ref BoundLeaf.column ∷ case value BoundLeaf.literal ∷ []

abbrev pub which_leaf : BoundLeaf → Some leaf_cases
which_leaf (BoundLeaf.column c) = nth leaf_cases 0 c
which_leaf (BoundLeaf.literal v) = nth leaf_cases 1 v

pub leaf_made : (l : BoundLeaf) → made leaf_cases (which_leaf l) ≡ l
leaf_made (BoundLeaf.column c) = refl
leaf_made (BoundLeaf.literal v) = refl

abbrev pub leaf_codes : Coded BoundLeaf
leaf_codes = sum leaf_cases which_leaf leaf_made refl

abbrev pub unaries : List BoundUnary
unaries =
    BoundUnary.unary Positive ∷ BoundUnary.unary Negative ∷ BoundUnary.unary Not ∷ BoundUnary.is_null false ∷ BoundUnary.is_null true ∷ []

abbrev pub is_null_no : Bool → ℕ
is_null_no false = 3
is_null_no true = 4

abbrev pub unary_no : BoundUnary → ℕ
unary_no (BoundUnary.unary Positive) = 0
unary_no (BoundUnary.unary Negative) = 1
unary_no (BoundUnary.unary Not) = 2
unary_no (BoundUnary.is_null n) = is_null_no n

pub is_null_found : (n : Bool) → get_elem? unaries (is_null_no n) ≡ some (BoundUnary.is_null n)
is_null_found false = refl
is_null_found true = refl

pub unary_found : (u : BoundUnary) → get_elem? unaries (unary_no u) ≡ some u
unary_found (BoundUnary.unary Positive) = refl
unary_found (BoundUnary.unary Negative) = refl
unary_found (BoundUnary.unary Not) = refl
unary_found (BoundUnary.is_null n) = is_null_found n

abbrev pub unary_codes : Coded BoundUnary
unary_codes = kinds (record { all = unaries; index = unary_no; found = unary_found; order = refl; few = refl })

-- ---- the run, whose labels are pairs of a mark and a kind

abbrev pub Pairs : Type 0
Pairs = Tree (Mark × BoundLeaf) (Mark × BoundUnary) (Mark × BoundBinaryOperator)

abbrev pub marked : {K : Type 0} → Mark × K → Marked K
marked p = record { kind = p.1; mark = p.0 }

abbrev pub to_bound : Pairs → BoundExpr
to_bound (leaf l) = leaf (marked l)
to_bound (un o a) = un (marked o) (to_bound a)
to_bound (bin o a b) = bin (marked o) (to_bound a) (to_bound b)

abbrev pub paired : {K : Type 0} → Marked K → Mark × K
paired k = (k.mark, k.kind)

abbrev pub to_pairs : BoundExpr → Pairs
to_pairs (leaf l) = leaf (paired l)
to_pairs (un o a) = un (paired o) (to_pairs a)
to_pairs (bin o a b) = bin (paired o) (to_pairs a) (to_pairs b)

pub to_bound_lem : (e : BoundExpr) → to_bound (to_pairs e) ≡ e
to_bound_lem (leaf l) = refl
to_bound_lem (un o a) = ap (un o) (to_bound_lem a)
to_bound_lem (bin o a b) = ap₂ (bin o) (to_bound_lem a) (to_bound_lem b)

pub to_pairs_lem : (e : Pairs) → to_pairs (to_bound e) ≡ e
to_pairs_lem (leaf l) = refl
to_pairs_lem (un o a) = ap (un o) (to_pairs_lem a)
to_pairs_lem (bin o a b) = ap₂ (bin o) (to_pairs_lem a) (to_pairs_lem b)

unfoldable pub bound_expression : Format BoundExpr
bound_expression = via (run 4 (labels_with leaf_codes unary_codes operator_codes marks refl)) to_bound to_pairs to_bound_lem (λ e h. to_pairs_lem e)

pub bound_expression_not_empty : bound_expression.read [] ≡ none
unfolding bound_expression
bound_expression_not_empty = refl
