-- The bytes of a bound expression by its own structure: a row for each node, operands first, and the contents of the leaves in the same order.
-- Assumes nothing.
use Rattle.std.specs.Prelude.{◌≡◌, refl, List, [], ◌∷◌, ◌++◌, map, ℕ, ◌+◌, ◌*◌, length, take, drop}
use Rattle.std.proofs.Common.{sym, ap, ap₂, ◌∙◌, append-nil, append_assoc, add-zero, arith, length-append}
use Rattle.std.proofs.lemmas.List.{map-append, length-map}
use Rattle.bytes_wire.specs.Le.{le}
use Rattle.tree.specs.Tree.{leaf, un, bin, size}
use Rattle.bytes_format.specs.Ways.{joined}
use Rattle.bytes_format.specs.Nodes as N
use Rattle.bytes_format.specs.Nodes.{Label, Label.un_label, Label.bin_label, Labels, nodes_of}
use Rattle.bytes_format.proofs.NodeLaws.{nodes_length}
use Rattle.bytes_format.proofs.Run.{node, labels_with}
use Rattle.image_value.specs.Parts.{value, operator_codes}
use Rattle.rules.specs.declared.Mark.{Mark}
use Rattle.rules.specs.declared.BoundBinaryOperator.{BoundBinaryOperator}
use Rattle.rules.specs.Marking.{operator_no}
use Rattle.rules.specs.Bound.{Marked, BoundLeaf, BoundUnary, BoundExpr, mark_of}
use Rattle.image_bound.specs.Columns.{bound_column_ref}
use Rattle.image_bound.specs.Expression.{bound_expression, marks, leaf_codes, unary_codes, unary_no, paired, to_pairs}
use Rattle.image_bound.specs.Nodes.{node_bytes, node_length}

-- ---- the kind of the root

abbrev pub leaf_no : BoundLeaf → ℕ
leaf_no (BoundLeaf.column c) = 0
leaf_no (BoundLeaf.literal v) = 1

unfoldable pub kind_no : BoundExpr → ℕ
kind_no (leaf l) = leaf_no l.kind
kind_no (un o a) = 2 + unary_no o.kind
kind_no (bin o a b) = 7 + operator_no o.kind

-- ---- contents

abbrev pub leaf_bytes : BoundLeaf → List ℕ
leaf_bytes (BoundLeaf.column c) = bound_column_ref.write c
leaf_bytes (BoundLeaf.literal v) = value.write v

unfoldable pub content_bytes : BoundExpr → List ℕ
content_bytes (leaf l) = leaf_bytes l.kind
content_bytes (un o a) = content_bytes a
content_bytes (bin o a b) = content_bytes a ++ content_bytes b

unfoldable pub content_length : BoundExpr → ℕ
content_length (leaf l) = length (leaf_bytes l.kind)
content_length (un o a) = content_length a
content_length (bin o a b) = content_length a + content_length b

pub content_length_lem : (e : BoundExpr) → length (content_bytes e) ≡ content_length e
unfolding content_bytes content_length
content_length_lem (leaf l) = refl
content_length_lem (un o a) = content_length_lem a
content_length_lem (bin o a b) = length-append (content_bytes a) (content_bytes b) ∙ ap₂ (λ (m n : ℕ). m + n) (content_length_lem a) (content_length_lem b)

-- ---- rows

-- the root's row, where `from` bytes of content stand in front of the expression's own
abbrev pub root_row : ℕ → BoundExpr → List ℕ
root_row from e = node_bytes (kind_no e) (mark_of e) (size e) (from + content_length e)

unfoldable pub rows_from : ℕ → BoundExpr → List ℕ
rows_from from (leaf l) = root_row from (leaf l)
rows_from from (un o a) = rows_from from a ++ root_row from (un o a)
rows_from from (bin o a b) = rows_from from a ++ (rows_from (from + content_length a) b ++ root_row from (bin o a b))

pub rows_length : (from : ℕ) (e : BoundExpr) → length (rows_from from e) ≡ 11 * size e
unfolding rows_from size
rows_length from (leaf l) = node_length _ _ _ _
rows_length from (un o a) =
    length-append (rows_from from a) (root_row from (un o a))
    ∙ omega (arith, rows_length from a, node_length (kind_no (un o a)) o.mark (size (un o a)) (from + content_length (un o a)))
rows_length from (bin o a b) =
    length-append (rows_from from a) (rows_from (from + content_length a) b ++ root_row from (bin o a b))
    ∙ omega (
      arith,
      length-append (rows_from (from + content_length a) b) (root_row from (bin o a b)),
      rows_length from a,
      rows_length (from + content_length a) b,
      node_length (kind_no (bin o a b)) o.mark (size (bin o a b)) (from + content_length (bin o a b)),
    )

-- ---- the layout's run, list by list

abbrev labels : Labels (Label (Mark × BoundLeaf) (Mark × BoundUnary) (Mark × BoundBinaryOperator))
labels = labels_with leaf_codes unary_codes operator_codes marks refl

-- each node's image, and its span
abbrev images : BoundExpr → List (List ℕ × ℕ)
images e = N.run_write 4 labels (to_pairs e)

abbrev row_bytes : ℕ → List (List ℕ × ℕ) → List ℕ
row_bytes from l = joined (map (node 3 4).form.write (N.rows_of 3 from l))

abbrev contents : List (List ℕ × ℕ) → List ℕ
contents l = joined (N.contents_of 3 l)

row_bytes_append : (from : ℕ) (l m : List (List ℕ × ℕ)) → row_bytes from (l ++ m) ≡ row_bytes from l ++ row_bytes (from + N.content_total 3 l) m
row_bytes_append from [] m = ap (λ (n : ℕ). row_bytes n m) (sym (add-zero from))
row_bytes_append from (x ∷ l) m =
    let to : ℕ = from + N.content_length 3 x in
    let r : List ℕ = (node 3 4).form.write (take 3 x.0, (x.1, to)) in
    let e : to + N.content_total 3 l ≡ from + N.content_total 3 (x ∷ l) = omega arith in
    ap (λ (s : List ℕ). r ++ s) (row_bytes_append to l m) ∙ sym (append_assoc r (row_bytes to l) (row_bytes (to + N.content_total 3 l) m))
    ∙ ap (λ (n : ℕ). (r ++ row_bytes to l) ++ row_bytes n m) e

contents_append : (l m : List (List ℕ × ℕ)) → contents (l ++ m) ≡ contents l ++ contents m
contents_append [] m = refl
contents_append (x ∷ l) m = ap (λ (s : List ℕ). drop 3 x.0 ++ s) (contents_append l m) ∙ sym (append_assoc (drop 3 x.0) (contents l) (contents m))

total_append : (l m : List (List ℕ × ℕ)) → N.content_total 3 (l ++ m) ≡ N.content_total 3 l + N.content_total 3 m
total_append [] m = omega arith
total_append (x ∷ l) m = omega (arith, total_append l m)

-- ---- the two are the same

size_pairs : (e : BoundExpr) → size (to_pairs e) ≡ size e
unfolding size
size_pairs (leaf l) = refl
size_pairs (un o a) = ap (λ (n : ℕ). n + 1) (size_pairs a)
size_pairs (bin o a b) = ap₂ (λ (m n : ℕ). m + n + 1) (size_pairs a) (size_pairs b)

-- the content of the root alone
abbrev own : BoundExpr → List ℕ
own (leaf l) = leaf_bytes l.kind
own (un o a) = []
own (bin o a b) = []

-- the root's image and its span
abbrev root : BoundExpr → List ℕ × ℕ
root e = (kind_no e ∷ marks.form.write (mark_of e) ++ own e, size e)

-- what stands at a node: a label's image
abbrev image : Label (Mark × BoundLeaf) (Mark × BoundUnary) (Mark × BoundBinaryOperator) × ℕ → List ℕ × ℕ
image x = (labels.form.write x.0, x.1)

images_leaf : (l : Marked BoundLeaf) → images (leaf l) ≡ root (leaf l) ∷ []
unfolding kind_no size
images_leaf l = whole l.kind
  where
    whole : (k : BoundLeaf) → images (leaf (record { kind = k; mark = l.mark })) ≡ root (leaf (record { kind = k; mark = l.mark })) ∷ []
    whole (BoundLeaf.column c) = refl
    whole (BoundLeaf.literal v) = refl

images_un : (o : Marked BoundUnary) (a : BoundExpr) → images (un o a) ≡ images a ++ root (un o a) ∷ []
unfolding kind_no
images_un o a =
    map-append image (nodes_of (to_pairs a)) ((un_label (paired o), size (to_pairs (un o a))) ∷ [])
    ∙ ap (λ (n : ℕ). images a ++ ((root (un o a)).0, n) ∷ []) (size_pairs (un o a))

images_bin : (o : Marked BoundBinaryOperator) (a b : BoundExpr) → images (bin o a b) ≡ (images a ++ images b) ++ root (bin o a b) ∷ []
unfolding kind_no
images_bin o a b =
    map-append image (nodes_of (to_pairs a) ++ nodes_of (to_pairs b)) ((bin_label (paired o), size (to_pairs (bin o a b))) ∷ [])
    ∙ ap₂ (λ (l : List (List ℕ × ℕ)) (x : List ℕ × ℕ). l ++ x ∷ []) (map-append image (nodes_of (to_pairs a)) (nodes_of (to_pairs b)))
    (ap₂ (λ (k n : ℕ). (k ∷ marks.form.write o.mark, n)) (omega arith) (size_pairs (bin o a b)))

-- a row, a content and a length of the root alone
root_row_lem : (n : ℕ) (e : BoundExpr) → row_bytes n (root e ∷ []) ≡ node_bytes (kind_no e) (mark_of e) (size e) (n + length (own e))
unfolding node_bytes
root_row_lem n e = ap (λ (k : ℕ). (kind_no e ∷ marks.form.write (mark_of e)) ++ (le 4 (size e) ++ le 4 (n + k))) (omega arith)

root_content : (e : BoundExpr) → contents (root e ∷ []) ≡ own e
root_content e = append-nil (own e)

root_total : (e : BoundExpr) → N.content_total 3 (root e ∷ []) ≡ length (own e)
root_total e = omega arith

-- the root behind its operands
module _ (l : List (List ℕ × ℕ)) (e : BoundExpr) where
  row_behind : (from : ℕ) → row_bytes from (l ++ root e ∷ []) ≡ row_bytes from l ++ node_bytes (kind_no e) (mark_of e) (size e) (from + N.content_total 3 l + length (own e))
  row_behind from = row_bytes_append from l (root e ∷ []) ∙ ap (λ (r : List ℕ). row_bytes from l ++ r) (root_row_lem (from + N.content_total 3 l) e)

  content_behind : contents (l ++ root e ∷ []) ≡ contents l ++ own e
  content_behind = contents_append l (root e ∷ []) ∙ ap (λ (r : List ℕ). contents l ++ r) (root_content e)

  total_behind : N.content_total 3 (l ++ root e ∷ []) ≡ N.content_total 3 l + length (own e)
  total_behind = total_append l (root e ∷ []) ∙ ap (λ (n : ℕ). N.content_total 3 l + n) (root_total e)

total_is : (e : BoundExpr) → N.content_total 3 (images e) ≡ content_length e
unfolding content_length
total_is (leaf l) = ap (N.content_total 3) (images_leaf l) ∙ root_total (leaf l)
total_is (un o a) = ap (N.content_total 3) (images_un o a) ∙ total_behind (images a) (un o a) ∙ omega (arith, total_is a)
total_is (bin o a b) =
    ap (N.content_total 3) (images_bin o a b) ∙ total_behind (images a ++ images b) (bin o a b)
    ∙ omega (arith, total_append (images a) (images b), total_is a, total_is b)

contents_are : (e : BoundExpr) → contents (images e) ≡ content_bytes e
unfolding content_bytes
contents_are (leaf l) = ap contents (images_leaf l) ∙ root_content (leaf l)
contents_are (un o a) = ap contents (images_un o a) ∙ content_behind (images a) (un o a) ∙ append-nil (contents (images a)) ∙ contents_are a
contents_are (bin o a b) =
    ap contents (images_bin o a b) ∙ content_behind (images a ++ images b) (bin o a b) ∙ append-nil (contents (images a ++ images b))
    ∙ contents_append (images a) (images b) ∙ ap₂ (λ (x y : List ℕ). x ++ y) (contents_are a) (contents_are b)

-- the root's row, wherever its operands' contents end
row_at_lem : (e : BoundExpr) (m n : ℕ) → m ≡ n → node_bytes (kind_no e) (mark_of e) (size e) m ≡ node_bytes (kind_no e) (mark_of e) (size e) n
row_at_lem e m n h = ap (node_bytes (kind_no e) (mark_of e) (size e)) h

rows_are : (from : ℕ) (e : BoundExpr) → row_bytes from (images e) ≡ rows_from from e
unfolding rows_from content_length
rows_are from (leaf l) = ap (row_bytes from) (images_leaf l) ∙ root_row_lem from (leaf l)
rows_are from (un o a) =
    ap (row_bytes from) (images_un o a) ∙ row_behind (images a) (un o a) from
    ∙ ap₂ (λ (x y : List ℕ). x ++ y) (rows_are from a) (row_at_lem (un o a) _ _ (omega (arith, total_is a)))
rows_are from (bin o a b) =
    ap (row_bytes from) (images_bin o a b) ∙ row_behind (images a ++ images b) (bin o a b) from
    ∙ ap₂ (λ (x y : List ℕ). x ++ y)
    (row_bytes_append from (images a) (images b)
    ∙ ap₂ (λ (x : List ℕ) (n : ℕ). x ++ row_bytes (from + n) (images b)) (rows_are from a) (total_is a)
    ∙ ap (λ (y : List ℕ). rows_from from a ++ y) (rows_are (from + content_length a) b))
    (row_at_lem (bin o a b) _ _ (omega (arith, total_append (images a) (images b), total_is a, total_is b)))
    ∙ append_assoc (rows_from from a) (rows_from (from + content_length a) b) (root_row from (bin o a b))

-- ---- the laws

pub run_bytes_lem : (e : BoundExpr) → bound_expression.write e ≡ le 4 (size e) ++ (rows_from 0 e ++ content_bytes e)
unfolding bound_expression
run_bytes_lem e =
    ap₂ (λ (n : ℕ) (l : List ℕ). le 4 n ++ l) (count e) (ap₂ (λ (x y : List ℕ). x ++ y) (rows_are 0 e) (contents_are e))
  where
    count : (e : BoundExpr) → length (images e) ≡ size e
    count e = length-map (nodes_of (to_pairs e)) image ∙ nodes_length (to_pairs e) ∙ size_pairs e

pub run_length : (e : BoundExpr) → length (bound_expression.write e) ≡ 4 + 11 * size e + content_length e
run_length e =
    ap length (run_bytes_lem e) ∙ length-append (le 4 (size e)) (rows_from 0 e ++ content_bytes e)
    ∙ omega (arith, length-append (rows_from 0 e) (content_bytes e), rows_length 0 e, content_length_lem e)
