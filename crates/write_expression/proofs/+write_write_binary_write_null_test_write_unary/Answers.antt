-- The cycle {write, write_binary, write_null_test, write_unary} meets its contracts, and ends: `write` at i calls the others at i, and they call
-- `write` below i, so that the measure is 2i for them and 2i + 1 for `write`. What each node's bytes are made of is in `Steps`.
use mathlib.Core.Path.{sym, ◌∙◌}
use native.Mathlib.Omega.{arith}
use Rattle.image_expression.specs.Laws.{last_operand, first_operand, known_kind}
use Rattle.write_expression.specs.Binds.{leaf_binds, number_binds, parens_binds, null_binds, operator_binds, binary_binds}
use Rattle.write_expression.specs.Writes.{leaf_room, un_writable, parens_writable, left_writable, right_writable}
use Rattle.write_expression.proofs.Known.{known}
use Rattle.write_expression.proofs.Steps.{
  parens_writes,
  leaf_end,
  leaf_root,
  leaf_writes,
  un_root,
  un_fine,
  null_writes,
  operator_writes,
  first,
  left_rows,
  left_contents,
  bin_sums,
  bin_root,
  bin_long,
  bin_fine,
  bin_writes,
}
use Rattle.write_expression.proofs.+write_write_binary_write_null_test_write_unary.Goals as goal

pub write-kind-k-requires : goal.write-kind-k-requires
write-kind-k-requires t c = c.requires.node

pub write-put_content-l-requires : goal.write-put_content-l-requires
write-put_content-l-requires t c =
    let w = c.requires in
    record { names_within = (w.names, w.node); k_value = (c.kind-k.ensures, c.if-k-lt9.true); leaf_room = leaf_room w (leaf_binds w.binds _ c.kind-k.ensures c.if-k-lt9.true) }

pub write-overflow_sub-l : goal.write-overflow_sub-l
write-overflow_sub-l t c =
    let w = c.requires in
    leaf_end w (leaf_binds w.binds _ c.kind-k.ensures c.if-k-lt9.true) c.put_content-l.ensures

pub write-put_root-requires : goal.write-put_root-requires
write-put_root-requires t c =
    let w = c.requires in
    leaf_root w (leaf_binds w.binds _ c.kind-k.ensures c.if-k-lt9.true) c.put_content-l.ensures

pub write-returns-then-k-lt9 : goal.write-returns-then-k-lt9
write-returns-then-k-lt9 t c =
    let w = c.requires in
    leaf_writes w (leaf_binds w.binds _ c.kind-k.ensures c.if-k-lt9.true) c.put_content-l.ensures c.put_root.ensures

pub write-write_binary-requires : goal.write-write_binary-requires
write-write_binary-requires t c =
    (omega arith, (c.requires, (c.kind-k.ensures, c.if-k-ge16.true)))

pub write-returns-then-k-ge16 : goal.write-returns-then-k-ge16
write-returns-then-k-ge16 t c = c.write_binary.ensures

pub write-overflow_sub-i : goal.write-overflow_sub-i
write-overflow_sub-i t c = (last_operand (known c.type_inv.e) c.requires.node _ c.kind-k.ensures c.if-k-lt9.false).0

pub write-write-requires : goal.write-write-requires
write-write-requires t c =
    let w = c.requires in
    let o = last_operand (known c.type_inv.e) w.node _ c.kind-k.ensures c.if-k-lt9.false in
    (omega (arith, o.0), parens_writable w o.1 (parens_binds w.binds _ c.kind-k.ensures c.if-k-eq9.true))

pub write-returns-then-k-eq9 : goal.write-returns-then-k-eq9
write-returns-then-k-eq9 t c =
    let w = c.requires in
    parens_writes w (parens_binds w.binds _ c.kind-k.ensures c.if-k-eq9.true) c.write.ensures

pub write-write_null_test-requires : goal.write-write_null_test-requires
write-write_null_test-requires t c =
    (omega arith, (c.requires, (c.kind-k.ensures, (omega arith, c.if-k-lt12.true))))

pub write-returns-then-k-lt12 : goal.write-returns-then-k-lt12
write-returns-then-k-lt12 t c = c.write_null_test.ensures

pub write-write_unary-requires : goal.write-write_unary-requires
write-write_unary-requires t c =
    (omega arith, (c.requires, (c.kind-k.ensures, (c.if-k-lt12.false, c.if-k-ge16.false))))

pub write-returns : goal.write-returns
write-returns t c = c.write_unary.ensures

pub write_binary-overflow_sub-right : goal.write_binary-overflow_sub-right
write_binary-overflow_sub-right t c =
    (last_operand (known c.type_inv.e) c.requires.writable.node _ c.requires.k_value.0 (omega arith)).0

pub write_binary-span-requires : goal.write_binary-span-requires
write_binary-span-requires t c =
    (last_operand (known c.type_inv.e) c.requires.writable.node _ c.requires.k_value.0 (omega arith)).1

pub write_binary-overflow_sub-left : goal.write_binary-overflow_sub-left
write_binary-overflow_sub-left t c =
    let o = first_operand (known c.type_inv.e) c.requires.writable.node _ c.requires.k_value.0 _ c.span.ensures c.requires.k_value.1 in
    omega (arith, o.0)

pub write_binary-write-a-requires : goal.write_binary-write-a-requires
write_binary-write-a-requires t c =
    let w = c.requires.writable in
    let o = first_operand (known c.type_inv.e) w.node _ c.requires.k_value.0 _ c.span.ensures c.requires.k_value.1 in
    (omega (arith, o.0), left_writable w (binary_binds w.binds _ c.requires.k_value.0 c.requires.k_value.1 _ c.span.ensures) o.1)

pub write_binary-overflow_mul-nodes : goal.write_binary-overflow_mul-nodes
write_binary-overflow_mul-nodes t c =
    let w = c.requires.writable in
    omega (arith, left_rows w (binary_binds w.binds _ c.requires.k_value.0 c.requires.k_value.1 _ c.span.ensures) c.write-a.ensures)

pub write_binary-overflow_add-row : goal.write_binary-overflow_add-row
write_binary-overflow_add-row t c =
    let w = c.requires.writable in
    omega (arith, left_rows w (binary_binds w.binds _ c.requires.k_value.0 c.requires.k_value.1 _ c.span.ensures) c.write-a.ensures)

pub write_binary-overflow_add-content : goal.write_binary-overflow_add-content
write_binary-overflow_add-content t c =
    let w = c.requires.writable in
    omega (arith, left_contents w (binary_binds w.binds _ c.requires.k_value.0 c.requires.k_value.1 _ c.span.ensures) c.write-a.ensures)

pub write_binary-overflow_add-from : goal.write_binary-overflow_add-from
write_binary-overflow_add-from t c =
    let w = c.requires.writable in
    omega (arith, w.front, left_contents w (binary_binds w.binds _ c.requires.k_value.0 c.requires.k_value.1 _ c.span.ensures) c.write-a.ensures)

pub write_binary-write-b-requires : goal.write_binary-write-b-requires
write_binary-write-b-requires t c =
    let w = c.requires.writable in
    let u = binary_binds w.binds _ c.requires.k_value.0 c.requires.k_value.1 _ c.span.ensures in
    let o = last_operand (known c.type_inv.e) w.node _ c.requires.k_value.0 (omega arith) in
    (omega (arith, o.0), right_writable w u o.1 (first w u c.write-a.ensures))

pub write_binary-two_operands-m-requires : goal.write_binary-two_operands-m-requires
write_binary-two_operands-m-requires t c =
    let w = c.requires.writable in
    let u = binary_binds w.binds _ c.requires.k_value.0 c.requires.k_value.1 _ c.span.ensures in
    ((c.requires.k_value.1, known_kind (known c.type_inv.e) w.node _ c.requires.k_value.0), bin_fine w u c.write-a.ensures c.write-b.ensures)

pub write_binary-overflow_sub-k : goal.write_binary-overflow_sub-k
write_binary-overflow_sub-k t c = omega (arith, c.requires.k_value.1)

pub write_binary-overflow_add-nodes : goal.write_binary-overflow_add-nodes
write_binary-overflow_add-nodes t c =
    let w = c.requires.writable in
    let u = binary_binds w.binds _ c.requires.k_value.0 c.requires.k_value.1 _ c.span.ensures in
    omega (arith, bin_sums w u c.write-a.ensures c.write-b.ensures)

pub write_binary-overflow_add-bytes : goal.write_binary-overflow_add-bytes
write_binary-overflow_add-bytes t c =
    let w = c.requires.writable in
    let u = binary_binds w.binds _ c.requires.k_value.0 c.requires.k_value.1 _ c.span.ensures in
    omega (arith, bin_sums w u c.write-a.ensures c.write-b.ensures)

pub write_binary-put_root-requires : goal.write_binary-put_root-requires
write_binary-put_root-requires t c =
    let w = c.requires.writable in
    let u = binary_binds w.binds _ c.requires.k_value.0 c.requires.k_value.1 _ c.span.ensures in
    bin_root w u c.write-a.ensures c.write-b.ensures

pub write_binary-shape_of-out : goal.write_binary-shape_of-out
write_binary-shape_of-out t c =
    let w = c.requires.writable in
    let u = binary_binds w.binds _ c.requires.k_value.0 c.requires.k_value.1 _ c.span.ensures in
    bin_long w u c.write-a.ensures c.write-b.ensures c.put_root.ensures

pub write_binary-returns : goal.write_binary-returns
write_binary-returns t c =
    let w = c.requires.writable in
    let u = binary_binds w.binds _ c.requires.k_value.0 c.requires.k_value.1 _ c.span.ensures in
    bin_writes w u c.write-a.ensures c.write-b.ensures c.two_operands-m.ensures c.put_root.ensures

pub write_null_test-overflow_sub-i : goal.write_null_test-overflow_sub-i
write_null_test-overflow_sub-i t c =
    (last_operand (known c.type_inv.e) c.requires.writable.node _ c.requires.k_value.0 (omega arith)).0

pub write_null_test-write-a-requires : goal.write_null_test-write-a-requires
write_null_test-write-a-requires t c =
    let w = c.requires.writable in
    let o = last_operand (known c.type_inv.e) w.node _ c.requires.k_value.0 (omega arith) in
    (omega (arith, o.0), un_writable w (null_binds w.binds _ c.requires.k_value.0 c.requires.k_value.1.0 c.requires.k_value.1.1) o.1)

pub write_null_test-overflow_sub-k : goal.write_null_test-overflow_sub-k
write_null_test-overflow_sub-k t c = omega (arith, c.requires.k_value.1.0)

pub write_null_test-put_root-requires : goal.write_null_test-put_root-requires
write_null_test-put_root-requires t c =
    let w = c.requires.writable in
    un_root w (null_binds w.binds _ c.requires.k_value.0 c.requires.k_value.1.0 c.requires.k_value.1.1) c.write-a.ensures

pub write_null_test-returns : goal.write_null_test-returns
write_null_test-returns t c =
    let w = c.requires.writable in
    let k = c.requires.k_value.1 in
    null_writes w (null_binds w.binds _ c.requires.k_value.0 k.0 k.1) c.write-a.ensures k.0 k.1 c.null_test.ensures c.put_root.ensures

pub write_unary-overflow_sub-below : goal.write_unary-overflow_sub-below
write_unary-overflow_sub-below t c =
    (last_operand (known c.type_inv.e) c.requires.writable.node _ c.requires.k_value.0 (omega arith)).0

pub write_unary-signs_number-requires : goal.write_unary-signs_number-requires
write_unary-signs_number-requires t c =
    (last_operand (known c.type_inv.e) c.requires.writable.node _ c.requires.k_value.0 (omega arith)).1

pub write_unary-text-requires : goal.write_unary-text-requires
write_unary-text-requires t c =
    (last_operand (known c.type_inv.e) c.requires.writable.node _ c.requires.k_value.0 (omega arith)).1

pub write_unary-put_number-l-requires : goal.write_unary-put_number-l-requires
write_unary-put_number-l-requires t c =
    let w = c.requires.writable in
    rw c.text.ensures (leaf_room w (number_binds w.binds _ c.requires.k_value.0 c.requires.k_value.1.0 (sym c.signs_number.ensures ∙ c.if-signs_number.true)))

pub write_unary-overflow_sub-l : goal.write_unary-overflow_sub-l
write_unary-overflow_sub-l t c =
    let w = c.requires.writable in
    leaf_end w (number_binds w.binds _ c.requires.k_value.0 c.requires.k_value.1.0 (sym c.signs_number.ensures ∙ c.if-signs_number.true)) (rw c.text.ensures at c.put_number-l.ensures)

pub write_unary-put_root-requires : goal.write_unary-put_root-requires
write_unary-put_root-requires t c =
    let w = c.requires.writable in
    leaf_root w (number_binds w.binds _ c.requires.k_value.0 c.requires.k_value.1.0 (sym c.signs_number.ensures ∙ c.if-signs_number.true)) (rw c.text.ensures at c.put_number-l.ensures)

pub write_unary-returns-then-signs_number : goal.write_unary-returns-then-signs_number
write_unary-returns-then-signs_number t c =
    let w = c.requires.writable in
    leaf_writes w (number_binds w.binds _ c.requires.k_value.0 c.requires.k_value.1.0 (sym c.signs_number.ensures ∙ c.if-signs_number.true)) (rw c.text.ensures at c.put_number-l.ensures) c.put_root.ensures

pub write_unary-write-a-requires : goal.write_unary-write-a-requires
write_unary-write-a-requires t c =
    let w = c.requires.writable in
    let o = last_operand (known c.type_inv.e) w.node _ c.requires.k_value.0 (omega arith) in
    (omega (arith, o.0), un_writable w (operator_binds w.binds _ c.requires.k_value.0 c.requires.k_value.1.0 c.requires.k_value.1.1 (sym c.signs_number.ensures ∙ c.if-signs_number.false)) o.1)

pub write_unary-one_operand-m-requires : goal.write_unary-one_operand-m-requires
write_unary-one_operand-m-requires t c =
    let w = c.requires.writable in
    (c.requires.k_value.1, un_fine w (operator_binds w.binds _ c.requires.k_value.0 c.requires.k_value.1.0 c.requires.k_value.1.1 (sym c.signs_number.ensures ∙ c.if-signs_number.false)) c.write-a.ensures)

pub write_unary-overflow_sub-k : goal.write_unary-overflow_sub-k
write_unary-overflow_sub-k t c = omega (arith, c.requires.k_value.1.0)

pub write_unary-put_root-requires-2 : goal.write_unary-put_root-requires-2
write_unary-put_root-requires-2 t c =
    let w = c.requires.writable in
    un_root w (operator_binds w.binds _ c.requires.k_value.0 c.requires.k_value.1.0 c.requires.k_value.1.1 (sym c.signs_number.ensures ∙ c.if-signs_number.false)) c.write-a.ensures

pub write_unary-returns : goal.write_unary-returns
write_unary-returns t c =
    let w = c.requires.writable in
    operator_writes w (operator_binds w.binds _ c.requires.k_value.0 c.requires.k_value.1.0 c.requires.k_value.1.1 (sym c.signs_number.ensures ∙ c.if-signs_number.false)) c.write-a.ensures c.one_operand-m.ensures c.put_root-2.ensures
