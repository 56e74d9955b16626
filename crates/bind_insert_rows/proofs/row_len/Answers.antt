-- `bind_insert_rows::row_len` meets its contract. The invariant: how long the values so far are, and what is left of the row.
use mathlib.Core.Path.{◌≡◌, sym, ap, ◌∙◌}
use mathlib.Core.Logic.{inl}
use mathlib.Core.List.{List}
use Prim.Native.Nat.{ℕ, ◌<◌}
use native.Mathlib.Omega.{arith}
use lib.ListN.{length, get_or}
use Rattle.std.specs.Prelude.{Result}
use Rattle.std.specs.Iterator.Adapters.{enumerate_count, enumerate_source}
use Rattle.bytes_bundle.specs.declared.parts_iter.Parts.{Parts}
use Rattle.bytes_bundle.specs.Left.{parts_left}
use Rattle.bytes_bundle.specs.Held.{Holds, list_bundle, list_count}
use Rattle.bytes_bundle.specs.Numbered.{left_count, reached, reached_part, reached_on, reached_end, valued_is}
use Rattle.image_expression.specs.Expression.{expression}
use Rattle.image_value.specs.Parts.{value}
use Rattle.rules.specs.declared.Refusal.{Refusal}
use Rattle.rules.specs.Bound.{BoundColumnRef}
use Rattle.rules.specs.Statements.{Expr}
use Rattle.bind_literal.specs.Scalars.{known}
use Rattle.bind_insert_rows.specs.Values.{insert_value, valued_none, valued_on, valued_off, valued_end, row_on, row_off}
use Rattle.std.proofs.lemmas.Result.{IfOk-from_err}
use Rattle.bind_table.specs.Steps.{handed_on}
use Rattle.bind_table.specs.Told.{sized}
use Rattle.bind_insert_columns.specs.Coded.{column_code}
use Rattle.bind_insert_columns.specs.Small.{part_small}
use borrow.Author.Rules.{rules}
use Rattle.bind_insert_rows.proofs.row_len.Goals as goal

-- a value is held against the code at its own number
code_read : (codes p : List ℕ) {i j : ℕ} {m : Result ℕ Refusal} → i ≡ j
    → ((x : Expr) (c : BoundColumnRef) → Holds expression p x → get_or codes i 0 ≡ column_code c → m ≡ sized value (insert_value x c))
    → (x : Expr) (c : BoundColumnRef) → Holds expression p x → get_or codes j 0 ≡ column_code c → m ≡ sized value (insert_value x c)
code_read codes p e f x c h k = f x c h (ap (λ (n : ℕ). get_or codes n 0) e ∙ k)

pub parts-requires : goal.parts-requires
parts-requires c = (search rules, list_bundle expression c.requires.0)

pub returns-then-parts-n : goal.returns-then-parts-n
returns-then-parts-n c =
    let p = c.parts.ensures in (
      tt,
      λ cs es b q h. row_off cs es (λ z. c.if-parts-n.true (p ∙ sym (list_count expression c.args.row.now h) ∙ z ∙ sym q)),
    )

pub iter-requires : goal.iter-requires
iter-requires c = (search rules, list_bundle expression c.requires.0)

pub loop-j-init : goal.loop-j-init
loop-j-init c =
    let n : enumerate_count c.into_iter-j-iterator.result ≡ 0 = cc in
    rw n (reached (cc), omega arith, omega arith, valued_none)

pub loop-j-init-derived : goal.loop-j-init-derived
loop-j-init-derived c =
    let n : enumerate_count c.into_iter-j-iterator.result ≡ 0 = cc in
    let e : enumerate_source c.into_iter-j-iterator.result ≡ c.iter.result = cc in
    let k = ap (λ (p : Parts). length (parts_left p)) e ∙ left_count c.iter.result in
    ((tt, tt, inl (omega (arith, k, c.iter.type_inv))), tt)

pub bounds-codes-j : goal.bounds-codes-j
bounds-codes-j c =
    let d = reached_part c.loop-j.invariant.0 c.in-Some.ensures.steps.0 in
    omega (arith, c.in-Some.ensures.steps.1, d.few, c.parts.ensures, c.if-parts-n.false, c.requires.1)

pub value_len-requires : goal.value_len-requires
value_len-requires c =
    let d = reached_part c.loop-j.invariant.0 c.in-Some.ensures.steps.0 in
    (valued_is expression d c.requires.0, omega (arith, part_small (known c.type_inv.row) (list_bundle expression c.requires.0) d))

pub overflow_add-total : goal.overflow_add-total
overflow_add-total c = omega (arith, c.in_ok-total.ensures.0)

pub overflow_add-total-in-loop-j : goal.overflow_add-total-in-loop-j
overflow_add-total-in-loop-j c = omega (arith, c.in_ok-total.ensures.0, c.loop-j.invariant.2, c.loop-j.invariant.1, c.requires.1)

pub returns-in_err-total : goal.returns-in_err-total
returns-in_err-total c = (
  IfOk-from_err _ _ c.from_residual.ensures.0,
  λ cs es b q h.
      let d = reached_part c.loop-j.invariant.0 c.in-Some.ensures.steps.0 in
      handed_on c.from_residual.ensures.1 ∙ row_on cs es (list_count expression c.args.row.now h ∙ sym c.parts.ensures ∙ c.if-parts-n.false ∙ q)
      (valued_off c.loop-j.invariant.3 d (omega (arith, d.few, c.parts.ensures, c.if-parts-n.false)) (code_read _ _ c.in-Some.ensures.steps.1 c.value_len.ensures.1) c.in_err-total.was cs es b q h),
)

pub loop-j-preserved : goal.loop-j-preserved
loop-j-preserved c =
    let h = c.in-Some.ensures.steps in
    let d = reached_part c.loop-j.invariant.0 h.0 in
    let w : enumerate_count c.loop-j.j-iterator < c.args.n = omega (arith, d.few, c.parts.ensures, c.if-parts-n.false) in
    rw h.2 (
      reached_on c.loop-j.invariant.0 h.0,
      omega (arith, w),
      omega (arith, c.in_ok-total.ensures.0, c.loop-j.invariant.2),
      valued_on c.loop-j.invariant.3 d w (code_read _ _ h.1 c.value_len.ensures.1) c.in_ok-total.was,
    )

pub returns : goal.returns
returns c =
    let z = reached_end c.loop-j.invariant.0 c.in-None.ensures.steps.0.0 in (
      omega (arith, c.loop-j.invariant.1, c.loop-j.invariant.2, c.requires.1),
      λ cs es b q h. row_on cs es (list_count expression c.args.row.now h ∙ sym c.parts.ensures ∙ c.if-parts-n.false ∙ q)
          (valued_end c.loop-j.invariant.3 (omega (arith, z, c.parts.ensures, c.if-parts-n.false)) cs es b q h),
    )
