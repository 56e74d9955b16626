-- `bind_insert_columns::bind_columns` meets its contract. The invariant: the columns so far are bound and their bytes stand in the array.
use mathlib.Core.Path.{◌≡◌, refl, sym, ap, ◌∙◌}
use mathlib.Core.Logic.{inl}
use Prim.Native.Nat.{ℕ}
use native.Mathlib.Omega.{arith}
use lib.ListN.{length, length-set}
use Rattle.std.specs.Iterator.Adapters.{enumerate_count, enumerate_source}
use Rattle.bytes_bundle.specs.declared.parts_iter.Parts.{Parts}
use Rattle.bytes_bundle.specs.Left.{parts_left}
use Rattle.bytes_bundle.specs.Held.{list_bundle}
use Rattle.bytes_bundle.specs.Numbered.{left_count, reached, reached_part, reached_on, reached_end}
use Rattle.image_parts.specs.Layout.{name}
use Rattle.bind_repeats.specs.Repeats.{is_at}
use Rattle.bind_insert_columns.specs.Columns.{name_at, column_within, bound_off, binding, bind_repeated, bind_unknown, bind_more, bind_end}
use borrow.Author.Rules.{rules}
use Rattle.bind_insert_columns.proofs.bind_columns.Goals.{After-find_target}
use Rattle.bind_insert_columns.proofs.bind_columns.Goals as goal

pub first_repeated-place-requires : goal.first_repeated-place-requires
first_repeated-place-requires c = c.requires.1.0.names

pub iter-requires : goal.iter-requires
iter-requires c = (search rules, list_bundle name c.requires.1.0.names.is)

pub loop-i-init : goal.loop-i-init
loop-i-init c =
    let n : enumerate_count c.into_iter-i-iterator.result ≡ 0 = cc in
    rw n (reached (cc), omega arith, omega arith, binding, c.requires.1.1)

pub loop-i-init-derived : goal.loop-i-init-derived
loop-i-init-derived c =
    let n : enumerate_count c.into_iter-i-iterator.result ≡ 0 = cc in
    let e : enumerate_source c.into_iter-i-iterator.result ≡ c.iter.result = cc in
    let k = ap (λ (p : Parts). length (parts_left p)) e ∙ left_count c.iter.result in
    ((tt, tt, inl (omega (arith, k, c.iter.type_inv))), tt)

pub returns-then-is_at : goal.returns-then-is_at
returns-then-is_at c = (
  tt,
  λ v ns ht hs.
      let h = c.in-Some.ensures.steps in
      let q = ap (λ (i : ℕ). is_at i c.first_repeated-place.result) (sym h.1) ∙ sym c.is_at.ensures ∙ c.if-is_at.true in
      bound_off refl (bind_repeated c.loop-i.invariant.3 (reached_part c.loop-i.invariant.0 h.0) c.first_repeated-place.ensures q v ns ht hs),
)

pub find_target-requires : goal.find_target-requires
find_target-requires c = (c.requires.0, name_at c.requires.1.0.names (reached_part c.loop-i.invariant.0 c.in-Some.ensures.steps.0))

pub bounds-codes-i : goal.bounds-codes-i
bounds-codes-i c =
    let h = c.in-Some.ensures.steps in
    let d = reached_part c.loop-i.invariant.0 h.0 in
    omega (arith, h.1, d.few, c.requires.1.0.few)

pub column_ref_len-requires : goal.column_ref_len-requires
column_ref_len-requires c =
    omega (arith, column_within c.requires.0 (name_at c.requires.1.0.names (reached_part c.loop-i.invariant.0 c.in-Some.ensures.steps.0)) c.find_target.ensures c.in-Some-find_target.is)

pub overflow_add-total : goal.overflow_add-total
overflow_add-total c =
    let w = column_within c.requires.0 (name_at c.requires.1.0.names (reached_part c.loop-i.invariant.0 c.in-Some.ensures.steps.0)) c.find_target.ensures c.in-Some-find_target.is in
    omega (arith, c.column_ref_len.ensures.0, w)

pub overflow_add-total-in-loop-i : goal.overflow_add-total-in-loop-i
overflow_add-total-in-loop-i c =
    let w = column_within c.requires.0 (name_at c.requires.1.0.names (reached_part c.loop-i.invariant.0 c.in-Some.ensures.steps.0)) c.find_target.ensures c.in-Some-find_target.is in
    omega (arith, c.column_ref_len.ensures.0, w, c.loop-i.invariant.2, c.loop-i.invariant.1, c.requires.1.0.few)

pub returns-in_default : goal.returns-in_default
returns-in_default c = (
  tt,
  λ v ns ht hs.
      let h = c.in-Some.ensures.steps in
      let q = ap (λ (i : ℕ). is_at i c.first_repeated-place.result) (sym h.1) ∙ sym c.is_at.ensures ∙ c.if-is_at.false in
      bound_off refl (bind_unknown c.loop-i.invariant.3 (reached_part c.loop-i.invariant.0 h.0) c.first_repeated-place.ensures q c.find_target.ensures c.in_default.is v ns ht hs),
)

pub loop-i-preserved : goal.loop-i-preserved
loop-i-preserved c =
    let h = c.in-Some.ensures.steps in
    let d = reached_part c.loop-i.invariant.0 h.0 in
    let q = ap (λ (i : ℕ). is_at i c.first_repeated-place.result) (sym h.1) ∙ sym c.is_at.ensures ∙ c.if-is_at.false in
    let w = column_within c.requires.0 (name_at c.requires.1.0.names d) c.find_target.ensures c.in-Some-find_target.is in
    rw (h.2, h.1) (
      reached_on c.loop-i.invariant.0 h.0,
      omega (arith, d.few),
      omega (arith, c.column_ref_len.ensures.0, w, c.loop-i.invariant.2),
      bind_more c.loop-i.invariant.3 d c.first_repeated-place.ensures q c.find_target.ensures c.in-Some-find_target.is c.code_of.ensures
          c.column_ref_len.ensures.1 (omega (arith, c.loop-i.invariant.4, d.few, c.requires.1.0.few)),
      length-set _ _ _ ∙ c.loop-i.invariant.4,
    )

pub returns : goal.returns
returns c = (
  omega (arith, c.loop-i.invariant.1, c.loop-i.invariant.2, c.requires.1.0.few),
  bind_end c.loop-i.invariant.3 c.loop-i.invariant.1 (reached_end c.loop-i.invariant.0 c.in-None.ensures.steps.0.0),
)
