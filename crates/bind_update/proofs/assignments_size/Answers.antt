-- `bind_update::assignments_size` meets its contract. The invariant: the sum is the length of the list of what the assignments so far are bound to.
use mathlib.Core.Path.{◌≡◌, ap, ◌∙◌}
use mathlib.Core.Logic.{inl}
use Prim.Native.Nat.{ℕ}
use native.Mathlib.Omega.{arith}
use lib.ListN.{length}
use Rattle.std.specs.Iterator.Adapters.{enumerate_count, enumerate_source}
use Rattle.image_bound.specs.Layout as layout
use Rattle.bytes_format.proofs.Formats.{list_of}
use Rattle.bytes_bundle.specs.declared.parts_iter.Parts.{Parts}
use Rattle.bytes_bundle.specs.Left.{parts_left}
use Rattle.bytes_bundle.specs.Held.{list_bundle}
use Rattle.bytes_bundle.specs.Numbered.{left_count, reached, reached_part, reached_on, reached_end}
use Rattle.bind_repeats.specs.Repeats.{is_at}
use Rattle.image_parts.specs.Layout.{assignment}
use Rattle.std.proofs.lemmas.Result.{IfOk-from_err}
use Rattle.bind_table.specs.Steps.{sized_handed}
use Rattle.bind_update.specs.Within.{assignment_short, assignments_targets}
use Rattle.bind_update.proofs.Turns.{few_parts, measuring_none, measuring_off, measuring_on, measuring_end}
use borrow.Author.Rules.{rules}
use Rattle.bind_update.proofs.assignments_size.Goals as goal

pub first_repeated-place-requires : goal.first_repeated-place-requires
first_repeated-place-requires c = assignments_targets c.requires.1

pub iter-requires : goal.iter-requires
iter-requires c = (search rules, list_bundle assignment c.requires.1.is)

pub loop-i-init : goal.loop-i-init
loop-i-init c =
    let n : enumerate_count c.into_iter-i-iterator.result ≡ 0 = cc in
    rw n (reached (cc), omega arith, omega (arith, c.count_len-sum.ensures.0), rw c.count_len-sum.ensures.0 measuring_none)

pub loop-i-init-derived : goal.loop-i-init-derived
loop-i-init-derived c =
    let n : enumerate_count c.into_iter-i-iterator.result ≡ 0 = cc in
    let e : enumerate_source c.into_iter-i-iterator.result ≡ c.iter.result = cc in
    let k = ap (λ (p : Parts). length (parts_left p)) e ∙ left_count c.iter.result in
    ((tt, tt, inl (omega (arith, k, c.iter.type_inv))), tt)

pub assignment_size-requires : goal.assignment_size-requires
assignment_size-requires c = (c.requires.0.is, assignment_short c.requires.1 (reached_part c.loop-i.invariant.0 c.in-Some.ensures.steps.0))

pub overflow_add-sum : goal.overflow_add-sum
overflow_add-sum c = omega (arith, c.count_len.ensures.0, c.in_ok-sum.ensures.few)

pub overflow_add-sum-in-loop-i : goal.overflow_add-sum-in-loop-i
overflow_add-sum-in-loop-i c =
    omega (arith, c.count_len.ensures.0, c.in_ok-sum.ensures.few, c.loop-i.invariant.1, c.loop-i.invariant.2, few_parts c.requires.1)

pub returns-in_err-sum : goal.returns-in_err-sum
returns-in_err-sum c = record {
  few = IfOk-from_err _ _ c.from_residual.ensures.0;
  told = λ v xs hv hs.
      let h = c.in-Some.ensures.steps in
      sized_handed (list_of 4 layout.assignment) c.from_residual.ensures.1
      (measuring_off c.requires.0 c.loop-i.invariant.3 c.first_repeated-place.ensures (reached_part c.loop-i.invariant.0 h.0)
      (c.is_at.ensures ∙ ap (λ (i : ℕ). is_at i c.first_repeated-place.result) h.1) c.assignment_size.ensures.told c.in_err-sum.was v xs hv hs);
}

pub loop-i-preserved : goal.loop-i-preserved
loop-i-preserved c =
    let h = c.in-Some.ensures.steps in
    let d = reached_part c.loop-i.invariant.0 h.0 in
    rw h.2 (
      reached_on c.loop-i.invariant.0 h.0,
      omega (arith, d.few),
      omega (arith, c.count_len.ensures.0, c.in_ok-sum.ensures.few, c.loop-i.invariant.2),
      rw c.count_len.ensures.0 (measuring_on c.requires.0 c.loop-i.invariant.3 c.first_repeated-place.ensures d
          (c.is_at.ensures ∙ ap (λ (i : ℕ). is_at i c.first_repeated-place.result) h.1) c.assignment_size.ensures.told c.in_ok-sum.was),
    )

pub returns : goal.returns
returns c = record {
  few = omega (arith, c.loop-i.invariant.1, c.loop-i.invariant.2, few_parts c.requires.1);
  told = measuring_end c.loop-i.invariant.3 (reached_end c.loop-i.invariant.0 c.in-None.ensures.steps.0.0);
}
