-- `bind_select::projection_size` meets its contract. The invariant: what was added up and what is left make the whole.
use mathlib.Core.Path.{◌≡◌, sym, ap, ◌∙◌}
use native.Mathlib.Omega.{arith}
use lib.ListN.{length}
use Rattle.bytes_bundle.specs.Held.{list_bundle}
use Rattle.bytes_bundle.specs.Bundle.{parts_of}
use Rattle.bytes_bundle.specs.Left.{parts_left}
use Rattle.bytes_bundle.specs.Ahead.{ahead_from, ahead_on, ahead_stop, ahead_end}
use Rattle.std.proofs.lemmas.Result.{IfOk-from_err}
use Rattle.bind_table.specs.Steps.{handed_on}
use Rattle.image_parts.specs.Layout.{item}
use Rattle.bind_select.specs.Selects.{added_is, added_off, summed_none, summed_off, summed_on, summed_end}
use Rattle.bind_select.specs.Within.{few_items, items_left, item_here, items_behind}
use borrow.Author.Rules.{rules}
use Rattle.bind_select.proofs.projection_size.Goals as goal

pub iter-item-items-requires : goal.iter-item-items-requires
iter-item-items-requires c = let r = list_bundle item c.requires.1.is in search rules

pub loop-item-init : goal.loop-item-init
loop-item-init c =
    let e : parts_left c.into_iter-item-iterator.result ≡ parts_of 2 c.args.s.now = cc in (
      omega (arith, c.count_len-sum.ensures.0, ap length e),
      items_left c.requires.1 e,
      λ v hv. rw c.count_len-sum.ensures.0 (ahead_from e (λ xs. summed_none v xs)),
    )

pub item_size-requires : goal.item_size-requires
item_size-requires c = (c.requires.0, item_here c.loop-item.invariant.1 c.in-Some.ensures.steps)

pub overflow_add-sum : goal.overflow_add-sum
overflow_add-sum c = omega (arith, c.in_ok-sum.ensures.few, c.loop-item.invariant.0, few_items c.requires.1)

pub returns-in_err-sum : goal.returns-in_err-sum
returns-in_err-sum c = record {
  few = IfOk-from_err _ _ c.from_residual.ensures.0;
  told = λ v xs hv hx.
      let l = c.loop-item in
      handed_on c.from_residual.ensures.1
      ∙ sym (ahead_stop (l.invariant.2 v hv) c.in-Some.ensures.steps (λ x ys h. summed_off v l.sum x ys (added_off (c.item_size.ensures.told v x hv h) c.in_err-sum.was)) xs hx);
}

pub loop-item-preserved : goal.loop-item-preserved
loop-item-preserved c =
    let l = c.loop-item in
    let d = c.in-Some.ensures.steps in (
      omega (arith, c.in_ok-sum.ensures.few, l.invariant.0, ap length d),
      items_behind l.invariant.1 d,
      λ v hv. ahead_on (l.invariant.2 v hv) d (λ x ys h.
          let a = added_is (c.item_size.ensures.told v x hv h) c.in_ok-sum.was in
          summed_on v l.sum x ys a.gives a.long),
    )

pub returns : goal.returns
returns c =
    let l = c.loop-item in
    record {
      few = omega (arith, l.invariant.0, few_items c.requires.1);
      told = λ v xs hv hx. sym (ahead_end (l.invariant.2 v hv) c.in-None.ensures.steps.0 xs hx ∙ summed_end v l.sum);
    }
