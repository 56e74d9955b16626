-- `run_row::write_row` meets its contract.
use mathlib.Core.Path.{sym, ap, ◌∙◌}
use native.Mathlib.Omega.{arith}
use Rattle.image_bound.specs.Written.{spelt}
use Rattle.bind_where.specs.Short.{known}
use Rattle.image_row.specs.Layout.{row}
use Rattle.run_row.specs.Updates.{some_condition, kept_room, some_plan, planned_room, given_kept, given_assigned, plan_drawn, row_drawn, row_kept}
use Rattle.run_row.proofs.write_row.Goals as goal

pub unwrap-w-requires : goal.unwrap-w-requires
unwrap-w-requires c = some_condition c.requires c.work_out.result c.work_out.ensures.comes

pub put_all-requires : goal.put_all-requires
put_all-requires c =
    omega (arith, kept_room c.requires c.work_out.result c.work_out.ensures.comes c.unwrap-w.ensures (known c.type_inv.r) (sym c.is_true.ensures ∙ c.if-not-is_true.true))

pub returns-then-not-is_true : goal.returns-then-not-is_true
returns-then-not-is_true c = λ v xs y x z hv hs hy hx g.
    let h = sym c.is_true.ensures ∙ c.if-not-is_true.true in
    spelt (row_kept (known c.type_inv.r) hx
    ∙ ap row.write (given_kept v y xs x c.work_out.result (c.work_out.ensures.comes v hv x hx y hy) c.unwrap-w.ensures g h)) c.put_all.ensures

pub unwrap-from-requires : goal.unwrap-from-requires
unwrap-from-requires c =
    some_plan c.requires c.work_out.result c.work_out.ensures.comes c.unwrap-w.ensures (sym c.is_true.ensures ∙ c.if-not-is_true.false) c.plan.result c.plan.ensures

pub put_values-requires : goal.put_values-requires
put_values-requires c =
    let k = c.requires in
    ((k.runnable.runs, k.runnable.names), planned_room k c.work_out.result c.work_out.ensures.comes c.unwrap-w.ensures (sym c.is_true.ensures ∙ c.if-not-is_true.false) c.plan.result c.plan.ensures c.unwrap-from.ensures)

pub returns : goal.returns
returns c = λ v xs y x z hv hs hy hx g.
    let h = sym c.is_true.ensures ∙ c.if-not-is_true.false in
    c.put_values.ensures z (row_drawn hv hx hs
    (plan_drawn c.plan.result (c.plan.ensures v x xs hv hx hs) c.unwrap-from.ensures
    (given_assigned v y xs x c.work_out.result (c.work_out.ensures.comes v hv x hx y hy) c.unwrap-w.ensures g h)))
