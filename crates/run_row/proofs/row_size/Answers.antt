-- `run_row::row_size` meets its contract.
use mathlib.Core.Path.{sym, ap, ◌∙◌}
use lib.ListN.{length}
use Rattle.bind_where.specs.Short.{known}
use Rattle.run_row.specs.Updates.{ran_fault, ran_kept, ran_unplanned, ran_planned, plan_draws, row_drawn, row_kept}
use Rattle.run_row.proofs.row_size.Goals as goal

pub returns-in_err-w : goal.returns-in_err-w
returns-in_err-w c = λ v xs y x hv hs hy hx.
    c.from_residual.ensures ∙ ran_fault v y xs x _ (c.work_out.ensures.comes v hv x hx y hy) c.in_err-w.was

pub returns-then-not-is_true : goal.returns-then-not-is_true
returns-then-not-is_true c = λ v xs y x hv hs hy hx.
    ran_kept v y xs x c.work_out.result (c.work_out.ensures.comes v hv x hx y hy) c.in_ok-w.was (sym c.is_true.ensures ∙ c.if-not-is_true.true) (ap length (row_kept (known c.type_inv.r) hx))

pub returns-in_err-from : goal.returns-in_err-from
returns-in_err-from c = λ v xs y x hv hs hy hx.
    c.from_residual-in_err-from.ensures
    ∙ ran_unplanned v y xs x c.work_out.result (c.work_out.ensures.comes v hv x hx y hy) c.in_ok-w.was (sym c.is_true.ensures ∙ c.if-not-is_true.false) c.plan.result (c.plan.ensures v x xs hv hx hs) c.in_err-from.was

pub values_len-requires : goal.values_len-requires
values_len-requires c = let k = c.requires in ((k.runs, k.names), plan_draws k.runs k.names c.plan.result c.plan.ensures c.in_ok-from.was)

pub returns : goal.returns
returns c = λ v xs y x hv hs hy hx.
    ran_planned v y xs x c.work_out.result (c.work_out.ensures.comes v hv x hx y hy) c.in_ok-w.was (sym c.is_true.ensures ∙ c.if-not-is_true.false) c.plan.result (c.plan.ensures v x xs hv hx hs) c.in_ok-from.was
    (λ z d. c.values_len.ensures z (row_drawn hv hx hs d))
