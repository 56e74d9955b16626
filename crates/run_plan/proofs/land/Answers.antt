-- `run_plan::land` meets its contract.
use mathlib.Core.Path.{sym, ap, ◌∙◌}
use Rattle.bind_update.specs.Targets.{target_column, targeted_is, targeted_off}
use Rattle.bind_update.specs.Within.{assignment_target_lem, assignment_value}
use Rattle.run_plan.specs.Runs.{placed, land_fault, land_off, land_on}
use Rattle.run_plan.proofs.land.Goals as goal

pub work_out-requires : goal.work_out-requires
work_out-requires c = let p = c.requires in (p.0, assignment_value p.1 c.value_of.ensures)

pub returns-in_err-work_out : goal.returns-in_err-work_out
returns-in_err-work_out c = λ v x y hv hx hy.
    c.from_residual.ensures
    ∙ ap placed (sym (land_fault v x y c.in_err-work_out.was (c.work_out.ensures.comes v hv x hx y.value (c.value_of.ensures y hy))))

pub target_column-requires : goal.target_column-requires
target_column-requires c =
    let p = c.requires in
    (p.0.schema, assignment_target_lem p.1 c.target_of.ensures)

pub returns-in-Ok : goal.returns-in-Ok
returns-in-Ok c = λ v x y hv hx hy.
    let g = targeted_is (target_column v y.target) (c.target_column.ensures v y.target hv (c.target_of.ensures y hy)) c.in-Ok.is in
    ap placed (sym (land_on v x y c.in_ok-work_out.was (c.work_out.ensures.comes v hv x hx y.value (c.value_of.ensures y hy)) g))

pub returns-in-Err : goal.returns-in-Err
returns-in-Err c = λ v x y hv hx hy.
    ap placed (sym (land_off v x y (targeted_off (target_column v y.target) (c.target_column.ensures v y.target hv (c.target_of.ensures y hy)) c.in-Err.is)))
