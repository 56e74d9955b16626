-- `write_update::put_assignment` meets its contract.
use Rattle.bytes_bundle.specs.Held.{is_held}
use Rattle.image_catalogue.specs.Layout.{table}
use Rattle.bind_update.specs.Within.{assignment_target_lem}
use Rattle.write_update.specs.Assign.{targeted_room, never_untargeted, wrote_targeted}
use Rattle.write_update.proofs.put_assignment.Goals as goal

pub target_column-requires : goal.target_column-requires
target_column-requires c = (is_held {f = table} c.requires.holds, assignment_target_lem c.requires.names c.target_of.ensures)

pub put_assigned-requires : goal.put_assigned-requires
put_assigned-requires c =
    targeted_room c.requires (λ v x hv hx. c.target_column.ensures v x.target hv (c.target_of.ensures x hx)) c.in-Ok.is c.value_of.ensures

pub returns-in-Ok : goal.returns-in-Ok
returns-in-Ok c = λ v x b hv hx g.
    wrote_targeted v x (c.target_column.ensures v x.target hv (c.target_of.ensures x hx)) c.in-Ok.is g
    (λ d hd i. c.put_assigned.ensures v x.value d b.value hv (c.value_of.ensures x hx) hd i g.value)

pub returns-in-Err : goal.returns-in-Err
returns-in-Err c =
    absurd (never_untargeted c.requires (λ v x hv hx. c.target_column.ensures v x.target hv (c.target_of.ensures x hx)) c.in-Err.is)
