-- `run_update::run_over` meets its contract: whether the row obeys the table, and then what is written.
use Rattle.bytes_bundle.specs.Decides.{failed}
use Rattle.bytes_bundle.specs.Held.{is_held}
use Rattle.image_catalogue.specs.Layout.{table}
use Rattle.image_parts.specs.Layout.{updating}
use Rattle.op_reply.specs.Leaves.{leaves_as_it_was}
use Rattle.run_update.specs.Ready.{holding, ready}
use Rattle.run_update.specs.OnRow.{update_no_row}
use Rattle.std.proofs.Common.{refl, ap}
use Rattle.std.proofs.Common.{not}
use Rattle.run_update.proofs.run_over.Goals as goal

pub obeys-requires : goal.obeys-requires
obeys-requires c = is_held {f = table} c.requires.is.holds

pub returns-then-not-obeys : goal.returns-then-not-obeys
returns-then-not-obeys c = λ u o.
    leaves_as_it_was (update_no_row u c.args.r.now _ (failed (c.obeys.ensures u.table o.holds) (ap not c.if-not-obeys.true))) refl

pub assignments-requires : goal.assignments-requires
assignments-requires c = is_held {f = updating} c.requires.is.reads

pub condition_of-requires : goal.condition_of-requires
condition_of-requires c = is_held {f = updating} c.requires.is.reads

pub run_row-requires : goal.run_row-requires
run_row-requires c = ready c.requires.is c.assignments.ensures c.condition_of.ensures c.obeys.ensures (c.if-not-obeys.false)

pub returns : goal.returns
returns c = λ u o. c.run_row.ensures u (holding o c.assignments.ensures c.condition_of.ensures)
