-- `op_run::run_bound` meets its contract: a bound statement is an UPDATE, or is not run.
use Rattle.bytes_bundle.specs.Decides.{failed, passed}
use Rattle.bytes_bundle.specs.Held.{is_held}
use Rattle.image_parts.specs.Layout as layout
use Rattle.op_reply.specs.Leaves.{leaves_as_it_was, leaves_same}
use Rattle.op_run.specs.Asked.{Asked, runnable_is}
use Rattle.op_run.specs.Runs.{run_no_update, run_update}
use Rattle.op_run.specs.Stands.{stands}
use Rattle.op_run.proofs.run_bound.Goals.{Else-not-runnable}
use Rattle.std.proofs.Common.{refl, ap}
use Rattle.std.proofs.Common.{not}
use Rattle.op_run.proofs.run_bound.Goals as goal

pub runnable-requires : goal.runnable-requires
runnable-requires c = is_held {f = layout.statement} c.requires.both.holds

pub returns-then-not-runnable : goal.returns-then-not-runnable
returns-then-not-runnable c =
    let p = c.requires in
    leaves_as_it_was
    (run_no_update _ _ _ _ p (failed (c.runnable.ensures p.both.tables p.both.value p.value p.both.holds p.gives) (ap not c.if-not-runnable.true)))
    refl

-- behind the test: what is run
change : (c : Else-not-runnable) → Asked c.requires.both.tables c.requires.both.value
change c =
    let p = c.requires in
    runnable_is p.both.tables p.both.value (passed (c.runnable.ensures p.both.tables p.both.value p.value p.both.holds p.gives) (ap not c.if-not-runnable.false))

pub kind_body-requires : goal.kind_body-requires
kind_body-requires c = is_held {f = layout.statement} c.requires.both.holds

pub run_update-requires : goal.run_update-requires
run_update-requires c =
    let a = change (goal.at.run_update-requires c).Else-not-runnable in
    record { value = a.value; is = stands c.requires.both a.runs c.kind_body.ensures }

pub returns : goal.returns
returns c =
    let a = change (goal.at.returns c).Else-not-runnable in
    let p = c.requires in
    leaves_same (run_update _ _ _ _ p a.is) (c.run_update.ensures a.value (stands p.both a.runs c.kind_body.ensures))
