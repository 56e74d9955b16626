-- `replay_walk::run_differs` meets its contract: what `run` leaves is compared with the record.
use native.Mathlib.Omega.{arith}
use Rattle.replay_record.specs.Cases.{case_head}
use Rattle.replay_walk.specs.Told.{run_told}
use Rattle.replay_walk.proofs.run_differs.Goals as goal

pub bounds-s-0 : goal.bounds-s-0
bounds-s-0 c =
    omega (arith, case_head 4 c.args.s.now c.requires.0)

pub returns : goal.returns
returns c =
    run_told c.args.s.now c.part.ensures c.part-2.ensures c.part-3.ensures c.part-4.ensures c.requires.1 c.requires.2
    c.run-heard.ensures (omega (arith, c.run-heard)) c.agrees.ensures
