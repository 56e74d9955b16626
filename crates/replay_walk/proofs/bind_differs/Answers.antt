-- `replay_walk::bind_differs` meets its contract: what `bind` leaves is compared with the record.
use native.Mathlib.Omega.{arith}
use Rattle.replay_record.specs.Cases.{case_head}
use Rattle.replay_walk.specs.Told.{bind_told}
use Rattle.replay_walk.proofs.bind_differs.Goals as goal

pub bounds-s-0 : goal.bounds-s-0
bounds-s-0 c =
    omega (arith, case_head 3 c.args.s.now c.requires.0)

pub returns : goal.returns
returns c =
    bind_told c.args.s.now c.part.ensures c.part-2.ensures c.part-3.ensures c.requires.1 c.requires.2
    c.bind-heard.ensures (omega (arith, c.bind-heard)) c.agrees.ensures
