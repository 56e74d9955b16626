-- `replay_record::case_length` meets its contract.
use native.Mathlib.Omega.{arith}
use Rattle.replay_record.specs.Cases.{case_head, case_end}
use Rattle.replay_record.proofs.case_length.Goals as goal

pub starts-requires : goal.starts-requires
starts-requires c =
    let a = c.args in
    (case_head a.k a.s.now c.requires.0, omega arith, omega arith)

pub returns : goal.returns
returns c =
    (c.starts.ensures, omega (arith, c.starts.ensures, case_end c.args.k c.args.s.now c.requires.0))
