-- `replay_record::is_case` meets its contract.
use mathlib.Core.Path.{ap, ◌∙◌}
use Prim.Native.Nat.{ℕ}
use native.Mathlib.Omega.{arith}
use lib.Dec.{leb}
use Rattle.replay_record.specs.Layout.{most}
use Rattle.replay_record.specs.Cases.{case_headless, case_cut, case_there}
use Rattle.replay_record.proofs.is_case.Goals as goal

pub returns-then-s-k : goal.returns-then-s-k
returns-then-s-k c = case_headless c.args.k c.args.s.now (omega arith)

pub returns-then-s-starts : goal.returns-then-s-starts
returns-then-s-starts c = case_cut c.args.k c.args.s.now (omega arith) (omega (arith, c.starts.ensures))

pub returns : goal.returns
returns c =
    ap (λ (n : ℕ). leb n most) c.size.ensures.is
    ∙ case_there c.args.k c.args.s.now (omega arith) (omega (arith, c.starts.ensures))
