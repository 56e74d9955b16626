-- `pairs::bools` meets its contract.
use native.Mathlib.Omega.{arith}
use Rattle.run_values.proofs.Rules.{bools_none}
use Rattle.run_values.proofs.pairs.bools.Goals as goal

pub returns-in_default : goal.returns-in_default
returns-in_default c = bools_none c.requires.0 c.requires.1 c.args.m c.args.n (λ e. omega arith) (λ e. omega arith) (λ e. omega arith) (λ e. omega arith)
