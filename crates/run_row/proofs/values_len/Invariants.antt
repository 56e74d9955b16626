-- `run_row::values_len` meets its contract. The invariant: how long the values before position p are.
use Prim.Native.Nat.{◌+◌, ◌*◌, ◌≤◌}
use Rattle.run_row.specs.Turns.{Measuring}
use Rattle.run_row.proofs.values_len.Given as goal

abbrev pub invariant-loop-p : goal.invariant-loop-p
invariant-loop-p l = (l.sum ≤ 4 + l.p * 4294967300) × Measuring l.t l.s l.r l.from l.p l.sum
