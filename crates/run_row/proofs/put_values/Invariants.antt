-- `run_row::put_values` meets its contract. The invariant: the values before position p are written, and so are their lengths.
use Rattle.run_row.specs.Turns.{Writing}
use Rattle.run_row.proofs.put_values.Given as goal

abbrev pub invariant-loop-p : goal.invariant-loop-p
invariant-loop-p l = Writing l.t l.s l.r l.from l.initial.out l.lengths l.p l.to l.body l.out
