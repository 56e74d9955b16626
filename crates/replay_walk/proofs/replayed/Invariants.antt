-- `replay_walk::replayed` meets its contract. The invariant: what is counted and what is left come to the whole record.
use Prim.Native.Nat.{◌-◌}
use Rattle.replay_record.specs.Counting.{Replaying}
use Rattle.replay_walk.specs.Differs.{differs}
use Rattle.replay_walk.proofs.replayed.Given as goal

abbrev pub invariant-loop : goal.invariant-loop
invariant-loop l = Replaying (differs l.of) l.k l.bytes (l.cases - l.counter) l.rest l.tally
