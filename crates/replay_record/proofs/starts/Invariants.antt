-- `replay_record::starts` meets its contract. The invariant: `at` is where part i starts, and a length of four bytes is small.
use mathlib.Core.Path.{◌≡◌}
use Prim.Native.Nat.{◌+◌, ◌*◌, ◌≤◌}
use Rattle.replay_record.specs.Layout.{starts}
use Rattle.replay_record.proofs.starts.Given as goal

abbrev pub invariant-loop-i : goal.invariant-loop-i
invariant-loop-i l = (l.at ≡ starts l.k l.i l.s) × (l.at ≤ 21 + l.i * 4294967296)
