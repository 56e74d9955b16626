-- `bytes_bundle::part` meets its contract. The invariant: part i begins at `at`. The measure is how many parts are left before part k.
use Prim.Native.Nat.{◌-◌, ◌≤◌}
use Rattle.bytes_bundle.specs.Bundle.{PartAt}
use Rattle.bytes_bundle.proofs.part.Given as goal

abbrev pub invariant-loop-i : goal.invariant-loop-i
invariant-loop-i l = (l.i ≤ l.k) × PartAt l.w l.s l.i l.at

abbrev pub decreases-loop-i : goal.decreases-loop-i
decreases-loop-i l = l.k - l.i
