-- `bind_repeats::first_repeated` meets its contract. The invariants: no entry before the one at hand repeats an earlier one; no entry passed by the inner loop is like the one at hand.
use Prim.Native.Nat.{◌-◌, ◌≤◌}
use lib.ListN.{take, drop}
use mathlib.Core.Path.{◌≡◌}
use Rattle.bytes_bundle.specs.Held.{Along}
use Rattle.std.specs.Prelude.{None}
use Rattle.bind_repeats.proofs.Search.{Searching, LikeNone}
use Rattle.bind_repeats.proofs.first_repeated.Given as goal

abbrev pub invariant-loop-j : goal.invariant-loop-j
invariant-loop-j l = Along l.s l.n l.j l.from × (l.j ≤ l.i) × (l.place ≡ None) × LikeNone l.of l.s (take (l.end - l.at) (drop l.at l.s)) l.j

abbrev pub decreases-loop-j : goal.decreases-loop-j
decreases-loop-j l = l.i - l.j

abbrev pub invariant-search : goal.invariant-search
invariant-search l = Along l.s l.n l.i l.at × (l.place ≡ None) × Searching l.of l.s l.i

abbrev pub decreases-search : goal.decreases-search
decreases-search l = l.n - l.i
