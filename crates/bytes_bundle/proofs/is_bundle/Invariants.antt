-- `bytes_bundle::is_bundle` meets its contract. The invariant: the lengths that are left fill what is left of the bytes exactly where the whole is a
-- bundle. The measure is how many lengths are left.
use mathlib.Core.Path.{◌≡◌}
use Prim.Native.Nat.{◌+◌, ◌-◌, ◌*◌, ◌≤◌}
use lib.ListN.{length, drop}
use Rattle.bytes_format.proofs.Formats.{pieces}
use Rattle.bytes_bundle.specs.Bundle.{is_there}
use Rattle.bytes_bundle.specs.Contents.{lengths, fills}
use Rattle.bytes_bundle.proofs.is_bundle.Given as goal

abbrev pub invariant-loop-left : goal.invariant-loop-left
invariant-loop-left l =
    (l.to + l.left * l.w ≤ length l.s) × (l.at ≤ length l.s) × (is_there ((pieces l.w).read l.s) ≡ fills (lengths l.w l.left (drop l.to l.s)) (length l.s - l.at))

abbrev pub decreases-loop-left : goal.decreases-loop-left
decreases-loop-left l = l.left
