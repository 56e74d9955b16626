-- `bytes_utf8::behind_ascii` meets its contract.
use Rattle.std.proofs.Common.{◌≡◌, ◌≤◌, length}
use Rattle.bytes_utf8.specs.Decide.{is_utf8}
use Rattle.bytes_utf8.proofs.behind_ascii.Given as goal

abbrev pub invariant-loop-rest : goal.invariant-loop-rest
invariant-loop-rest l = (is_utf8 l.rest ≡ is_utf8 l.s) × (length l.rest ≤ length l.s)

abbrev pub decreases-loop-rest : goal.decreases-loop-rest
decreases-loop-rest l = length l.rest
