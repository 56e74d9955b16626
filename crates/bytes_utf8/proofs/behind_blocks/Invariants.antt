-- `bytes_utf8::behind_blocks` meets its contract.
use Rattle.std.proofs.Common.{◌≡◌, ◌≤◌, length}
use Rattle.bytes_utf8.specs.Decide.{is_utf8}
use Rattle.bytes_utf8.proofs.behind_blocks.Given as goal

abbrev pub invariant-loop-block : goal.invariant-loop-block
invariant-loop-block g l = (is_utf8 l.rest ≡ is_utf8 l.s) × (length l.rest ≤ length l.s)

abbrev pub decreases-loop-block : goal.decreases-loop-block
decreases-loop-block g l = length l.rest
