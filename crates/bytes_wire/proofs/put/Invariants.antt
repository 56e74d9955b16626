-- The bytes that are written, and those of what is left of v behind them.
use Rattle.std.proofs.Common.{◌≡◌, ◌-◌, ◌++◌, take}
use Rattle.bytes_wire.specs.Le.{le}
use Rattle.bytes_wire.proofs.put.Given as goal

abbrev pub invariant-loop-byte : goal.invariant-loop-byte
invariant-loop-byte l = take l.byte-index l.byte-items ++ le (l.k - l.byte-index) l.rest ≡ le l.k l.v
