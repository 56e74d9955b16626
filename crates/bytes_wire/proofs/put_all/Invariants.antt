-- The bytes that are written are those of src.
use Rattle.std.proofs.Common.{◌≡◌, take}
use Rattle.bytes_wire.proofs.put_all.Given as goal

abbrev pub invariant-loop-i : goal.invariant-loop-i
invariant-loop-i l = take l.i l.byte-items ≡ take l.i l.src
