-- `bytes_wire::put` meets its contract.
use Rattle.std.proofs.Common.{arith, rules}
use Rattle.bytes_wire.specs.Le.{length_le}
use Rattle.bytes_wire.proofs.Laws.{part_written, next_byte, all_written}
use Rattle.bytes_wire.proofs.put.Goals as goal

pub loop-byte-preserved : goal.loop-byte-preserved
loop-byte-preserved c = grind (arith, next_byte)

pub returns : goal.returns
returns c = part_written _ _ _ _ _ _ (omega arith) (length_le _ _)
    (all_written _ c.loop-byte.byte-index _ _ _ (search rules) (search rules) c.loop-byte.invariant) (omega arith)
