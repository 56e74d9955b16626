-- `run_update::put_row` meets its contract: what was measured says whether there is room, and the writer writes just that.
use Rattle.std.proofs.Common.{refl, arith}
use Rattle.op_reply.specs.Leaves.{leaves_as_it_was}
use Rattle.run_update.specs.Rows.{row_no_room, row_written, row_writable}
use Rattle.run_update.proofs.put_row.Goals as goal

pub returns-then-out-size : goal.returns-then-out-size
returns-then-out-size c = λ u h. leaves_as_it_was (row_no_room h _ c.requires (omega (arith, c.if-out-size.true))) refl

pub write_row-written-requires : goal.write_row-written-requires
write_row-written-requires c = row_writable c.requires (omega (arith, c.if-out-size.false))

pub returns : goal.returns
returns c = λ u h. row_written h c.requires (omega (arith, c.if-out-size.false)) c.write_row-written.ensures
