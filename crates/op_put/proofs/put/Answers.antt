-- `op_put::put` meets its contract: what was measured says whether there is room, and the writer writes just that.
use Rattle.std.proofs.Common.{refl, arith}
use Rattle.bind_statement.specs.Within.{statement_within_lem}
use Rattle.op_reply.specs.Leaves.{leaves_as_it_was}
use Rattle.op_put.specs.Binds.{no_room, has_room, image_written}
use Rattle.op_put.proofs.put.Goals as goal

pub returns-then-out-size : goal.returns-then-out-size
returns-then-out-size c = leaves_as_it_was (no_room c.requires (omega (arith, c.if-out-size.true))) refl

pub write-written-requires : goal.write-written-requires
write-written-requires c =
    let m = c.requires in
    (statement_within_lem m.both.holds m.both.within, has_room m (omega (arith, c.if-out-size.false)))

pub returns : goal.returns
returns c =
    image_written c.requires (omega (arith, c.if-out-size.false)) c.write-written.ensures
