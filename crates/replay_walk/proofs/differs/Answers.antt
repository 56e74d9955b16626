-- `replay_walk::differs` meets its contract: the room of a case fits the buffer.
use mathlib.Core.Path.{refl}
use native.Mathlib.Omega.{arith}
use lib.ListN.{length-take}
use Rattle.replay_record.specs.Cases.{case_head, case_room}
use Rattle.replay_record.specs.Layout.{parts_of}
use Rattle.replay_walk.proofs.differs.Goals as goal

pub size-end-requires : goal.size-end-requires
size-end-requires c = omega (arith, case_head (parts_of c.args.of) c.args.s.now c.requires)

pub slice_bounds-before-end : goal.slice_bounds-before-end
slice_bounds-before-end c =
    omega (arith, c.size-end.ensures.is, case_room (parts_of c.args.of) c.args.s.now c.requires)

pub slice_bounds-differs_in-end : goal.slice_bounds-differs_in-end
slice_bounds-differs_in-end c =
    simp length-take (omega (arith, c.size-end.ensures.is, c.untouched-before.ensures, case_room (parts_of c.args.of) c.args.s.now c.requires))

pub slice_bounds-out-end : goal.slice_bounds-out-end
slice_bounds-out-end c =
    omega (arith, c.size-end.ensures.is, case_room (parts_of c.args.of) c.args.s.now c.requires)

pub slice_bounds-differs_in-end-2 : goal.slice_bounds-differs_in-end-2
slice_bounds-differs_in-end-2 c =
    simp length-take (omega (arith, c.size-end.ensures.is, c.untouched-before.ensures, case_room (parts_of c.args.of) c.args.s.now c.requires))

pub differs_in-requires : goal.differs_in-requires
differs_in-requires c =
    (c.requires, refl, simp length-take (omega (arith, c.size-end.ensures.is, c.untouched-before.ensures, case_room (parts_of c.args.of) c.args.s.now c.requires)))
