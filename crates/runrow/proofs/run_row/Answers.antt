-- `runrow::run_row` meets its contract: what `ran` answers is what is kept, or said.
use Rattle.std.proofs.Common.{refl}
use Rattle.op_reply.specs.Leaves.{never_zero}
use Rattle.runrow.proofs.Cases.{new_row, refusal_said}
use Rattle.runrow.proofs.run_row.Goals as goal

pub keep-requires : goal.keep-requires
keep-requires g c = new_row _ _ _ c.in-Ok.ensures refl

pub refuse-requires : goal.refuse-requires
refuse-requires g c = refusal_said _ _ _ c.in-Err.ensures (never_zero c.in-Err.refused)
