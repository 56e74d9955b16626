-- `write_create::key_marks` meets its contract. The invariant: the columns of the ids so far are marked.
use mathlib.Core.Path.{◌≡◌, ap, subst, ◌∙◌}
use Prim.Native.Nat.{ℕ}
use native.Mathlib.Omega.{arith}
use lib.ListN.{length, take}
use Rattle.std.proofs.Math.Seq.{take-length}
use Rattle.write_create.specs.Parts.{KeyMarks}
use Rattle.write_create.proofs.Ids.{no_marks, marks_more}
use Rattle.write_create.proofs.key_marks.Goals as goal

pub loop-id-init : goal.loop-id-init
loop-id-init c = (omega arith, no_marks)

pub mark_id-requires : goal.mark_id-requires
mark_id-requires c = omega (arith, c.loop-id.invariant.0)

pub loop-id-preserved : goal.loop-id-preserved
loop-id-preserved c =
    let l = c.loop-id in
    let ids = take c.args.n c.args.ids in
    (c.mark_id.ensures.long ∙ l.invariant.0, marks_more ids l.id-index (record { 0 = 0 }) c.loop-id-test.true l.invariant.1 c.mark_id.ensures)

pub returns : goal.returns
returns c =
    let l = c.loop-id in
    let ids = take c.args.n c.args.ids in
    let e : l.id-index ≡ length ids = omega (arith, c.loop-id-test.false) in
    subst (KeyMarks l.marks) (ap (λ (k : ℕ). take k ids) e ∙ take-length ids) l.invariant.1
