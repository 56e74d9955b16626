-- `replay_record::agrees` meets its contract.
use mathlib.Core.Path.{sym, ◌∙◌}
use native.Mathlib.Omega.{arith}
use lib.ListN.{length-take}
use Rattle.bytes_bundle.specs.Decides.{failed}
use Rattle.op_reply.specs.Leaves.{told}
use Rattle.replay_record.specs.Agrees.{other_number, other_length, short_output, short_before, other_bytes, same_bytes}
use Rattle.std.proofs.Common.{ap}
use Rattle.std.proofs.Common.{not}
use Rattle.replay_record.proofs.agrees.Goals as goal

pub returns-then-told-number : goal.returns-then-told-number
returns-then-told-number c =
    let a = c.args in
    other_number (told a.heard) a.number a.expected.now a.before.now a.out.now (λ e. c.if-told-number.true (c.told_number-told.ensures ∙ e))

pub returns-then-length-end : goal.returns-then-length-end
returns-then-length-end c =
    let a = c.args in
    other_length (told a.heard) a.number a.expected.now a.before.now a.out.now (sym c.told_number-told.ensures ∙ c.if-told-number.false) (λ e. c.if-length-end.true (c.unwrap_or-length.ensures ∙ e))

pub returns-then-out-end : goal.returns-then-out-end
returns-then-out-end c =
    let a = c.args in
    short_output (told a.heard) a.number a.expected.now a.before.now a.out.now (sym c.told_number-told.ensures ∙ c.if-told-number.false) (sym c.unwrap_or-length.ensures ∙ c.if-length-end.false) c.if-out-end.true

pub returns-then-before-end : goal.returns-then-before-end
returns-then-before-end c =
    let a = c.args in
    short_before (told a.heard) a.number a.expected.now a.before.now a.out.now (sym c.told_number-told.ensures ∙ c.if-told-number.false) (sym c.unwrap_or-length.ensures ∙ c.if-length-end.false) c.if-out-end.false c.if-before-end.true

pub slice_bounds-same-end : goal.slice_bounds-same-end
slice_bounds-same-end c = simp length-take (omega arith)

pub returns-then-not-same : goal.returns-then-not-same
returns-then-not-same c =
    let a = c.args in
    other_bytes (told a.heard) a.number a.expected.now a.before.now a.out.now (sym c.told_number-told.ensures ∙ c.if-told-number.false) (sym c.unwrap_or-length.ensures ∙ c.if-length-end.false) c.if-out-end.false c.if-before-end.false
    (failed c.same.ensures (ap not c.if-not-same.true))

pub returns : goal.returns
returns c =
    let a = c.args in
    c.same-2.ensures
    ∙ same_bytes (told a.heard) a.number a.expected.now a.before.now a.out.now (sym c.told_number-told.ensures ∙ c.if-told-number.false) (sym c.unwrap_or-length.ensures ∙ c.if-length-end.false) c.if-out-end.false c.if-before-end.false
    (sym c.same.ensures ∙ c.if-not-same.false)
