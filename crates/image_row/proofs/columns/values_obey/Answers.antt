-- `image_row::columns::values_obey` meets its contract. The invariant: what the columns that are left say of the parts that are left.
use Rattle.std.proofs.Common.{◌≡◌, ℕ, [], ◌⊎◌, sym, ap, ◌∙◌, arith, inl, inr}
use Rattle.bytes_bundle.specs.Ahead.{ahead_part}
use Rattle.bytes_bundle.specs.Bundle.{is_record, IsRecord}
use Rattle.bytes_bundle.specs.Held.{list_count}
use Rattle.bytes_bundle.specs.Left.{parts_left}
use Rattle.bytes_bundle.specs.Laws.{is_record_lem}
use Rattle.image_value.specs.Parts.{column_schema}
use Rattle.image_row.specs.Obeyed.{obeyed_is, not_obeyed, beside, beside_on, beside_stop, beside_end}
use Rattle.image_row.proofs.columns.values_obey.Goals.{Else-not-is_record}
use Rattle.image_row.proofs.columns.values_obey.Goals as goal

shaped : (c : Else-not-is_record) → IsRecord 4 c.parts.result c.args.r.now
shaped c = is_record_lem (sym c.is_record.ensures ∙ c.if-not-is_record.false)

pub returns-then-not-is_record : goal.returns-then-not-is_record
returns-then-not-is_record c = λ cs h.
    let n = list_count (column_schema 2) c.args.list.now h ∙ sym c.parts.ensures in
    sym (not_obeyed cs c.args.r.now (ap (λ (k : ℕ). is_record 4 k c.args.r.now) n ∙ sym c.is_record.ensures ∙ c.if-not-is_record.true))

pub iter-requires : goal.iter-requires
iter-requires c = (omega arith, (shaped c).bundle)

pub loop-value-init : goal.loop-value-init
loop-value-init c = beside (cc) (cc) ((shaped (goal.at.loop-value-init c).Else-not-is_record).count ∙ c.parts.ensures)

pub value_obeys-requires : goal.value_obeys-requires
value_obeys-requires c = ahead_part c.loop-value.invariant.left c.in-Some.ensures.steps.1 c.requires

pub returns-then-not-value_obeys : goal.returns-then-not-value_obeys
returns-then-not-value_obeys c = λ cs h.
    let t = c.in-Some.ensures.steps in
    sym (obeyed_is cs _ (shaped (goal.at.returns-then-not-value_obeys c).Else-not-is_record).bundle
    ∙ beside_stop c.loop-value.invariant t.0 t.1 (λ v m. sym (c.value_obeys.ensures v m) ∙ c.if-not-value_obeys.true) cs h)

pub loop-value-preserved : goal.loop-value-preserved
loop-value-preserved c =
    let t = c.in-Some.ensures.steps in
    beside_on c.loop-value.invariant t.0 t.1 (λ v m. sym (c.value_obeys.ensures v m) ∙ c.if-not-value_obeys.false)

pub returns : goal.returns
returns c = λ cs h.
    let left = c.loop-value.value-iterator in
    let none : (parts_left left.a ≡ []) ⊎ (parts_left left.b ≡ []) = elim c.in-None.ensures.steps [ inl a ↦ inl a.1.0 | inr b ↦ inr b.1.0 ] in
    sym (obeyed_is cs _ (shaped (goal.at.returns c).Else-not-is_record).bundle ∙ beside_end c.loop-value.invariant none cs h)
