-- `image_row::column::value_obeys` meets its contract.
use mathlib.Core.Path.{sym, ◌∙◌}
use Rattle.bytes_wire.specs.Le.{Bytes}
use Rattle.bytes_bundle.specs.Decides.{failed, passed}
use Rattle.bytes_bundle.specs.Fields.{not_passing}
use Rattle.bytes_bundle.specs.Held.{Is}
use Rattle.rules.specs.Rows.{value_obeys}
use Rattle.image_value.specs.Parts.{value}
use Rattle.image_row.specs.Obeyed.{null_obeyed, typed_obeyed}
use Rattle.image_row.proofs.column.value_obeys.Goals.{Else-not-is_value}
use Rattle.std.proofs.Common.{ap}
use Rattle.std.proofs.Common.{not}
use Rattle.image_row.proofs.column.value_obeys.Goals as goal

bytes : (c : Else-not-is_value) → Bytes c.args.p.now
bytes c = record { at = λ j. (c.type_inv.p j).fits }

is_value : (c : Else-not-is_value) → Is value c.args.p.now
is_value c = record { there = passed c.is_value.ensures (ap not c.if-not-is_value.false) }

pub returns-then-not-is_value : goal.returns-then-not-is_value
returns-then-not-is_value c = λ v h.
    sym (not_passing (value_obeys v) (value.read c.args.p.now) (failed c.is_value.ensures (ap not c.if-not-is_value.true)))

pub type_code-code-requires : goal.type_code-code-requires
type_code-code-requires c = is_value (goal.at.type_code-code-requires c).Else-not-is_value

pub returns-then-code-eq3 : goal.returns-then-code-eq3
returns-then-code-eq3 c = λ v h.
    c.column_nullable.ensures v h ∙ null_obeyed (bytes (goal.at.returns-then-code-eq3 c).Else-not-is_value) (is_value (goal.at.returns-then-code-eq3 c).Else-not-is_value) c.type_code-code.ensures v c.if-code-eq3.true

pub returns-in-Int : goal.returns-in-Int
returns-in-Int c = λ v h.
    typed_obeyed (bytes (goal.at.returns-in-Int c).Else-not-is_value) (is_value (goal.at.returns-in-Int c).Else-not-is_value) c.type_code-code.ensures v c.if-code-eq3.false (sym c.in-Int.is ∙ c.column_type.ensures v h)

pub returns-in-Text : goal.returns-in-Text
returns-in-Text c = λ v h.
    typed_obeyed (bytes (goal.at.returns-in-Text c).Else-not-is_value) (is_value (goal.at.returns-in-Text c).Else-not-is_value) c.type_code-code.ensures v c.if-code-eq3.false (sym c.in-Text.is ∙ c.column_type.ensures v h)

pub returns-in-Bool : goal.returns-in-Bool
returns-in-Bool c = λ v h.
    typed_obeyed (bytes (goal.at.returns-in-Bool c).Else-not-is_value) (is_value (goal.at.returns-in-Bool c).Else-not-is_value) c.type_code-code.ensures v c.if-code-eq3.false (sym c.in-Bool.is ∙ c.column_type.ensures v h)
