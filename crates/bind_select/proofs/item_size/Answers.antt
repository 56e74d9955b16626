-- `bind_select::item_size` meets its contract.
use mathlib.Core.Path.{sym, ap, ◌∙◌}
use Rattle.bytes_format.proofs.Formats.{list_of}
use Rattle.bytes_bundle.specs.Held.{is_held, held, held_once}
use Rattle.rules.specs.Analyze as rules
use Rattle.image_parts.specs.Layout.{name, item}
use Rattle.image_value.specs.Parts.{column_schema}
use Rattle.bind_select.specs.Entries.{all_entries}
use Rattle.bind_select.specs.Selects.{added, added_given, added_refused, item_other, item_star}
use Rattle.bind_select.specs.Within.{Called, called, called_short}
use Rattle.bind_select.proofs.item_size.Goals.{Else-code-eq1}
use Rattle.bind_select.proofs.item_size.Goals as goal

-- past the tests it is a name
by_name : (c : Else-code-eq1) → Called c.args.i.now
by_name c = called c.requires.1.is c.item_code-code.ensures c.if-code-eq0.false c.if-code-eq1.false

pub item_code-code-requires : goal.item_code-code-requires
item_code-code-requires c = c.requires.1.is

pub returns-then-code-eq0 : goal.returns-then-code-eq0
returns-then-code-eq0 c = record { few = tt; told = λ v x hv h. added_refused (item_other v x (sym (c.item_code-code.ensures x h) ∙ c.if-code-eq0.true)) }

pub columns-requires : goal.columns-requires
columns-requires c = c.requires.0

pub columns_size-requires : goal.columns_size-requires
columns_size-requires c = held c.requires.0 (λ v h. is_held {f = list_of 2 (column_schema 2)} (c.columns.ensures v h))

pub returns-then-code-eq1 : goal.returns-then-code-eq1
returns-then-code-eq1 c = record {
  few = c.columns_size.ensures.few;
  told = λ v x hv h.
      added_given (item_star v x (sym (c.item_code-code.ensures x h) ∙ c.if-code-eq1.true))
      (c.columns_size.ensures.told v.columns (c.columns.ensures v hv) ∙ sym (all_entries v));
}

pub column_of-requires : goal.column_of-requires
column_of-requires c = c.requires.1.is

pub column_size-requires : goal.column_size-requires
column_size-requires c =
    let p = c.requires in
    let w = by_name (goal.at.column_size-requires c).Else-code-eq1 in
    let h = c.column_of.ensures w.value w.whole in
    (p.0, (is_held {f = name} h, called_short p.1 w h))

pub returns : goal.returns
returns c =
    let w = by_name (goal.at.returns c).Else-code-eq1 in record {
      few = c.column_size.ensures.few;
      told = λ v x hv h.
          c.column_size.ensures.told v w.value hv (c.column_of.ensures w.value w.whole)
          ∙ ap (λ y. added (rules.item v y)) (held_once item w.whole h);
    }
