-- `statement_limits::selects::is_select_within` meets its contract.
use borrow.Author.Rules.{rules}
use Rattle.std.specs.Prelude.{◌≡◌, ◌&&◌}
use Rattle.std.proofs.Common.{◌∙◌}
use Rattle.bytes_bundle.specs.Held.{is_held, held}
use Rattle.bytes_format.proofs.Formats.{list_of}
use Rattle.image_expression.specs.Names.{Within}
use Rattle.image_parts.specs.Layout.{item}
use Rattle.rules.specs.Limits.{from_names}
use Rattle.rules.specs.Lists.{all}
use Rattle.statement_limits.specs.Joined.{and_on, and_off, decided_on, decided_off, paired}
use Rattle.statement_limits.specs.Lists.{list_takes, list_told}
use Rattle.statement_limits.specs.Within.{list_within, item_within, select_within}
use Rattle.statement_limits.proofs.selects.is_select_within.Goals.{then-is_from_within, else-is_from_within}
use Rattle.statement_limits.proofs.selects.is_select_within.Goals as goal

pub is_list_within-requires-clause-takes : goal.is_list_within-requires-clause-takes
is_list_within-requires-clause-takes c = list_takes item _ (held c.requires (λ v h. is_held {f = list_of 2 item} (c.items_of.ensures v h))) (λ x i. search rules)

pub returns-then-is_list_within : goal.returns-then-is_list_within
returns-then-is_list_within c = λ v h.
    let first = c.is_from_within.ensures v.from (c.from_of.ensures v h) in
    let both : c.if-is_from_within.value ≡ (all Within (from_names v.from) && list_within 64 item_within v.items) = elim c.if-is_from_within.branch [
      | then-is_from_within w ↦
          w.value-is ∙ and_on first w.if-is_from_within.true (list_told item item_within 64 _ w.is_list_within.ensures (λ x b k u i. search rules) v.items (w.items_of.ensures v h))
      | else-is_from_within w ↦ w.value-is ∙ and_off first (list_within 64 item_within v.items) w.if-is_from_within.false
    ] in
    decided_on both (paired (select_within v)) c.if-is_list_within.true
    (c.is_condition_within.ensures v.condition (c.condition_of.ensures v h))

pub returns-else-is_list_within : goal.returns-else-is_list_within
returns-else-is_list_within c = λ v h.
    let first = c.is_from_within.ensures v.from (c.from_of.ensures v h) in
    let both : c.if-is_from_within.value ≡ (all Within (from_names v.from) && list_within 64 item_within v.items) = elim c.if-is_from_within.branch [
      | then-is_from_within w ↦
          w.value-is ∙ and_on first w.if-is_from_within.true (list_told item item_within 64 _ w.is_list_within.ensures (λ x b k u i. search rules) v.items (w.items_of.ensures v h))
      | else-is_from_within w ↦ w.value-is ∙ and_off first (list_within 64 item_within v.items) w.if-is_from_within.false
    ] in
    decided_off both (paired (select_within v)) c.if-is_list_within.false
