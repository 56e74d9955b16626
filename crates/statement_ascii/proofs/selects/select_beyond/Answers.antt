-- `statement_ascii::selects::select_beyond` meets its contract.
use borrow.Author.Rules.{rules}
use Rattle.std.specs.Prelude.{◌≡◌, ◌++◌}
use Rattle.std.proofs.Common.{◌∙◌}
use Rattle.bytes_format.proofs.Formats.{list_of}
use Rattle.bytes_bundle.specs.Chains.{list_callable, list_looked}
use Rattle.bytes_bundle.specs.Held.{is_held, held}
use Rattle.image_parts.specs.Layout.{item}
use Rattle.rules.specs.Limits.{gather, if_there, expression_names, from_names, item_names, held_by_select}
use Rattle.statement_ascii.specs.Beyond.{Beyond, or_stop, or_on, two_stop, two_on, gather_looks}
use Rattle.statement_ascii.proofs.selects.select_beyond.Goals.{then-from_beyond, else-from_beyond}
use Rattle.statement_ascii.proofs.selects.select_beyond.Goals as goal

pub any-requires-clause-callable : goal.any-requires-clause-callable
any-requires-clause-callable c =
    list_callable item 2 _ _ c.iter.ensures (held c.requires (λ v h. is_held {f = list_of 2 item} (c.items_of.ensures v h))) (λ x b q k. search rules) (λ x i. search rules)

pub returns-then-any : goal.returns-then-any
unfolding held_by_select
returns-then-any c = λ v h.
    let first = c.from_beyond.ensures v.from (c.from_of.ensures v h) in
    let both : c.if-from_beyond.value ≡ Beyond (from_names v.from ++ gather item_names v.items) = elim c.if-from_beyond.branch [
      | then-from_beyond w ↦ w.value-is ∙ or_stop (from_names v.from) (gather item_names v.items) first w.if-from_beyond.true
      | else-from_beyond w ↦
          w.value-is ∙ or_on (from_names v.from) (gather item_names v.items) first w.if-from_beyond.false
          (list_looked item (gather_looks item_names) 2 _ _ w.iter.ensures _ _ w.any.ensures.ran (λ x b q k. search rules) v.items (w.items_of.ensures v h))
    ] in
    two_stop (from_names v.from) (gather item_names v.items) (gather expression_names (if_there v.condition)) both c.if-any.true

pub returns-else-any : goal.returns-else-any
unfolding held_by_select
returns-else-any c = λ v h.
    let first = c.from_beyond.ensures v.from (c.from_of.ensures v h) in
    let both : c.if-from_beyond.value ≡ Beyond (from_names v.from ++ gather item_names v.items) = elim c.if-from_beyond.branch [
      | then-from_beyond w ↦ w.value-is ∙ or_stop (from_names v.from) (gather item_names v.items) first w.if-from_beyond.true
      | else-from_beyond w ↦
          w.value-is ∙ or_on (from_names v.from) (gather item_names v.items) first w.if-from_beyond.false
          (list_looked item (gather_looks item_names) 2 _ _ w.iter.ensures _ _ w.any.ensures.ran (λ x b q k. search rules) v.items (w.items_of.ensures v h))
    ] in
    two_on (from_names v.from) (gather item_names v.items) (gather expression_names (if_there v.condition)) both c.if-any.false
    (c.condition_beyond.ensures v.condition (c.condition_of.ensures v h))
