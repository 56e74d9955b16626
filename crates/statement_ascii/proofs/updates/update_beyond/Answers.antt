-- `statement_ascii::updates::update_beyond` meets its contract.
use borrow.Author.Rules.{rules}
use Rattle.std.specs.Prelude.{◌≡◌, ◌++◌}
use Rattle.std.proofs.Common.{◌∙◌}
use Rattle.bytes_format.proofs.Formats.{list_of}
use Rattle.bytes_bundle.specs.Chains.{list_callable, list_looked}
use Rattle.bytes_bundle.specs.Held.{is_held, held}
use Rattle.image_parts.specs.Layout.{assignment}
use Rattle.rules.specs.Limits.{gather, if_there, expression_names, table_names, assignment_names, held_by_update}
use Rattle.statement_ascii.specs.Beyond.{Beyond, or_stop, or_on, two_stop, two_on, gather_looks}
use Rattle.statement_ascii.proofs.updates.update_beyond.Goals.{then-table_beyond, else-table_beyond}
use Rattle.statement_ascii.proofs.updates.update_beyond.Goals as goal

pub any-requires-clause-callable : goal.any-requires-clause-callable
any-requires-clause-callable c =
    list_callable assignment 2 _ _ c.iter.ensures (held c.requires (λ v h. is_held {f = list_of 2 assignment} (c.assignments.ensures v h))) (λ x b q k. search rules) (λ x i. search rules)

pub returns-then-any : goal.returns-then-any
unfolding held_by_update
returns-then-any c = λ v h.
    let first = c.table_beyond.ensures v.table (c.table_of.ensures v h) in
    let both : c.if-table_beyond.value ≡ Beyond (table_names v.table ++ gather assignment_names v.assignments) = elim c.if-table_beyond.branch [
      | then-table_beyond w ↦ w.value-is ∙ or_stop (table_names v.table) (gather assignment_names v.assignments) first w.if-table_beyond.true
      | else-table_beyond w ↦
          w.value-is ∙ or_on (table_names v.table) (gather assignment_names v.assignments) first w.if-table_beyond.false
          (list_looked assignment (gather_looks assignment_names) 2 _ _ w.iter.ensures _ _ w.any.ensures.ran (λ x b q k. search rules) v.assignments (w.assignments.ensures v h))
    ] in
    two_stop (table_names v.table) (gather assignment_names v.assignments) (gather expression_names (if_there v.condition)) both c.if-any.true

pub returns-else-any : goal.returns-else-any
unfolding held_by_update
returns-else-any c = λ v h.
    let first = c.table_beyond.ensures v.table (c.table_of.ensures v h) in
    let both : c.if-table_beyond.value ≡ Beyond (table_names v.table ++ gather assignment_names v.assignments) = elim c.if-table_beyond.branch [
      | then-table_beyond w ↦ w.value-is ∙ or_stop (table_names v.table) (gather assignment_names v.assignments) first w.if-table_beyond.true
      | else-table_beyond w ↦
          w.value-is ∙ or_on (table_names v.table) (gather assignment_names v.assignments) first w.if-table_beyond.false
          (list_looked assignment (gather_looks assignment_names) 2 _ _ w.iter.ensures _ _ w.any.ensures.ran (λ x b q k. search rules) v.assignments (w.assignments.ensures v h))
    ] in
    two_on (table_names v.table) (gather assignment_names v.assignments) (gather expression_names (if_there v.condition)) both c.if-any.false
    (c.condition_beyond.ensures v.condition (c.condition_of.ensures v h))
