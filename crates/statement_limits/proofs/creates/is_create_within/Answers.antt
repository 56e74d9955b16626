-- `statement_limits::creates::is_create_within` meets its contract.
use borrow.Author.Rules.{rules}
use Rattle.std.specs.Prelude.{◌≡◌, ◌&&◌}
use Rattle.std.proofs.Common.{◌∙◌}
use Rattle.bytes_bundle.specs.Held.{is_held, held}
use Rattle.bytes_format.proofs.Formats.{list_of}
use Rattle.image_expression.specs.Names.{Within}
use Rattle.image_parts.specs.Layout.{column_definition, constraint}
use Rattle.rules.specs.Limits.{object_names}
use Rattle.rules.specs.Lists.{all}
use Rattle.statement_limits.specs.Joined.{and_on, and_off, decided_on, decided_off, paired}
use Rattle.statement_limits.specs.Lists.{list_takes, list_told}
use Rattle.statement_limits.specs.Within.{list_within, column_within, constraint_within, create_within}
use Rattle.statement_limits.proofs.creates.is_create_within.Goals.{then-is_object_name_within, else-is_object_name_within}
use Rattle.statement_limits.proofs.creates.is_create_within.Goals as goal

pub is_list_within-requires-clause-takes : goal.is_list_within-requires-clause-takes
is_list_within-requires-clause-takes c = list_takes column_definition _ (held c.requires (λ v h. is_held {f = list_of 2 column_definition} (c.columns.ensures v h))) (λ x i. search rules)

pub is_list_within-requires-then-is_list_within-clause-takes : goal.is_list_within-requires-then-is_list_within-clause-takes
is_list_within-requires-then-is_list_within-clause-takes c = list_takes constraint _ (held c.requires (λ v h. is_held {f = list_of 2 constraint} (c.constraints.ensures v h))) (λ x i. search rules)

pub returns-then-is_list_within : goal.returns-then-is_list_within
returns-then-is_list_within c = λ v h.
    let first = c.is_object_name_within.ensures v.name (c.table_name.ensures v h) in
    let both : c.if-is_object_name_within.value ≡ (all Within (object_names v.name) && list_within 64 column_within v.columns) = elim c.if-is_object_name_within.branch [
      | then-is_object_name_within w ↦
          w.value-is ∙ and_on first w.if-is_object_name_within.true (list_told column_definition column_within 64 _ w.is_list_within.ensures (λ x b k u i. search rules) v.columns (w.columns.ensures v h))
      | else-is_object_name_within w ↦ w.value-is ∙ and_off first (list_within 64 column_within v.columns) w.if-is_object_name_within.false
    ] in
    decided_on both (paired (create_within v)) c.if-is_list_within.true
    (list_told constraint constraint_within 64 _ c.is_list_within-then-is_list_within.ensures (λ x b k u i. search rules) v.constraints (c.constraints.ensures v h))

pub returns-else-is_list_within : goal.returns-else-is_list_within
returns-else-is_list_within c = λ v h.
    let first = c.is_object_name_within.ensures v.name (c.table_name.ensures v h) in
    let both : c.if-is_object_name_within.value ≡ (all Within (object_names v.name) && list_within 64 column_within v.columns) = elim c.if-is_object_name_within.branch [
      | then-is_object_name_within w ↦
          w.value-is ∙ and_on first w.if-is_object_name_within.true (list_told column_definition column_within 64 _ w.is_list_within.ensures (λ x b k u i. search rules) v.columns (w.columns.ensures v h))
      | else-is_object_name_within w ↦ w.value-is ∙ and_off first (list_within 64 column_within v.columns) w.if-is_object_name_within.false
    ] in
    decided_off both (paired (create_within v)) c.if-is_list_within.false
