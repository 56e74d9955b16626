-- `statement_ascii::creates::create_beyond` meets its contract.
use borrow.Author.Rules.{rules}
use Rattle.std.specs.Prelude.{◌≡◌, ◌++◌, map}
use Rattle.std.proofs.Common.{◌∙◌}
use Rattle.bytes_format.proofs.Formats.{list_of}
use Rattle.bytes_bundle.specs.Chains.{list_callable, list_looked}
use Rattle.bytes_bundle.specs.Held.{is_held, held, list_bundle}
use Rattle.image_parts.specs.Layout.{column_definition, constraint}
use Rattle.rules.specs.Limits.{gather, object_names, constraint_names, held_by_create_table}
use Rattle.rules.specs.Statements.{ColumnDefinition}
use Rattle.statement_ascii.specs.Beyond.{Beyond, or_stop, or_on, two_stop, two_on, gather_looks, map_looks}
use Rattle.statement_ascii.proofs.creates.create_beyond.Goals.{then-object_name_beyond, else-object_name_beyond}
use Rattle.statement_ascii.proofs.creates.create_beyond.Goals as goal

pub any-requires-clause-callable : goal.any-requires-clause-callable
any-requires-clause-callable c =
    list_callable column_definition 2 _ _ c.iter.ensures (held c.requires (λ v h. is_held {f = list_of 2 column_definition} (c.columns.ensures v h))) (λ x b q k. search rules) (λ x i. search rules)

pub iter-requires-else-any : goal.iter-requires-else-any
iter-requires-else-any c = (search rules, list_bundle constraint (held c.requires (λ v h. is_held {f = list_of 2 constraint} (c.constraints.ensures v h))))

pub any-requires-else-any-clause-callable : goal.any-requires-else-any-clause-callable
any-requires-else-any-clause-callable c =
    list_callable constraint 2 _ _ c.iter-else-any.ensures (held c.requires (λ v h. is_held {f = list_of 2 constraint} (c.constraints.ensures v h))) (λ x b q k. search rules) (λ x i. search rules)

pub returns-then-any : goal.returns-then-any
unfolding held_by_create_table
returns-then-any c = λ v h.
    let first = c.object_name_beyond.ensures v.name (c.table_name.ensures v h) in
    let both : c.if-object_name_beyond.value ≡ Beyond (object_names v.name ++ map (λ (d : ColumnDefinition). d.name) v.columns) = elim c.if-object_name_beyond.branch [
      | then-object_name_beyond w ↦ w.value-is ∙ or_stop (object_names v.name) (map (λ (d : ColumnDefinition). d.name) v.columns) first w.if-object_name_beyond.true
      | else-object_name_beyond w ↦
          w.value-is ∙ or_on (object_names v.name) (map (λ (d : ColumnDefinition). d.name) v.columns) first w.if-object_name_beyond.false
          (list_looked column_definition (map_looks (λ (d : ColumnDefinition). d.name)) 2 _ _ w.iter.ensures _ _ w.any.ensures.ran (λ x b q k. search rules) v.columns (w.columns.ensures v h))
    ] in
    two_stop (object_names v.name) (map (λ (d : ColumnDefinition). d.name) v.columns) (gather constraint_names v.constraints) both c.if-any.true

pub returns-else-any : goal.returns-else-any
unfolding held_by_create_table
returns-else-any c = λ v h.
    let first = c.object_name_beyond.ensures v.name (c.table_name.ensures v h) in
    let both : c.if-object_name_beyond.value ≡ Beyond (object_names v.name ++ map (λ (d : ColumnDefinition). d.name) v.columns) = elim c.if-object_name_beyond.branch [
      | then-object_name_beyond w ↦ w.value-is ∙ or_stop (object_names v.name) (map (λ (d : ColumnDefinition). d.name) v.columns) first w.if-object_name_beyond.true
      | else-object_name_beyond w ↦
          w.value-is ∙ or_on (object_names v.name) (map (λ (d : ColumnDefinition). d.name) v.columns) first w.if-object_name_beyond.false
          (list_looked column_definition (map_looks (λ (d : ColumnDefinition). d.name)) 2 _ _ w.iter.ensures _ _ w.any.ensures.ran (λ x b q k. search rules) v.columns (w.columns.ensures v h))
    ] in
    two_on (object_names v.name) (map (λ (d : ColumnDefinition). d.name) v.columns) (gather constraint_names v.constraints) both c.if-any.false
    (list_looked constraint (gather_looks constraint_names) 2 _ _ c.iter-else-any.ensures _ _ c.any-else-any.ensures.ran (λ x b q k. search rules) v.constraints (c.constraints.ensures v h))
