-- `statement_ascii::inserts::insert_beyond` meets its contract.
use borrow.Author.Rules.{rules}
use Rattle.std.specs.Prelude.{◌≡◌, ◌++◌}
use Rattle.std.proofs.Common.{◌∙◌}
use Rattle.bytes_format.proofs.Formats.{list_of}
use Rattle.bytes_bundle.specs.Chains.{list_callable, list_looked}
use Rattle.bytes_bundle.specs.Held.{is_held, held}
use Rattle.image_parts.specs.Layout.{name}
use Rattle.rules.specs.Limits.{gather, expression_names, object_names, source_rows, held_by_insert}
use Rattle.statement_ascii.specs.Beyond.{Beyond, or_stop, or_on, two_stop, two_on, names_look}
use Rattle.statement_ascii.proofs.inserts.insert_beyond.Goals.{then-object_name_beyond, else-object_name_beyond}
use Rattle.statement_ascii.proofs.inserts.insert_beyond.Goals as goal

pub any-requires-clause-callable : goal.any-requires-clause-callable
any-requires-clause-callable c =
    list_callable name 2 _ _ c.iter.ensures (held c.requires (λ v h. is_held {f = list_of 2 name} (c.columns.ensures v h))) (λ x b q k. search rules) (λ x i. search rules)

pub returns-then-any : goal.returns-then-any
unfolding held_by_insert
returns-then-any c = λ v h.
    let first = c.object_name_beyond.ensures v.name (c.table_name.ensures v h) in
    let both : c.if-object_name_beyond.value ≡ Beyond (object_names v.name ++ v.columns) = elim c.if-object_name_beyond.branch [
      | then-object_name_beyond w ↦ w.value-is ∙ or_stop (object_names v.name) (v.columns) first w.if-object_name_beyond.true
      | else-object_name_beyond w ↦
          w.value-is ∙ or_on (object_names v.name) (v.columns) first w.if-object_name_beyond.false
          (list_looked name (names_look) 2 _ _ w.iter.ensures _ _ w.any.ensures.ran (λ x b q k. search rules) v.columns (w.columns.ensures v h))
    ] in
    two_stop (object_names v.name) (v.columns) (gather (gather expression_names) (source_rows v.source)) both c.if-any.true

pub returns-else-any : goal.returns-else-any
unfolding held_by_insert
returns-else-any c = λ v h.
    let first = c.object_name_beyond.ensures v.name (c.table_name.ensures v h) in
    let both : c.if-object_name_beyond.value ≡ Beyond (object_names v.name ++ v.columns) = elim c.if-object_name_beyond.branch [
      | then-object_name_beyond w ↦ w.value-is ∙ or_stop (object_names v.name) (v.columns) first w.if-object_name_beyond.true
      | else-object_name_beyond w ↦
          w.value-is ∙ or_on (object_names v.name) (v.columns) first w.if-object_name_beyond.false
          (list_looked name (names_look) 2 _ _ w.iter.ensures _ _ w.any.ensures.ran (λ x b q k. search rules) v.columns (w.columns.ensures v h))
    ] in
    two_on (object_names v.name) (v.columns) (gather (gather expression_names) (source_rows v.source)) both c.if-any.false
    (c.source_beyond.ensures v h)
