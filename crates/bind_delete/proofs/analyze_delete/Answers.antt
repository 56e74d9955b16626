-- `bind_delete::analyze_delete` meets its contract.
use mathlib.Core.Path.{◌∙◌}
use Rattle.bytes_bundle.specs.Held.{is_held}
use Rattle.image_bound.specs.Layout.{bound_statement}
use Rattle.image_catalogue.specs.Layout.{table}
use Rattle.image_catalogue.specs.Values.{catalogue_list, catalogue_tables}
use Rattle.bind_table.specs.Steps.{step_on, step_off, sized_as, sized_refused, resolved_is, resolved_off}
use Rattle.bind_delete.specs.Deletes.{delete_steps}
use Rattle.bind_delete.specs.Within.{held_both, delete_condition}
use Rattle.bind_delete.proofs.analyze_delete.Goals as goal

pub deleted_table-requires : goal.deleted_table-requires
deleted_table-requires c = (catalogue_list c.requires.0, c.requires.1)

pub delete_size-requires : goal.delete_size-requires
delete_size-requires c =
    let p = c.requires in
    held_both p (λ cat v hc hv. (
      is_held {f = table} (resolved_is _ (c.deleted_table.ensures cat v hc hv) c.in-Ok.is).holds,
      delete_condition _ p.1 c.condition_of.ensures,
    ))

pub returns-in-Ok : goal.returns-in-Ok
returns-in-Ok c = λ cat v hc hv.
    let t = resolved_is _ (c.deleted_table.ensures cat v (catalogue_tables _ hc) hv) c.in-Ok.is in
    sized_as bound_statement (delete_steps cat v ∙ step_on _ t.gives) (c.delete_size.ensures t.value v.condition t.holds (c.condition_of.ensures v hv))

pub returns-in-Err : goal.returns-in-Err
returns-in-Err c = λ cat v hc hv.
    sized_refused bound_statement
    (delete_steps cat v ∙ step_off _ (resolved_off _ (c.deleted_table.ensures cat v (catalogue_tables _ hc) hv) c.in-Err.is))
