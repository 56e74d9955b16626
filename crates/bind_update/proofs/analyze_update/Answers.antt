-- `bind_update::analyze_update` meets its contract: the rules' tests in their order.
use mathlib.Core.Path.{◌≡◌, sym, ◌∙◌}
use mathlib.Core.Bool.{false}
use Rattle.bytes_bundle.specs.Held.{Holds, is_held, held, list_bundle, list_count}
use Rattle.image_bound.specs.Layout.{bound_statement}
use Rattle.image_catalogue.specs.Layout.{catalogue}
use Rattle.image_catalogue.specs.Values.{catalogue_tables, catalogue_list}
use Rattle.bytes_format.proofs.Formats.{list_of}
use Rattle.image_parts.specs.Layout.{table_with_joins, condition, assignment, updating}
use Rattle.bind_where.specs.There.{There, absent, present, there_is, there_reads, there_short}
use Rattle.bind_table.specs.Short.{update_short, short_table}
use Rattle.bind_table.specs.Steps.{sized_refused, sized_as, TableGiven, resolved_is, resolved_off}
use Rattle.rules.specs.Analyze.{resolve_direct_table}
use Rattle.rules.specs.Lists.{is_empty}
use Rattle.rules.specs.Statements.{Update}
use Rattle.rules.specs.Tables.{Catalogue}
use Rattle.bind_update.specs.Within.{update_assignments, update_condition}
use Rattle.bind_update.specs.Updated.{
  given_sound,
  is_empty_lem,
  not_empty,
  update_from,
  update_returning,
  update_conflict,
  update_empty,
  update_unresolved,
  update_unconditioned,
  update_table_lem,
}
use borrow.Author.Rules.{rules}
use Rattle.bind_update.proofs.analyze_update.Goals.{After-assignments-list}
use Rattle.bind_update.proofs.analyze_update.Goals.{After-table_of}
use Rattle.bind_update.proofs.analyze_update.Goals.{In-Ok}
use Rattle.bind_update.proofs.analyze_update.Goals.{Else-not-has_condition}
use Rattle.bind_update.proofs.analyze_update.Goals as goal

-- past the marks
from : (c : After-assignments-list) (v : Update) → Holds updating c.args.u.now v → v.from ≡ false
from c v h = sym (c.has_from.ensures v h) ∙ c.if-has_from.false

returning : (c : After-assignments-list) (v : Update) → Holds updating c.args.u.now v → v.returning ≡ false
returning c v h = sym (c.has_returning.ensures v h) ∙ c.if-has_returning.false

conflict : (c : After-assignments-list) (v : Update) → Holds updating c.args.u.now v → v.conflict ≡ false
conflict c v h = sym (c.has_conflict.ensures v h) ∙ c.if-has_conflict.false

-- there is an assignment
some-assigned : (c : After-table_of) (v : Update) → Holds updating c.args.u.now v → is_empty v.assignments ≡ false
some-assigned c v h =
    let a = c.assignments-list in
    not_empty v.assignments (λ e. c.if-parts-eq0.false (c.parts.ensures ∙ sym (list_count assignment a.result.now (a.ensures v h)) ∙ e))

-- the table was found
found : (c : In-Ok) (cat : Catalogue) (v : Update) → Holds catalogue c.args.c.now cat → Holds updating c.args.u.now v
    → TableGiven (resolve_direct_table cat v.table) c.in-Ok.t.now
found c cat v hc h =
    resolved_is _ (c.resolve_direct_table.ensures cat v.table (catalogue_tables _ hc) (c.table_of.ensures v h)) c.in-Ok.is

-- and there is a condition
there : (c : Else-not-has_condition) → There c.condition_of-w.result.now
there c =
    let w = c.condition_of-w in
    let p = c.requires in
    present w.result.now c.has_condition.ensures (held p.1.0 (λ v h. is_held {f = condition} {s = w.result.now} (w.ensures v h)))
    (c.if-not-has_condition.false)

pub returns-then-has_from : goal.returns-then-has_from
returns-then-has_from c = λ cat v hc h.
    sized_refused bound_statement (update_from cat v (sym (c.has_from.ensures v h) ∙ c.if-has_from.true))

pub returns-then-has_returning : goal.returns-then-has_returning
returns-then-has_returning c = λ cat v hc h.
    sized_refused bound_statement
    (update_returning cat v (sym (c.has_from.ensures v h) ∙ c.if-has_from.false) (sym (c.has_returning.ensures v h) ∙ c.if-has_returning.true))

pub returns-then-has_conflict : goal.returns-then-has_conflict
returns-then-has_conflict c = λ cat v hc h.
    sized_refused bound_statement
    (update_conflict cat v (sym (c.has_from.ensures v h) ∙ c.if-has_from.false) (sym (c.has_returning.ensures v h) ∙ c.if-has_returning.false)
    (sym (c.has_conflict.ensures v h) ∙ c.if-has_conflict.true))

pub parts-requires : goal.parts-requires
parts-requires c =
    let p = c.requires in
    (search rules, held p.1.0 (λ v h. list_bundle assignment (is_held {f = list_of 2 assignment} (c.assignments-list.ensures v h))))

pub returns-then-parts-eq0 : goal.returns-then-parts-eq0
returns-then-parts-eq0 c = λ cat v hc h.
    sized_refused bound_statement
    (update_empty cat v (from (goal.at.returns-then-parts-eq0 c).After-assignments-list v h) (returning (goal.at.returns-then-parts-eq0 c).After-assignments-list v h) (conflict (goal.at.returns-then-parts-eq0 c).After-assignments-list v h)
    (is_empty_lem v.assignments (list_count assignment c.assignments-list.result.now (c.assignments-list.ensures v h) ∙ sym c.parts.ensures ∙ c.if-parts-eq0.true)))

pub resolve_direct_table-requires : goal.resolve_direct_table-requires
resolve_direct_table-requires c =
    let p = c.requires in (
      catalogue_list p.0,
      held p.1.0 (λ v h. (is_held {f = table_with_joins} (c.table_of.ensures v h), short_table (c.table_of.ensures v h) (update_short v (p.1.1.within v h)))),
    )

pub returns-then-not-has_condition : goal.returns-then-not-has_condition
returns-then-not-has_condition c = λ cat v hc h.
    sized_refused bound_statement
    (update_unconditioned cat v (from (goal.at.returns-then-not-has_condition c).After-assignments-list v h) (returning (goal.at.returns-then-not-has_condition c).After-assignments-list v h) (conflict (goal.at.returns-then-not-has_condition c).After-assignments-list v h) (some-assigned (goal.at.returns-then-not-has_condition c).After-table_of v h) (found (goal.at.returns-then-not-has_condition c).In-Ok cat v hc h).gives
    (absent c.condition_of-w.result.now c.has_condition.ensures (c.if-not-has_condition.true) v.condition (c.condition_of-w.ensures v h)))

pub update_size-requires : goal.update_size-requires
update_size-requires c =
    let p = c.requires in (
      held p.0 (λ cat hc. held p.1.0 (λ v h. given_sound c.args.c.now v.table hc (found (goal.at.update_size-requires c).In-Ok cat v hc h))),
      (
        update_assignments p.1.1 p.1.0 c.assignments-list.ensures,
        there_short (there (goal.at.update_size-requires c).Else-not-has_condition) (update_condition p.1.1 p.1.0 c.condition_of-w.ensures),
      ),
    )

pub returns-else-not-has_condition : goal.returns-else-not-has_condition
returns-else-not-has_condition c = λ cat v hc h.
    let w = there (goal.at.returns-else-not-has_condition c).Else-not-has_condition in
    let g = found (goal.at.returns-else-not-has_condition c).In-Ok cat v hc h in
    sized_as bound_statement
    (update_table_lem cat v (from (goal.at.returns-else-not-has_condition c).After-assignments-list v h) (returning (goal.at.returns-else-not-has_condition c).After-assignments-list v h) (conflict (goal.at.returns-else-not-has_condition c).After-assignments-list v h) (some-assigned (goal.at.returns-else-not-has_condition c).After-table_of v h) g.gives (there_is w v.condition (c.condition_of-w.ensures v h)))
    (c.update_size.ensures g.value v.assignments w.value g.holds (c.assignments-list.ensures v h) (there_reads w))

pub returns-in-Err : goal.returns-in-Err
returns-in-Err c = λ cat v hc h.
    sized_refused bound_statement
    (update_unresolved cat v (from (goal.at.returns-in-Err c).After-assignments-list v h) (returning (goal.at.returns-in-Err c).After-assignments-list v h) (conflict (goal.at.returns-in-Err c).After-assignments-list v h) (some-assigned (goal.at.returns-in-Err c).After-table_of v h)
    (resolved_off _ (c.resolve_direct_table.ensures cat v.table (catalogue_tables _ hc) (c.table_of.ensures v h)) c.in-Err.is))
