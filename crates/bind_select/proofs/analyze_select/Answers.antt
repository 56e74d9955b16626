-- `bind_select::analyze_select` meets its contract.
use mathlib.Core.Path.{◌≡◌, sym, ◌∙◌}
use mathlib.Core.Bool.{false}
use Rattle.bytes_bundle.specs.Held.{Is, Holds, is_held, held, held_once}
use Rattle.image_bound.specs.Layout.{bound_statement}
use Rattle.image_catalogue.specs.Layout.{table}
use Rattle.image_catalogue.specs.Values.{catalogue_list, catalogue_tables}
use Rattle.bind_table.specs.Steps.{step_on, step_off, sized_as, sized_refused, resolved_is, resolved_off}
use Rattle.rules.specs.Statements.{Query}
use Rattle.image_parts.specs.Layout.{select, query_body, selection}
use Rattle.bind_select.specs.Selects.{with_clauses, not_plain_lem, plainly}
use Rattle.bind_select.specs.Within.{SelectWithin, Plain, plain, plain_within}
use Rattle.bind_select.proofs.analyze_select.Goals.{Else-has_clauses}
use Rattle.bind_select.proofs.analyze_select.Goals.{After-body_of-b}
use Rattle.bind_select.proofs.analyze_select.Goals.{Else-body_code-eq0}
use Rattle.bind_select.proofs.analyze_select.Goals.{After-select_of-s}
use Rattle.bind_select.proofs.analyze_select.Goals as goal

-- what holds past each test
unclaused : (c : Else-has_clauses) (v : Query) → Holds selection c.args.q.now v → v.clauses ≡ false
unclaused c v h = sym (c.has_clauses.ensures v h) ∙ c.if-has_clauses.false

body_is : (c : After-body_of-b) → Is query_body c.body_of-b.result.now
body_is c = held c.requires.1.is (λ v h. is_held {f = query_body} (c.body_of-b.ensures v h))

plain_one : (c : Else-body_code-eq0) → Plain c.body_of-b.result.now
plain_one c = plain (body_is (goal.at.Else-body_code-eq0 c).After-body_of-b) c.body_code.ensures c.if-body_code-eq0.false

plain-select : (c : After-select_of-s) → Holds select c.select_of-s.result.now (plain_one (goal.at.After-select_of-s c).Else-body_code-eq0).value
plain-select c = c.select_of-s.ensures (plain_one (goal.at.After-select_of-s c).Else-body_code-eq0).value (plain_one (goal.at.After-select_of-s c).Else-body_code-eq0).whole

select_within : (c : After-select_of-s) → SelectWithin c.select_of-s.result.now
select_within c = plain_within c.requires.1 c.body_of-b.ensures (plain_one (goal.at.After-select_of-s c).Else-body_code-eq0) (plain-select c)

pub has_clauses-requires : goal.has_clauses-requires
has_clauses-requires c = c.requires.1.is

pub returns-then-has_clauses : goal.returns-then-has_clauses
returns-then-has_clauses c = λ cat v hc h. sized_refused bound_statement (with_clauses cat v (sym (c.has_clauses.ensures v h) ∙ c.if-has_clauses.true))

pub body_of-b-requires : goal.body_of-b-requires
body_of-b-requires c = c.requires.1.is

pub body_code-requires : goal.body_code-requires
body_code-requires c = body_is (goal.at.body_code-requires c).After-body_of-b

pub returns-then-body_code-eq0 : goal.returns-then-body_code-eq0
returns-then-body_code-eq0 c = λ cat v hc h.
    sized_refused bound_statement (not_plain_lem cat v (unclaused (goal.at.returns-then-body_code-eq0 c).Else-has_clauses v h) (sym (c.body_code.ensures v.body (c.body_of-b.ensures v h)) ∙ c.if-body_code-eq0.true))

pub select_of-s-requires : goal.select_of-s-requires
select_of-s-requires c = body_is (goal.at.select_of-s-requires c).After-body_of-b

pub selected_table-requires : goal.selected_table-requires
selected_table-requires c = (catalogue_list c.requires.0, select_within (goal.at.selected_table-requires c).After-select_of-s)

pub select_size-requires : goal.select_size-requires
select_size-requires c = held c.requires.0 (λ cat hc. (
  is_held {f = table}
      (resolved_is _ (c.selected_table.ensures cat _ (catalogue_tables c.args.c.now hc) (plain-select (goal.at.select_size-requires c).After-select_of-s)) c.in-Ok.is).holds,
  select_within (goal.at.select_size-requires c).After-select_of-s,
))

pub returns-in-Ok : goal.returns-in-Ok
returns-in-Ok c = λ cat v hc h.
    let w = plain_one (goal.at.returns-in-Ok c).Else-body_code-eq0 in
    let t = resolved_is _ (c.selected_table.ensures cat w.value (catalogue_tables _ hc) (plain-select (goal.at.returns-in-Ok c).After-select_of-s)) c.in-Ok.is in
    sized_as bound_statement
    (plainly cat v (unclaused (goal.at.returns-in-Ok c).Else-has_clauses v h) (held_once query_body (c.body_of-b.ensures v h) w.whole) ∙ step_on _ t.gives)
    (c.select_size.ensures t.value w.value t.holds (plain-select (goal.at.returns-in-Ok c).After-select_of-s))

pub returns-in-Err : goal.returns-in-Err
returns-in-Err c = λ cat v hc h.
    let w = plain_one (goal.at.returns-in-Err c).Else-body_code-eq0 in
    sized_refused bound_statement
    (plainly cat v (unclaused (goal.at.returns-in-Err c).Else-has_clauses v h) (held_once query_body (c.body_of-b.ensures v h) w.whole)
    ∙ step_off _ (resolved_off _ (c.selected_table.ensures cat w.value (catalogue_tables _ hc) (plain-select (goal.at.returns-in-Err c).After-select_of-s)) c.in-Err.is))
