-- `bind_table::resolve_direct_table` meets its contract.
use mathlib.Core.Path.{◌≡◌, sym, ◌∙◌, subst}
use mathlib.Core.Bool.{false}
use Rattle.bytes_bundle.specs.Held.{Is, Holds, Shows, is_held, held, held_once}
use Rattle.image_parts.specs.Layout.{object_name, relation, table_with_joins}
use Rattle.image_parts.specs.NamesHeld.{is_direct}
use Rattle.rules.specs.Analyze.{resolve_direct_table}
use Rattle.rules.specs.Answers.{Answer}
use Rattle.rules.specs.Statements.{TableWithJoins, direct}
use Rattle.rules.specs.Tables.{TableSchema}
use Rattle.bind_table.specs.Told.{ResolvedAs}
use Rattle.bind_table.specs.Steps.{off_resolved}
use Rattle.bind_table.specs.Tables.{direct_shown, direct_in, table_short, resolve_joins, resolve_indirect, resolve_marked, resolve_named}
use Rattle.bind_table.proofs.resolve_direct_table.Goals.{After-relation_of-s}
use Rattle.bind_table.proofs.resolve_direct_table.Goals.{Else-relation_code-eq0}
use Rattle.bind_table.proofs.resolve_direct_table.Goals as goal

-- what holds past each test
unjoined : (c : After-relation_of-s) (v : TableWithJoins) → Holds table_with_joins c.args.w.now v → v.joins ≡ false
unjoined c v h = sym (c.has_joins.ensures v h) ∙ c.if-has_joins.false

related : (c : After-relation_of-s) → Is relation c.relation_of-s.result.now
related c = held c.requires.1.0 (λ v h. is_held {f = relation} (c.relation_of-s.ensures v h))

shown : (c : Else-relation_code-eq0) → Shows relation is_direct c.relation_of-s.result.now
shown c = direct_shown (related (goal.at.Else-relation_code-eq0 c).After-relation_of-s) c.relation_code.ensures c.if-relation_code-eq0.false

direct_is : (c : Else-relation_code-eq0) (v : TableWithJoins) → Holds table_with_joins c.args.w.now v
    → v.relation ≡ direct (direct_in (shown c)).marked (direct_in (shown c)).name
direct_is c v h = held_once relation (c.relation_of-s.ensures v h) (direct_in (shown c)).whole

pub returns-then-has_joins : goal.returns-then-has_joins
returns-then-has_joins c = λ cat v hc h.
    off_resolved (resolve_direct_table cat v) c.into.ensures
    (resolve_joins cat v (sym (c.has_joins.ensures v h) ∙ c.if-has_joins.true))

pub relation_code-requires : goal.relation_code-requires
relation_code-requires c = related (goal.at.relation_code-requires c).After-relation_of-s

pub returns-then-relation_code-eq0 : goal.returns-then-relation_code-eq0
returns-then-relation_code-eq0 c = λ cat v hc h.
    off_resolved (resolve_direct_table cat v) c.into-then-relation_code-eq0.ensures
    (resolve_indirect cat v (unjoined (goal.at.returns-then-relation_code-eq0 c).After-relation_of-s v h) (sym (c.relation_code.ensures v.relation (c.relation_of-s.ensures v h)) ∙ c.if-relation_code-eq0.true))

pub relation_is_marked-requires : goal.relation_is_marked-requires
relation_is_marked-requires c = shown (goal.at.relation_is_marked-requires c).Else-relation_code-eq0

pub returns-then-relation_is_marked : goal.returns-then-relation_is_marked
returns-then-relation_is_marked c = λ cat v hc h.
    let d = direct_in (shown (goal.at.returns-then-relation_is_marked c).Else-relation_code-eq0) in
    off_resolved (resolve_direct_table cat v) c.into-then-relation_is_marked.ensures
    (resolve_marked cat v (unjoined (goal.at.returns-then-relation_is_marked c).After-relation_of-s v h) (direct_is (goal.at.returns-then-relation_is_marked c).Else-relation_code-eq0 v h) (sym (c.relation_is_marked.ensures d.marked d.name d.whole) ∙ c.if-relation_is_marked.true))

pub relation_name-requires : goal.relation_name-requires
relation_name-requires c = shown (goal.at.relation_name-requires c).Else-relation_code-eq0

pub name_table-requires : goal.name_table-requires
name_table-requires c =
    let d = direct_in (shown (goal.at.name_table-requires c).Else-relation_code-eq0) in
    let p = c.requires in
    let n = c.relation_name.ensures d.marked d.name d.whole in
    (p.0, held p.1.0 (λ v h. (is_held {f = object_name} n, table_short p.1.1 h (direct_is (goal.at.name_table-requires c).Else-relation_code-eq0 v h) n)))

pub returns : goal.returns
returns c = λ cat v hc h.
    let d = direct_in (shown (goal.at.returns c).Else-relation_code-eq0) in
    subst (λ (a : Answer TableSchema). ResolvedAs a c.name_table.result)
    (sym (resolve_named cat v (unjoined (goal.at.returns c).After-relation_of-s v h) (direct_is (goal.at.returns c).Else-relation_code-eq0 v h) (sym (c.relation_is_marked.ensures d.marked d.name d.whole) ∙ c.if-relation_is_marked.false)))
    (c.name_table.ensures cat d.name hc (c.relation_name.ensures d.marked d.name d.whole))
