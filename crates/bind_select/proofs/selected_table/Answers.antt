-- `bind_select::selected_table` meets its contract.
use mathlib.Core.Path.{◌≡◌, sym, ◌∙◌, subst}
use mathlib.Core.Bool.{false}
use Rattle.bytes_bundle.specs.Held.{Is, Holds, is_held, held, held_once}
use Rattle.rules.specs.Answers.{Answer}
use Rattle.rules.specs.Statements.{Select}
use Rattle.rules.specs.Tables.{TableSchema}
use Rattle.bind_table.specs.Told.{ResolvedAs}
use Rattle.bind_table.specs.Steps.{off_resolved}
use Rattle.image_parts.specs.Layout.{table_with_joins, select_from, select}
use Rattle.bind_select.specs.Selects.{selected_table, with_features, from_several, from_one}
use Rattle.bind_select.specs.Within.{Sole, sole, select_table}
use Rattle.bind_select.proofs.selected_table.Goals.{Else-has_features}
use Rattle.bind_select.proofs.selected_table.Goals.{After-from_of-f}
use Rattle.bind_select.proofs.selected_table.Goals.{Else-from_code-eq0}
use Rattle.bind_select.proofs.selected_table.Goals as goal

-- what holds past each test
plain : (c : Else-has_features) (v : Select) → Holds select c.args.s.now v → v.features ≡ false
plain c v h = sym (c.has_features.ensures v h) ∙ c.if-has_features.false

from_is : (c : After-from_of-f) → Is select_from c.from_of-f.result.now
from_is c = held c.requires.1.is (λ v h. is_held {f = select_from} (c.from_of-f.ensures v h))

one_table : (c : Else-from_code-eq0) → Sole c.from_of-f.result.now
one_table c = sole (from_is (goal.at.Else-from_code-eq0 c).After-from_of-f) c.from_code.ensures c.if-from_code-eq0.false

pub has_features-requires : goal.has_features-requires
has_features-requires c = c.requires.1.is

pub returns-then-has_features : goal.returns-then-has_features
returns-then-has_features c = λ cat v hc h.
    off_resolved (selected_table cat v) c.into.ensures (with_features cat v (sym (c.has_features.ensures v h) ∙ c.if-has_features.true))

pub from_of-f-requires : goal.from_of-f-requires
from_of-f-requires c = c.requires.1.is

pub from_code-requires : goal.from_code-requires
from_code-requires c = from_is (goal.at.from_code-requires c).After-from_of-f

pub returns-then-from_code-eq0 : goal.returns-then-from_code-eq0
returns-then-from_code-eq0 c = λ cat v hc h.
    off_resolved (selected_table cat v) c.into-then-from_code-eq0.ensures
    (from_several cat v (plain (goal.at.returns-then-from_code-eq0 c).Else-has_features v h) (sym (c.from_code.ensures v.from (c.from_of-f.ensures v h)) ∙ c.if-from_code-eq0.true))

pub table_of-requires : goal.table_of-requires
table_of-requires c = from_is (goal.at.table_of-requires c).After-from_of-f

pub resolve_direct_table-requires : goal.resolve_direct_table-requires
resolve_direct_table-requires c =
    let p = c.requires in
    let w = one_table (goal.at.resolve_direct_table-requires c).Else-from_code-eq0 in
    let h = c.table_of.ensures w.value w.whole in
    (p.0, (is_held {f = table_with_joins} h, select_table p.1 c.from_of-f.ensures w h))

pub returns : goal.returns
returns c = λ cat v hc h.
    let w = one_table (goal.at.returns c).Else-from_code-eq0 in
    subst (λ (a : Answer TableSchema). ResolvedAs a c.resolve_direct_table.result)
    (sym (from_one cat v (plain (goal.at.returns c).Else-has_features v h) (held_once select_from (c.from_of-f.ensures v h) w.whole)))
    (c.resolve_direct_table.ensures cat w.value hc (c.table_of.ensures w.value w.whole))
