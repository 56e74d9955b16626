-- `bind_table::name_table` meets its contract.
use mathlib.Core.Path.{sym, ◌∙◌, subst}
use Rattle.bind_table.specs.Told.{ResolvedAs}
use Rattle.catalogue_lookup.specs.Finds.{TableIs}
use Rattle.rules.specs.Names.{canonical}
use Rattle.rules.specs.Tables.{table_by_name}
use Rattle.bind_table.specs.Steps.{off_resolved, looked_up}
use Rattle.bind_table.specs.Tables.{named_table, Only, only, only_is, only_short, only_value, named_several, named_is, named_none}
use Rattle.bind_table.proofs.name_table.Goals.{After-only_name}
use Rattle.bind_table.proofs.name_table.Goals as goal

-- past the test there is one part
one : (c : After-only_name) → Only c.args.n.now c.only_name.result.now
one c = only c.requires.1.0 c.object_name_code.ensures c.if-object_name_code-eq0.false c.only_name.ensures

pub returns-then-object_name_code-eq0 : goal.returns-then-object_name_code-eq0
returns-then-object_name_code-eq0 c = λ cat o hc h.
    off_resolved (named_table cat o) c.into.ensures (named_several cat o (sym (c.object_name_code.ensures o h) ∙ c.if-object_name_code-eq0.true))

pub find_named-requires : goal.find_named-requires
find_named-requires c =
    let p = c.requires in
    (p.0, (only_is (one (goal.at.find_named-requires c).After-only_name), only_short (one (goal.at.find_named-requires c).After-only_name) p.1.1))

pub returns : goal.returns
returns c = λ cat o hc h.
    let w = one (goal.at.returns c).After-only_name in
    let says = c.find_named.ensures w.value w.part cat hc in
    subst (ResolvedAs (named_table cat o)) (sym c.ok_or.ensures.value)
    (looked_up (named_table cat o) c.find_named.result
    (λ p q. let t = subst (TableIs (table_by_name cat (canonical w.value))) q says in (t.0, named_is cat o (only_value w o h) t.1, t.2))
    (λ q. off_resolved (named_table cat o) c.into-2.ensures (named_none cat o (only_value w o h) (subst (TableIs (table_by_name cat (canonical w.value))) q says))))
