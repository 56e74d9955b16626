-- `bind_table::new_table_name` meets its contract.
use mathlib.Core.Path.{sym, ap, ◌∙◌, subst}
use lib.ListN.{length}
use Rattle.bytes_format.proofs.Formats.{text}
use Rattle.catalogue_lookup.specs.Finds.{FindsTable}
use Rattle.rules.specs.Names.{canonical}
use Rattle.bind_table.specs.Steps.{sized_given, sized_refused}
use Rattle.bind_table.specs.Tables.{canonical_length, Only, only, only_is, only_short, only_value, new_several, new_taken, new_free}
use Rattle.bind_table.proofs.new_table_name.Goals.{After-only_name-name}
use Rattle.bind_table.proofs.new_table_name.Goals as goal

-- past the test there is one part
one : (c : After-only_name-name) → Only c.args.n.now c.only_name-name.result.now
one c = only c.requires.1.0 c.object_name_code.ensures c.if-object_name_code-eq0.false c.only_name-name.ensures

pub returns-then-object_name_code-eq0 : goal.returns-then-object_name_code-eq0
returns-then-object_name_code-eq0 c = λ cat o hc h. sized_refused text (new_several cat o (sym (c.object_name_code.ensures o h) ∙ c.if-object_name_code-eq0.true))

pub find_named-requires : goal.find_named-requires
find_named-requires c =
    let p = c.requires in
    (p.0, (only_is (one (goal.at.find_named-requires c).After-only_name-name), only_short (one (goal.at.find_named-requires c).After-only_name-name) p.1.1))

pub name_text-requires : goal.name_text-requires
name_text-requires c = only_is (one (goal.at.name_text-requires c).After-only_name-name)

pub returns-in-Some : goal.returns-in-Some
returns-in-Some c = λ cat o hc h.
    let w = one (goal.at.returns-in-Some c).After-only_name-name in
    let t = subst (FindsTable c.args.c.now (canonical w.value)) c.in-Some.is
    (c.find_named.ensures w.value w.part) cat hc in
    sized_refused text (new_taken cat o (only_value w o h) t.1)

pub returns-in-None : goal.returns-in-None
returns-in-None c = λ cat o hc h.
    let w = one (goal.at.returns-in-None c).After-only_name-name in
    let t = subst (FindsTable c.args.c.now (canonical w.value)) c.in-None.is
    (c.find_named.ensures w.value w.part) cat hc in
    sized_given text (new_free cat o (only_value w o h) t) (ap length (c.name_text.ensures w.value w.part) ∙ sym (canonical_length w.value))
