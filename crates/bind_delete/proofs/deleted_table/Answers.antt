-- `bind_delete::deleted_table` meets its contract.
use mathlib.Core.Path.{◌≡◌, sym, ap, ◌∙◌, subst}
use mathlib.Core.Bool.{false}
use Rattle.bytes_bundle.specs.Held.{Is, Holds, is_held, held, held_once}
use Rattle.rules.specs.Answers.{Answer, ◌>>=◌}
use Rattle.rules.specs.Analyze as rules
use Rattle.rules.specs.Statements.{Delete}
use Rattle.rules.specs.Tables.{TableSchema, Catalogue}
use Rattle.bind_table.specs.Told.{ResolvedAs}
use Rattle.bind_table.specs.Steps.{step_on, step_off, off_resolved}
use Rattle.image_parts.specs.Layout.{table_with_joins, delete_from, deletion}
use Rattle.bind_delete.specs.Deletes.{
  deleted_table,
  beside_tables,
  beside_using,
  beside_returning,
  beside_order_by,
  beside_limit,
  past_marks,
  no_keyword_lem,
  not_one_lem,
}
use Rattle.bind_delete.specs.Within.{Sole, sole, delete_table}
use Rattle.bind_delete.proofs.deleted_table.Goals.{Else-has_tables}
use Rattle.bind_delete.proofs.deleted_table.Goals.{Else-has_using}
use Rattle.bind_delete.proofs.deleted_table.Goals.{Else-has_returning}
use Rattle.bind_delete.proofs.deleted_table.Goals.{Else-has_order_by}
use Rattle.bind_delete.proofs.deleted_table.Goals.{Else-has_limit}
use Rattle.bind_delete.proofs.deleted_table.Goals.{After-from_of-f}
use Rattle.bind_delete.proofs.deleted_table.Goals.{Else-code-eq1}
use Rattle.bind_delete.proofs.deleted_table.Goals as goal

-- what holds behind each
no_tables : (c : Else-has_tables) (v : Delete) → Holds deletion c.args.d.now v → v.tables ≡ false
no_tables c v h = sym (c.has_tables.ensures v h) ∙ c.if-has_tables.false

no-using : (c : Else-has_using) (v : Delete) → Holds deletion c.args.d.now v → v.using_clause ≡ false
no-using c v h = sym (c.has_using.ensures v h) ∙ c.if-has_using.false

no-returning : (c : Else-has_returning) (v : Delete) → Holds deletion c.args.d.now v → v.returning ≡ false
no-returning c v h = sym (c.has_returning.ensures v h) ∙ c.if-has_returning.false

no-order-by : (c : Else-has_order_by) (v : Delete) → Holds deletion c.args.d.now v → v.order_by ≡ false
no-order-by c v h = sym (c.has_order_by.ensures v h) ∙ c.if-has_order_by.false

unmarked : (c : Else-has_limit) (cat : Catalogue) (v : Delete) → Holds deletion c.args.d.now v
    → deleted_table cat v ≡ (rules.delete_from v.from >>= rules.resolve_direct_table cat)
unmarked c cat v h =
    past_marks cat v (no_tables (goal.at.Else-has_limit c).Else-has_tables v h) (no-using (goal.at.Else-has_limit c).Else-has_using v h) (no-returning (goal.at.Else-has_limit c).Else-has_returning v h) (no-order-by (goal.at.Else-has_limit c).Else-has_order_by v h)
    (sym (c.has_limit.ensures v h) ∙ c.if-has_limit.false)

from_is : (c : After-from_of-f) → Is delete_from c.from_of-f.result.now
from_is c = held c.requires.1.is (λ v h. is_held {f = delete_from} (c.from_of-f.ensures v h))

one_table : (c : Else-code-eq1) → Sole c.from_of-f.result.now
one_table c = sole (from_is (goal.at.Else-code-eq1 c).After-from_of-f) c.from_code-code.ensures c.if-code-eq0.false c.if-code-eq1.false

pub has_tables-requires : goal.has_tables-requires
has_tables-requires c = c.requires.1.is

pub returns-then-has_tables : goal.returns-then-has_tables
returns-then-has_tables c = λ cat v hc h.
    off_resolved (deleted_table cat v) c.into.ensures (beside_tables cat v (sym (c.has_tables.ensures v h) ∙ c.if-has_tables.true))

pub has_using-requires : goal.has_using-requires
has_using-requires c = c.requires.1.is

pub returns-then-has_using : goal.returns-then-has_using
returns-then-has_using c = λ cat v hc h.
    off_resolved (deleted_table cat v) c.into-then-has_using.ensures (beside_using cat v (no_tables (goal.at.returns-then-has_using c).Else-has_tables v h) (sym (c.has_using.ensures v h) ∙ c.if-has_using.true))

pub has_returning-requires : goal.has_returning-requires
has_returning-requires c = c.requires.1.is

pub returns-then-has_returning : goal.returns-then-has_returning
returns-then-has_returning c = λ cat v hc h.
    off_resolved (deleted_table cat v) c.into-then-has_returning.ensures
    (beside_returning cat v (no_tables (goal.at.returns-then-has_returning c).Else-has_tables v h) (no-using (goal.at.returns-then-has_returning c).Else-has_using v h) (sym (c.has_returning.ensures v h) ∙ c.if-has_returning.true))

pub has_order_by-requires : goal.has_order_by-requires
has_order_by-requires c = c.requires.1.is

pub returns-then-has_order_by : goal.returns-then-has_order_by
returns-then-has_order_by c = λ cat v hc h.
    off_resolved (deleted_table cat v) c.into-then-has_order_by.ensures
    (beside_order_by cat v (no_tables (goal.at.returns-then-has_order_by c).Else-has_tables v h) (no-using (goal.at.returns-then-has_order_by c).Else-has_using v h) (no-returning (goal.at.returns-then-has_order_by c).Else-has_returning v h) (sym (c.has_order_by.ensures v h) ∙ c.if-has_order_by.true))

pub has_limit-requires : goal.has_limit-requires
has_limit-requires c = c.requires.1.is

pub returns-then-has_limit : goal.returns-then-has_limit
returns-then-has_limit c = λ cat v hc h.
    off_resolved (deleted_table cat v) c.into-then-has_limit.ensures
    (beside_limit cat v (no_tables (goal.at.returns-then-has_limit c).Else-has_tables v h) (no-using (goal.at.returns-then-has_limit c).Else-has_using v h) (no-returning (goal.at.returns-then-has_limit c).Else-has_returning v h) (no-order-by (goal.at.returns-then-has_limit c).Else-has_order_by v h) (sym (c.has_limit.ensures v h) ∙ c.if-has_limit.true))

pub from_of-f-requires : goal.from_of-f-requires
from_of-f-requires c = c.requires.1.is

pub from_code-code-requires : goal.from_code-code-requires
from_code-code-requires c = from_is (goal.at.from_code-code-requires c).After-from_of-f

pub returns-then-code-eq0 : goal.returns-then-code-eq0
returns-then-code-eq0 c = λ cat v hc h.
    off_resolved (deleted_table cat v) c.into-then-code-eq0.ensures
    (unmarked (goal.at.returns-then-code-eq0 c).Else-has_limit cat v h ∙ step_off _ (no_keyword_lem v.from (sym (c.from_code-code.ensures v.from (c.from_of-f.ensures v h)) ∙ c.if-code-eq0.true)))

pub returns-then-code-eq1 : goal.returns-then-code-eq1
returns-then-code-eq1 c = λ cat v hc h.
    off_resolved (deleted_table cat v) c.into-then-code-eq1.ensures
    (unmarked (goal.at.returns-then-code-eq1 c).Else-has_limit cat v h ∙ step_off _ (not_one_lem v.from (sym (c.from_code-code.ensures v.from (c.from_of-f.ensures v h)) ∙ c.if-code-eq1.true)))

pub table_of-requires : goal.table_of-requires
table_of-requires c = from_is (goal.at.table_of-requires c).After-from_of-f

pub resolve_direct_table-requires : goal.resolve_direct_table-requires
resolve_direct_table-requires c =
    let p = c.requires in
    let s = one_table (goal.at.resolve_direct_table-requires c).Else-code-eq1 in
    let h = c.table_of.ensures s.value s.whole in
    (p.0, (is_held {f = table_with_joins} h, delete_table p.1 c.from_of-f.ensures s h))

pub returns : goal.returns
returns c = λ cat v hc h.
    let s = one_table (goal.at.returns c).Else-code-eq1 in
    subst (λ (a : Answer TableSchema). ResolvedAs a c.resolve_direct_table.result)
    (sym (unmarked (goal.at.returns c).Else-has_limit cat v h ∙ step_on _ (ap rules.delete_from (held_once delete_from (c.from_of-f.ensures v h) s.whole))))
    (c.resolve_direct_table.ensures cat s.value hc (c.table_of.ensures s.value s.whole))
