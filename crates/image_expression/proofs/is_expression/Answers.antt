-- `is_expression` meets its contract: what the chain over the nodes found (`Walked`), and the last node.
use Rattle.std.proofs.Common.{◌-◌, not, refl, sym, ap, ◌∙◌, rules, tests, arith, ne_eqb}
use Rattle.std.proofs.lemmas.Iterator.{YieldsList-from_range}
use Rattle.std.proofs.lemmas.Iterator.Search.{all_from_yields_List}
use Rattle.image_expression.specs.Reader.{Passed, none_read, not_there, not_one_lem, begun_room, begun, good_node, walked, passed_room, stopped_end, last_decides}
use Rattle.image_expression.proofs.Known.{known}
use Rattle.image_expression.proofs.is_expression.Goals.{Else-not-all}
use Rattle.image_expression.proofs.is_expression.Goals as goal

pub returns-then-not-all_there : goal.returns-then-not-all_there
returns-then-not-all_there c = none_read (known c.type_inv.s) (λ e m. not_there e m (sym c.all_there.ensures ∙ c.if-not-all_there.true))

pub count-n-requires : goal.count-n-requires
count-n-requires c = omega (arith, begun_room c.args.s.now _ c.all_there.ensures (ap not c.if-not-all_there.false))

pub returns-then-n-eq0 : goal.returns-then-n-eq0
returns-then-n-eq0 c = none_read (known c.type_inv.s) (λ e m. not_one_lem e m (sym c.count-n.ensures.0 ∙ c.if-n-eq0.true))

pub returns-then-not-all : goal.returns-then-not-all
returns-then-not-all c =
    (walked _ (omega arith) (begun _ _ (known c.type_inv.s) c.all_there.ensures (ap not c.if-not-all_there.false) c.count-n.ensures.0 c.if-n-eq0.false)
    (all_from_yields_List (good_node c.args.s.now) _ _ _ c.all.ensures.ran (YieldsList-from_range 0 _ _ refl refl) (λ x b q k. search (rules, tests)))).failed c.if-not-all.true

-- behind the chain
passed : (c : Else-not-all) → Passed c.args.s.now c.count-n.result (c.count-n.result - 1) c.count-n.result
passed c =
    (walked _ (omega arith) (begun _ _ (known c.type_inv.s) c.all_there.ensures (ap not c.if-not-all_there.false) c.count-n.ensures.0 c.if-n-eq0.false)
    (all_from_yields_List (good_node c.args.s.now) _ _ _ c.all.ensures.ran (YieldsList-from_range 0 _ _ refl refl) (λ x b q k. search (rules, tests)))).passed c.if-not-all.false

pub end-requires : goal.end-requires
end-requires c = passed_room (passed (goal.at.end-requires c).Else-not-all) _ (omega arith)

pub bytes_behind-requires : goal.bytes_behind-requires
bytes_behind-requires c = (passed (goal.at.bytes_behind-requires c).Else-not-all).room

pub span-requires : goal.span-requires
span-requires c = passed_room (passed (goal.at.span-requires c).Else-not-all) _ (omega arith)

pub returns-then-end-bytes_behind : goal.returns-then-end-bytes_behind
returns-then-end-bytes_behind c =
    last_decides (passed (goal.at.returns-then-end-bytes_behind c).Else-not-all) (omega arith) _ _ _ c.end.ensures.0 c.bytes_behind.ensures c.if-end-bytes_behind.true c.span.ensures.0

pub returns-else-end-bytes_behind : goal.returns-else-end-bytes_behind
returns-else-end-bytes_behind c =
    ne_eqb _ _ c.if-end-bytes_behind.false
    ∙ stopped_end (passed (goal.at.returns-else-end-bytes_behind c).Else-not-all) _ _ c.end.ensures.0 c.bytes_behind.ensures c.if-end-bytes_behind.false
