-- `names_within` meets its contract: the names at the nodes, one node after the other.
use Rattle.std.proofs.Common.{refl, rules, tests, arith}
use Rattle.std.proofs.lemmas.Iterator.{serves_from_Range, YieldsList-from_range}
use Rattle.std.proofs.lemmas.Iterator.Search.{all_from_yields_List}
use Rattle.image_expression.specs.Names.{names_pass, Within, begun, has_node, all_look, walk_all}
use Rattle.image_expression.proofs.Known.{known}
use Rattle.image_expression.proofs.names_within.Goals as goal

pub all-requires-clause-callable : goal.all-requires-clause-callable
all-requires-clause-callable c =
    serves_from_Range (λ x q k. search (rules, tests))
    (λ x low high. let h = has_node (all_look Within) (begun (known c.type_inv.s) c.requires c.nodes.ensures) x high in search rules)

pub returns : goal.returns
returns c =
    walk_all (all_look Within) _ 0 (omega arith) (begun (known c.type_inv.s) c.requires c.nodes.ensures)
    (all_from_yields_List (names_pass (all_look Within) c.args.s.now) _ _ _ c.all.ensures.ran (YieldsList-from_range 0 _ _ refl refl) (λ x b q k. search (rules, tests)))
