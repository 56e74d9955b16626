-- `names_beyond_ascii` meets its contract: the names at the nodes, one node after the other.
use Rattle.std.proofs.Common.{refl, rules, tests, arith}
use Rattle.std.proofs.lemmas.Iterator.{serves_from_Range, YieldsList-from_range}
use Rattle.std.proofs.lemmas.Iterator.Search.{any_from_yields_List}
use Rattle.rules.specs.Names.{beyond_ascii}
use Rattle.image_expression.specs.Names.{names_pass, begun, has_node, any_look, walk_any}
use Rattle.image_expression.proofs.Known.{known}
use Rattle.image_expression.proofs.names_beyond_ascii.Goals as goal

pub any-requires-clause-callable : goal.any-requires-clause-callable
any-requires-clause-callable c =
    serves_from_Range (λ x q k. search (rules, tests))
    (λ x low high. let h = has_node (any_look beyond_ascii) (begun (known c.type_inv.s) c.requires c.nodes.ensures) x high in search rules)

pub returns : goal.returns
returns c =
    walk_any (any_look beyond_ascii) _ 0 (omega arith) (begun (known c.type_inv.s) c.requires c.nodes.ensures)
    (any_from_yields_List (names_pass (any_look beyond_ascii) c.args.s.now) _ _ _ c.any.ensures.ran (YieldsList-from_range 0 _ _ refl refl) (λ x b q k. search (rules, tests)))
