-- `bind_expression::expression_size` meets its contract: the root is the last node.
use Rattle.std.proofs.lemmas.Result.{err_from_is_err_and}
use Rattle.bind_expression.specs.Small.{small}
use Rattle.bind_expression.proofs.Places.{known, root}
use Rattle.bind_expression.proofs.Steps.{size_says, refused_says}
use Rattle.bind_expression.proofs.expression_size.Goals as goal

pub overflow_sub-root : goal.overflow_sub-root
overflow_sub-root c = (root (known c.type_inv.e) c.requires _ c.nodes-root.ensures).0

pub mark-requires : goal.mark-requires
mark-requires c = (root (known c.type_inv.e) c.requires _ c.nodes-root.ensures).1

pub run_len-requires : goal.run_len-requires
run_len-requires c =
    let b = known c.type_inv.e in
    small b (root b c.requires _ c.nodes-root.ensures).1 c.mark.ensures c.in_ok-m.was

pub returns : goal.returns
returns c =
    let b = known c.type_inv.e in
    size_says c.args.t.now c.args.e.now b _ c.nodes-root.ensures _ c.mark.ensures _ c.in_ok-m.was _ c.run_len.ensures

pub returns-in_err-m : goal.returns-in_err-m
returns-in_err-m c =
    let p = err_from_is_err_and c.from_residual.result c.from_residual.ensures.1 in
    rw (p.1, p.2) (refused_says c.args.t.now c.args.e.now (known c.type_inv.e) _ c.nodes-root.ensures _ c.mark.ensures _ c.in_err-m.was)
