-- `counts::own_nodes` meets its contract.
use mathlib.Core.Path.{sym, ◌∙◌}
use native.Mathlib.Omega.{arith}
use Rattle.image_expression.specs.Place.{node_at}
use Rattle.image_expression.specs.Laws.{last_operand}
use Rattle.write_expression.specs.Counts.{parens_weight, small_weight, signed_weight, unsigned_weight}
use Rattle.write_expression.proofs.Known.{known}
use Rattle.write_expression.proofs.counts.own_nodes.Goals as goal

pub returns-then-k-eq9 : goal.returns-then-k-eq9
returns-then-k-eq9 c =
    sym (parens_weight (node_at c.args.e.now) c.args.i _ c.kind-k.ensures c.if-k-eq9.true)

pub returns-then-k-lt12 : goal.returns-then-k-lt12
returns-then-k-lt12 c =
    sym (small_weight (node_at c.args.e.now) c.args.i _ c.kind-k.ensures c.if-k-eq9.false c.if-k-lt12.true)

pub overflow_sub-i : goal.overflow_sub-i
overflow_sub-i c =
    (last_operand (known c.type_inv.e) c.requires _ c.kind-k.ensures (omega arith)).0

pub returns-then-signs_number : goal.returns-then-signs_number
returns-then-signs_number c =
    sym (signed_weight (node_at c.args.e.now) c.args.i _ c.kind-k.ensures c.if-k-lt12.false (sym c.signs_number.ensures ∙ c.if-signs_number.true))

pub returns : goal.returns
returns c =
    sym (unsigned_weight (node_at c.args.e.now) c.args.i _ c.kind-k.ensures c.if-k-lt12.false (sym c.signs_number.ensures ∙ c.if-signs_number.false))
