-- `nodes::two_operands` meets its contract.
use mathlib.Core.Path.{refl}
use Rattle.image_expression.specs.Place.{bin_of}
use Rattle.write_expression.specs.Fine.{ruled_below, result_fine}
use Rattle.write_expression.proofs.nodes.two_operands.Goals as goal

pub operator-requires : goal.operator-requires
operator-requires c = (c.requires.0.0, ruled_below c.args.k c.args.a c.args.b c.requires.0.1 c.requires.1)

pub returns-then-a : goal.returns-then-a
returns-then-a c =
    let x = c.args in
    result_fine c.operator.result (bin_of x.k) x.a x.b c.result_type-ty.result x.a.nullable
    c.operator.ensures c.result_type-ty.ensures (rw c.if-a.true refl) c.requires.1

pub returns-else-a : goal.returns-else-a
returns-else-a c =
    let x = c.args in
    result_fine c.operator.result (bin_of x.k) x.a x.b c.result_type-ty.result x.b.nullable
    c.operator.ensures c.result_type-ty.ensures (rw c.if-a.false refl) c.requires.1
