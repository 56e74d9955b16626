-- `leaves::put_number` meets its contract.
use Rattle.std.proofs.Common.{rules}
use mathlib.Core.Path.{sym, ◌∙◌}
use mir.Facts.{to_z-of_z}
use mir.Syntax.{w64}
use mir.Val.{SFits}
use Rattle.write_expression.proofs.Contents.{number_room, number_puts, number_never}
use Rattle.write_expression.proofs.leaves.put_number.Goals as goal

pub put_int-requires : goal.put_int-requires
put_int-requires c =
    number_room c.args.negative c.args.s.now _ (sym c.integer_literal.ensures ∙ c.in-Some.is) c.requires

pub returns-in-Some : goal.returns-in-Some
returns-in-Some c =
    let fits : SFits w64 c.in-Some.z = search rules in
    number_puts c.args.negative c.args.s.now c.in-Some.z (sym c.integer_literal.ensures ∙ c.in-Some.is) c.literal.ensures (rw (to_z-of_z fits) at c.put_int.ensures)

pub returns-in-None : goal.returns-in-None
returns-in-None c =
    absurd (number_never c.args.negative c.args.s.now (sym c.integer_literal.ensures ∙ c.in-None.is) c.requires)
