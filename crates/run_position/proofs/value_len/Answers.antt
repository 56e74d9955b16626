-- `run_position::value_len` meets its contract.
use native.Mathlib.Omega.{arith}
use borrow.Author.Rules.{rules}
use Rattle.bytes_bundle.specs.Held.{list_bundle}
use Rattle.bind_where.specs.Short.{known}
use Rattle.image_parts.specs.Layout.{assignment}
use Rattle.bind_update.specs.Within.{assignment_value}
use Rattle.run_position.specs.Drawing.{drawing_there, drawing_kept, drawing_below, drawing_few, drawing_short, drawing_comes}
use Rattle.run_position.proofs.value_len.Goals as goal

pub value_at-requires : goal.value_at-requires
value_at-requires c = drawing_there c.requires.1.drawing

pub returns-in-None : goal.returns-in-None
returns-in-None c =
    let d = c.requires.1 in
    let k = c.in-None.is in
    let f = c.value_at.ensures in (
      omega (arith, drawing_below d.drawing (known c.type_inv.r) k, c.kept_len.ensures d.worth (drawing_kept d.drawing k _ f)),
      λ u d. c.kept_len.ensures u (drawing_kept d k _ f),
    )

pub part-requires : goal.part-requires
part-requires c = let p = c.requires in (search rules, list_bundle assignment p.0.1.is, drawing_few p.1.drawing c.in-Some.is)

pub value_of-requires : goal.value_of-requires
value_of-requires c = let p = c.requires in (drawing_short p.1.drawing c.in-Some.is c.part.ensures p.0.1).is

pub given_len-requires : goal.given_len-requires
given_len-requires c =
    let p = c.requires in
    let n = c.in-Some.is in
    let e = c.part.ensures in
    ((p.0.0, assignment_value (drawing_short p.1.drawing n e p.0.1) c.value_of.ensures), record { worth = p.1.worth; comes = drawing_comes p.1.drawing n e c.value_of.ensures })

pub returns-in-Some : goal.returns-in-Some
returns-in-Some c = (c.given_len.ensures.0, λ u d. c.given_len.ensures.1 u (drawing_comes d c.in-Some.is c.part.ensures c.value_of.ensures))
