-- `run_position::put_value` meets its contract.
use borrow.Author.Rules.{rules}
use Rattle.bytes_bundle.specs.Held.{list_bundle}
use Rattle.image_parts.specs.Layout.{assignment}
use Rattle.bind_update.specs.Within.{assignment_value}
use Rattle.run_position.specs.Drawing.{drawing_there, drawing_kept, drawing_few, drawing_short, drawing_comes, into_kept, into_given}
use Rattle.run_position.proofs.put_value.Goals as goal

pub value_at-requires : goal.value_at-requires
value_at-requires c = drawing_there c.requires.1.drawing

pub put_kept-requires : goal.put_kept-requires
put_kept-requires c = into_kept c.requires.1 c.in-None.is _ c.value_at.ensures

pub returns-in-None : goal.returns-in-None
returns-in-None c = λ u d. c.put_kept.ensures u (drawing_kept d c.in-None.is _ c.value_at.ensures)

pub part-requires : goal.part-requires
part-requires c = let p = c.requires in (search rules, list_bundle assignment p.0.1.is, drawing_few p.1.drawing c.in-Some.is)

pub value_of-requires : goal.value_of-requires
value_of-requires c = let p = c.requires in (drawing_short p.1.drawing c.in-Some.is c.part.ensures p.0.1).is

pub put_given-requires : goal.put_given-requires
put_given-requires c =
    let p = c.requires in
    let n = c.in-Some.is in
    let e = c.part.ensures in
    ((p.0.0, assignment_value (drawing_short p.1.drawing n e p.0.1) c.value_of.ensures), into_given p.1 n e c.value_of.ensures)

pub returns-in-Some : goal.returns-in-Some
returns-in-Some c = λ u d. c.put_given.ensures u (drawing_comes d c.in-Some.is c.part.ensures c.value_of.ensures)
