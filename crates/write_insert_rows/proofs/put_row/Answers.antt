-- `write_insert_rows::put_row` meets its contract. The invariant: the values so far are written, and their lengths in front of all.
use native.Mathlib.Omega.{arith}
use Rattle.std.proofs.Common.{length-append}
use Rattle.bytes_bundle.specs.Held.{list_bundle}
use Rattle.bytes_bundle.specs.Numbered.{reached, reached_part, reached_on, reached_end}
use Rattle.image_value.specs.Parts.{value}
use Rattle.image_expression.specs.Expression.{expression}
use Rattle.rules.specs.Analyze.{insert_literal}
use Rattle.write_insert_rows.specs.Listing.{list_room, listing_none, listing_gives, listing_room, listing_more, listing_all, puts_forth, puts_long}
use borrow.Author.Rules.{rules}
use Rattle.write_insert_rows.proofs.put_row.Goals as goal

pub parts-n-requires : goal.parts-n-requires
parts-n-requires c = (search rules, list_bundle expression c.requires.is)

pub put_length-start-requires : goal.put_length-start-requires
put_length-start-requires c = omega (arith, list_room expression insert_literal value c.requires c.parts-n.ensures)

pub overflow_mul-to : goal.overflow_mul-to
overflow_mul-to c = omega (arith, list_room expression insert_literal value c.requires c.parts-n.ensures)

pub overflow_add-to : goal.overflow_add-to
overflow_add-to c = omega (arith, list_room expression insert_literal value c.requires c.parts-n.ensures, c.put_length-start.ensures.end)

pub iter-e-items-requires : goal.iter-e-items-requires
iter-e-items-requires c = (search rules, list_bundle expression c.requires.is)

pub loop-e-init : goal.loop-e-init
loop-e-init c = (reached (cc), listing_none (omega arith) c.parts-n.ensures)

pub put_value-next-requires : goal.put_value-next-requires
put_value-next-requires c =
    let l = c.loop-e.invariant in
    listing_gives l.1 (reached_part l.0 c.in-Some.ensures.steps) c.requires c.parts-n.result c.put_length-start.ensures

pub overflow_sub-next : goal.overflow_sub-next
overflow_sub-next c =
    let l = c.loop-e.invariant in
    puts_forth (listing_gives l.1 (reached_part l.0 c.in-Some.ensures.steps) c.requires c.parts-n.result c.put_length-start.ensures) c.put_value-next.ensures

pub put_length-lengths-requires : goal.put_length-lengths-requires
put_length-lengths-requires c =
    let l = c.loop-e.invariant in
    listing_room l.1 (reached_part l.0 c.in-Some.ensures.steps) c.requires c.parts-n.result c.put_length-start.ensures c.put_value-next.ensures

pub loop-e-preserved : goal.loop-e-preserved
loop-e-preserved c =
    let l = c.loop-e.invariant in
    let s = c.in-Some.ensures.steps in
    rw (length-append c.loop-e.yielded _) (reached_on l.0 s, listing_more l.1 (reached_part l.0 s) c.put_value-next.ensures c.put_length-lengths.ensures)

pub shape_of-out : goal.shape_of-out
shape_of-out c =
    let l = c.loop-e.invariant in
    puts_long c.requires (listing_all l.1 c.parts-n.ensures (reached_end l.0 c.in-None.ensures.steps.0) c.put_length-start.ensures c.requires.is)

pub returns : goal.returns
returns c = let l = c.loop-e.invariant in listing_all l.1 c.parts-n.ensures (reached_end l.0 c.in-None.ensures.steps.0) c.put_length-start.ensures c.requires.is
