-- `write_insert_columns::put_targets` meets its contract. The invariant: the columns so far are written, and their lengths in front of all.
use native.Mathlib.Omega.{arith}
use borrow.Author.Tests.{leb-true}
use Rattle.std.proofs.Common.{length-append}
use Rattle.std.specs.Prelude.{length}
use Rattle.bytes_bundle.specs.Held.{list_bundle}
use Rattle.bytes_bundle.specs.Numbered.{reached, reached_part, reached_on, reached_end}
use Rattle.image_parts.specs.Layout.{name}
use Rattle.image_bound.specs.Columns.{bound_column_ref}
use Rattle.bind_repeats.specs.Short.{short_entry}
use Rattle.write_insert_rows.specs.Listing.{list_room, listing_none, listing_gives, listing_room, listing_more, listing_all, puts_forth, puts_long}
use Rattle.write_insert_columns.specs.Refs.{target}
use borrow.Author.Rules.{rules}
use Rattle.write_insert_columns.proofs.put_targets.Goals as goal

pub parts-n-requires : goal.parts-n-requires
parts-n-requires c = (search rules, list_bundle name c.requires.0.is)

pub put_length-start-requires : goal.put_length-start-requires
put_length-start-requires c = let w = c.requires.1 in omega (arith, list_room name (target w.schema) bound_column_ref w.made c.parts-n.ensures)

pub overflow_mul-to : goal.overflow_mul-to
overflow_mul-to c = let w = c.requires.1 in omega (arith, list_room name (target w.schema) bound_column_ref w.made c.parts-n.ensures)

pub overflow_add-to : goal.overflow_add-to
overflow_add-to c = let w = c.requires.1 in omega (arith, list_room name (target w.schema) bound_column_ref w.made c.parts-n.ensures, c.put_length-start.ensures.end)

pub iter-name-items-requires : goal.iter-name-items-requires
iter-name-items-requires c = (search rules, list_bundle name c.requires.0.is)

pub loop-name-init : goal.loop-name-init
loop-name-init c = (reached (cc), record { at = λ v h. listing_none (omega arith) c.parts-n.ensures })

pub put_target-next-requires : goal.put_target-next-requires
put_target-next-requires c =
    let w = c.requires.1 in
    let b = c.loop-name.invariant.1.at w.schema w.holds in
    let d = reached_part c.loop-name.invariant.0 c.in-Some.ensures.steps in (
      record { short = λ v h. leb-true (length v.text) 128 ((short_entry c.requires.0 d).short v h) },
      record { schema = w.schema; holds = w.holds; made = listing_gives b d w.made c.parts-n.result c.put_length-start.ensures },
    )

pub overflow_sub-next : goal.overflow_sub-next
overflow_sub-next c =
    let w = c.requires.1 in
    let b = c.loop-name.invariant.1.at w.schema w.holds in
    let d = reached_part c.loop-name.invariant.0 c.in-Some.ensures.steps in
    puts_forth (listing_gives b d w.made c.parts-n.result c.put_length-start.ensures) (c.put_target-next.ensures w.schema w.holds)

pub put_length-lengths-requires : goal.put_length-lengths-requires
put_length-lengths-requires c =
    let w = c.requires.1 in
    let b = c.loop-name.invariant.1.at w.schema w.holds in
    let d = reached_part c.loop-name.invariant.0 c.in-Some.ensures.steps in
    listing_room b d w.made c.parts-n.result c.put_length-start.ensures (c.put_target-next.ensures w.schema w.holds)

pub loop-name-preserved : goal.loop-name-preserved
loop-name-preserved c =
    let l = c.loop-name.invariant in
    let s = c.in-Some.ensures.steps in
    rw (length-append c.loop-name.yielded _) (
      reached_on l.0 s,
      record { at = λ v h. listing_more (l.1.at v h) (reached_part l.0 s) (c.put_target-next.ensures v h) c.put_length-lengths.ensures },
    )

pub shape_of-out : goal.shape_of-out
shape_of-out c =
    let w = c.requires.1 in
    let l = c.loop-name.invariant in
    puts_long w.made (listing_all (l.1.at w.schema w.holds) c.parts-n.ensures (reached_end l.0 c.in-None.ensures.steps.0) c.put_length-start.ensures w.made.is)

pub returns : goal.returns
returns c = λ v h.
    let l = c.loop-name.invariant in
    listing_all (l.1.at v h) c.parts-n.ensures (reached_end l.0 c.in-None.ensures.steps.0) c.put_length-start.ensures c.requires.0.is
