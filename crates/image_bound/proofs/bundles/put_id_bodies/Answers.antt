-- `image_bound::bundles::put_id_bodies` meets its contract. The invariant: what is left of the bodies, written, gives all of them.
use Rattle.std.proofs.Common.{arith, drop, length-drop, drop_of_length-le}
use Rattle.bytes_format.proofs.Formats.{alone}
use Rattle.image_value.specs.Parts.{column_id}
use Rattle.image_bound.specs.Bundles.{bodies, bodies_next}
use Rattle.image_bound.specs.Spelt.{ids_bodies}
use Rattle.image_bound.specs.Written.{rest_all, rest_less, rest_none}
use Rattle.image_bound.proofs.bundles.put_id_bodies.Goals as goal

pub loop-id-init : goal.loop-id-init
loop-id-init c = (omega arith, rest_all _ _ _)

pub put_id-to-requires : goal.put_id-to-requires
put_id-to-requires c =
    let l = c.loop-id in
    let ids = c.args.ids.now in
    omega (arith, l.invariant.1.room, l.invariant.1.long, ids_bodies ids, ids_bodies (drop l.id-index ids), length-drop l.id-index ids, c.requires)

pub loop-id-preserved : goal.loop-id-preserved
loop-id-preserved c =
    let l = c.loop-id in
    let ids = c.args.ids.now in
    (omega arith, rest_less (rw (bodies_next (alone column_id) ids l.id-index (record { 0 = 0 }) c.loop-id-test.true) at l.invariant.1) c.put_id-to.ensures)

pub shape_of-out : goal.shape_of-out
shape_of-out c = c.loop-id.invariant.1.long

pub returns : goal.returns
unfolding bodies
returns c =
    let l = c.loop-id in
    rest_none (rw (drop_of_length-le c.args.ids.now {i = l.id-index} (omega (arith, c.loop-id-test.false))) at l.invariant.1)
