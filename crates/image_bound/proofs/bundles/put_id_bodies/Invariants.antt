-- `image_bound::bundles::put_id_bodies` meets its contract. The invariant: what is left of the bodies, written, gives all of them.
use Rattle.std.proofs.Common.{◌≤◌, length, drop}
use Rattle.bytes_format.proofs.Formats.{alone}
use Rattle.image_value.specs.Parts.{column_id}
use Rattle.image_bound.specs.Bundles.{bodies}
use Rattle.image_bound.specs.Written.{Rest}
use Rattle.image_bound.proofs.bundles.put_id_bodies.Given as goal

abbrev pub invariant-loop-id : goal.invariant-loop-id
invariant-loop-id l =
    (l.id-index ≤ length l.ids) × Rest l.initial.out l.at (bodies (alone column_id) l.ids) (bodies (alone column_id) (drop l.id-index l.ids)) l.to l.out
