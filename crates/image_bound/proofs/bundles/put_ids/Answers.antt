-- `image_bound::bundles::put_ids` meets its contract: the count, the lengths, the ids, one behind the other.
use native.Mathlib.Omega.{arith}
use mathlib.Core.Path.{◌≡◌, sym, ap, ◌∙◌}
use Prim.Native.Nat.{◌≤◌}
use lib.ListN.{length, take}
use lib.Seq.{length-take-le}
use Rattle.bytes_format.proofs.Formats.{alone}
use Rattle.image_value.specs.Parts.{column_id}
use Rattle.image_bound.specs.Written.{wrote_list, ended, spelt}
use Rattle.image_bound.specs.Spelt.{id_lengths, id_lengths_length, ids_lengths}
use borrow.Author.Rules.{rules}
use Rattle.image_bound.proofs.bundles.put_ids.Goals as goal

pub put_id_bodies-requires : goal.put_id_bodies-requires
put_id_bodies-requires c =
    let long : c.args.n ≤ length c.args.ids = search rules in
    omega (arith, c.requires.1, ended c.put_id_lengths-b.ensures (id_lengths_length c.args.n), length-take-le c.args.n c.args.ids long)

pub returns : goal.returns
returns c =
    let key = take c.args.n c.args.ids in
    let long : c.args.n ≤ length c.args.ids = search rules in
    let n : c.args.n ≡ length key = sym (length-take-le c.args.n c.args.ids long) in
    wrote_list (alone column_id) key c.put_count-a.ensures (spelt (ap id_lengths n ∙ ids_lengths key) c.put_id_lengths-b.ensures) c.put_id_bodies.ensures n
