-- `image_bound::columns::put_column_ref` meets its contract: five writes, one behind the other.
use Rattle.bytes_wire.specs.Sets.{then}
use Rattle.image_bound.specs.Written.{spelt}
use Rattle.image_bound.specs.Spelt.{column_ref_spelt}
use Rattle.image_bound.proofs.columns.put_column_ref.Goals as goal

pub returns : goal.returns
returns c =
    spelt (column_ref_spelt _)
    (then
    (then c.put-a.ensures (then c.put_id-b.ensures (then c.put-c.ensures c.put_type_and_null-d.ensures)))
    c.put_all.ensures)
