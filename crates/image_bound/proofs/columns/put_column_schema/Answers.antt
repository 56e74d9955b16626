-- `image_bound::columns::put_column_schema` meets its contract: six writes, one behind the other.
use Rattle.bytes_wire.specs.Sets.{then}
use Rattle.image_bound.specs.Written.{spelt}
use Rattle.image_bound.specs.Spelt.{column_spelt}
use Rattle.image_bound.proofs.columns.put_column_schema.Goals as goal

pub returns : goal.returns
returns c =
    spelt (column_spelt _)
    (then
    c.put-a.ensures
    (then
    (then c.put-b.ensures c.put-c.ensures)
    (then (then c.put_id-d.ensures c.put_type_and_null-e.ensures) c.put_all.ensures)))
