-- `image_bound::columns::put_table_ref` meets its contract: three writes, one behind the other.
use Rattle.bytes_wire.specs.Sets.{then}
use Rattle.image_bound.specs.Written.{spelt}
use Rattle.image_bound.specs.Spelt.{table_ref_spelt}
use Rattle.image_bound.proofs.columns.put_table_ref.Goals as goal

pub returns : goal.returns
returns c = spelt (table_ref_spelt _) (search (then))
