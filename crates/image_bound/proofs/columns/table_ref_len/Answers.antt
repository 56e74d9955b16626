-- `image_bound::columns::table_ref_len` meets its contract.
use native.Mathlib.Omega.{arith}
use mathlib.Core.Path.{refl}
use Rattle.image_bound.specs.Spelt.{table_ref_length}
use Rattle.image_bound.proofs.columns.table_ref_len.Goals as goal

pub returns : goal.returns
returns c = (refl, λ x h. omega (arith, h, table_ref_length x))
