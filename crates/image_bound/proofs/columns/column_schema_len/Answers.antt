-- `image_bound::columns::column_schema_len` meets its contract.
use native.Mathlib.Omega.{arith}
use mathlib.Core.Path.{refl}
use Rattle.image_bound.specs.Spelt.{column_length}
use Rattle.image_bound.proofs.columns.column_schema_len.Goals as goal

pub returns : goal.returns
returns c = (refl, λ x h. omega (arith, h, column_length x))
