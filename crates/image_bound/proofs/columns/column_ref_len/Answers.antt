-- `image_bound::columns::column_ref_len` meets its contract.
use native.Mathlib.Omega.{arith}
use mathlib.Core.Path.{refl}
use Rattle.image_bound.specs.Spelt.{column_ref_length}
use Rattle.image_bound.proofs.columns.column_ref_len.Goals as goal

pub returns : goal.returns
returns c = (refl, λ x h. omega (arith, h, column_ref_length x))
