-- `image_bound::bundles::ids_len` meets its contract.
use native.Mathlib.Omega.{arith}
use mathlib.Core.Path.{◌≡◌, refl}
use lib.ListN.{length, length-map}
use Rattle.image_bound.specs.Made.{column_ids}
use Rattle.image_bound.specs.Spelt.{ids_length}
use Rattle.image_bound.proofs.bundles.ids_len.Goals as goal

pub returns : goal.returns
returns c = (
  refl,
  λ ids h.
      let n : length (column_ids ids) ≡ length ids = length-map ids _ in
      omega (arith, h, ids_length (column_ids ids), n),
)
