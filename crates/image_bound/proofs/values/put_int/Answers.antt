-- `image_bound::values::put_int` meets its contract: two writes, one behind the other.
use mathlib.Core.Path.{ap, ◌∙◌}
use mathlib.Core.List.{[], ◌∷◌, ◌++◌}
use Prim.Native.Nat.{ℕ}
use mir.Syntax.{w64}
use mir.Val.{of_z}
use mir.Facts.{to_z-of_z}
use Rattle.bytes_wire.specs.Le.{le}
use Rattle.bytes_wire.specs.Sets.{then}
use Rattle.image_bound.specs.Written.{spelt}
use Rattle.image_bound.specs.Spelt.{int_spelt}
use Rattle.image_bound.proofs.values.put_int.Goals as goal

pub returns : goal.returns
returns c =
    spelt (ap (λ (n : ℕ). (0 ∷ []) ++ le 8 n) (c.cast_unsigned.ensures ∙ ap (of_z w64) (to_z-of_z c.ranges.z)) ∙ int_spelt c.args.z)
    (then c.put_byte-a.ensures c.put.ensures)
