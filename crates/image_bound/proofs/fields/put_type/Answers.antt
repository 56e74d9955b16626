-- `image_bound::fields::put_type` meets its contract: the byte is the code.
use mathlib.Core.Path.{ap}
use mathlib.Core.List.{[], ◌∷◌}
use Prim.Native.Nat.{ℕ}
use Rattle.image_bound.specs.Written.{spelt}
use Rattle.image_bound.proofs.fields.put_type.Goals as goal

pub returns : goal.returns
returns c = spelt (ap (λ (b : ℕ). b ∷ []) c.type_code.ensures) c.put_byte.ensures
