-- `image_insert::body_of` meets its contract.
use native.Mathlib.Omega.{arith}
use mathlib.Core.Path.{ap, ◌∙◌}
use mathlib.Core.List.{List}
use Prim.Native.Nat.{ℕ}
use Rattle.image_parts.specs.Layout.{source_body}
use Rattle.image_insert.specs.Held.{source_wide, source_has}
use Rattle.image_insert.proofs.body_of.Goals as goal

pub behind-requires : goal.behind-requires
behind-requires c = omega (arith, source_wide c.requires)

pub returns : goal.returns
returns c = λ v h. ap (λ (p : List ℕ). source_body.read p) c.behind.ensures ∙ (source_has c.args.s.now v h).behind
