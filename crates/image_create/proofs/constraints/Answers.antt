-- `image_create::constraints` meets its contract.
use borrow.Author.Rules.{rules}
use mathlib.Core.Path.{ap, ◌∙◌}
use mathlib.Core.List.{List}
use Prim.Native.Nat.{ℕ}
use Rattle.bytes_format.proofs.Formats.{list_of}
use Rattle.image_parts.specs.Layout.{constraint}
use Rattle.image_create.specs.Held.{create_shape, create_has}
use Rattle.image_create.proofs.constraints.Goals as goal

pub part-requires : goal.part-requires
part-requires c = let r = (create_shape c.requires).whole in search rules

pub returns : goal.returns
returns c = λ v h. ap (λ (p : List ℕ). (list_of 2 constraint).read p) c.part.ensures ∙ (create_has c.args.c.now v h).constraints
