-- `image_create::options` meets its contract.
use borrow.Author.Rules.{rules}
use mathlib.Core.Path.{ap, ◌∙◌}
use mathlib.Core.List.{List}
use Prim.Native.Nat.{ℕ}
use Rattle.bytes_format.proofs.Formats.{list_of}
use Rattle.image_parts.specs.Layout.{option}
use Rattle.image_create.specs.Held.{column_shape, column_has}
use Rattle.image_create.proofs.options.Goals as goal

pub part-requires : goal.part-requires
part-requires c = let r = (column_shape c.requires).whole in search rules

pub returns : goal.returns
returns c = λ v h. ap (λ (p : List ℕ). (list_of 2 option).read p) c.part.ensures ∙ (column_has c.args.d.now v h).options
