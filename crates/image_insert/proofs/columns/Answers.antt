-- `image_insert::columns` meets its contract.
use borrow.Author.Rules.{rules}
use mathlib.Core.Path.{ap, ◌∙◌}
use mathlib.Core.List.{List}
use Prim.Native.Nat.{ℕ}
use Rattle.bytes_format.proofs.Formats.{list_of}
use Rattle.image_parts.specs.Layout.{name}
use Rattle.image_insert.specs.Held.{insert_shape, insert_has}
use Rattle.image_insert.proofs.columns.Goals as goal

pub part-requires : goal.part-requires
part-requires c = let r = (insert_shape c.requires).whole in search rules

pub returns : goal.returns
returns c = λ v h. ap (λ (p : List ℕ). (list_of 2 name).read p) c.part.ensures ∙ (insert_has c.args.i.now v h).columns
