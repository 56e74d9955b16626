-- `image_insert::has_source` meets its contract.
use borrow.Author.Rules.{rules}
use mathlib.Core.Path.{ap, ◌∙◌}
use mathlib.Core.Bool.{not}
use mathlib.Core.List.{List}
use Prim.Native.Nat.{ℕ}
use lib.ListN.{length}
use lib.Dec.{eqb}
use Rattle.image_insert.specs.Held.{insert_shape, insert_has}
use Rattle.image_insert.proofs.has_source.Goals as goal

pub part-s-requires : goal.part-s-requires
part-s-requires c = let r = (insert_shape c.requires).whole in search rules

pub returns : goal.returns
returns c = λ v h. ap (λ (p : List ℕ). not (eqb (length p) 0)) c.part-s.ensures ∙ (insert_has c.args.i.now v h).present
