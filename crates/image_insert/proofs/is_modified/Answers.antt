-- `image_insert::is_modified` meets its contract.
use borrow.Author.Rules.{rules}
use native.Mathlib.Omega.{arith}
use mathlib.Core.Path.{ap, ◌∙◌}
use mathlib.Core.List.{List}
use Prim.Native.Nat.{ℕ}
use lib.ListN.{length, get_or}
use lib.Dec.{eqb}
use Rattle.image_insert.specs.Held.{insert_shape, insert_has}
use Rattle.image_insert.proofs.is_modified.Goals as goal

pub part-m-requires : goal.part-m-requires
part-m-requires c = let r = (insert_shape c.requires).whole in search rules

pub bounds-m-0 : goal.bounds-m-0
bounds-m-0 c = omega (arith, ap length c.part-m.ensures, (insert_shape c.requires).modified)

pub returns : goal.returns
returns c = λ v h. ap (λ (p : List ℕ). eqb (get_or p 0 0) 1) c.part-m.ensures ∙ (insert_has c.args.i.now v h).modified.is
