-- `image_create::as_query` meets its contract.
use borrow.Author.Rules.{rules}
use native.Mathlib.Omega.{arith}
use mathlib.Core.Path.{ap, ◌∙◌}
use mathlib.Core.List.{List}
use Prim.Native.Nat.{ℕ}
use lib.ListN.{length, get_or}
use lib.Dec.{eqb}
use Rattle.image_create.specs.Held.{create_shape, create_has}
use Rattle.image_create.proofs.as_query.Goals as goal

pub part-m-requires : goal.part-m-requires
part-m-requires c = let r = (create_shape c.requires).whole in search rules

pub bounds-m-1 : goal.bounds-m-1
bounds-m-1 c = omega (arith, ap length c.part-m.ensures, (create_shape c.requires).marks)

pub returns : goal.returns
returns c = λ v h. ap (λ (p : List ℕ). eqb (get_or p 1 0) 1) c.part-m.ensures ∙ (create_has c.args.c.now v h).marks.as_query
