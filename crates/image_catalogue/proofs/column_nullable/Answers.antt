-- `image_catalogue::column_nullable` meets its contract.
use borrow.Author.Rules.{rules}
use mathlib.Core.Path.{ap, ◌∙◌}
use mathlib.Core.List.{List}
use Prim.Native.Nat.{ℕ}
use native.Mathlib.Omega.{arith}
use lib.Dec.{eqb}
use lib.ListN.{length, get_or}
use Rattle.image_catalogue.specs.Values.{column_shape, column_held, numbers_of, mark_is}
use Rattle.image_catalogue.proofs.column_nullable.Goals as goal

pub part-numbers-requires : goal.part-numbers-requires
part-numbers-requires c = let r = (column_shape c.requires).shape in search rules

pub bounds-numbers-9 : goal.bounds-numbers-9
bounds-numbers-9 c = omega (arith, ap length c.part-numbers.ensures, (column_shape c.requires).wide)

pub returns : goal.returns
returns c = λ v h. ap (λ (p : List ℕ). eqb (get_or p 9 0) 1) c.part-numbers.ensures ∙ mark_is (get_or (numbers_of c.args.c.now) 9 0) (column_held h).nullable
