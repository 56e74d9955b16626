-- `image_create::type_code` meets its contract.
use borrow.Author.Rules.{rules}
use native.Mathlib.Omega.{arith}
use mathlib.Core.Path.{ap, ◌∙◌}
use mathlib.Core.List.{List}
use Prim.Native.Nat.{ℕ}
use lib.ListN.{length, get_or}
use Rattle.image_create.specs.Held.{column_shape, column_has}
use Rattle.image_create.proofs.type_code.Goals as goal

pub part-t-requires : goal.part-t-requires
part-t-requires c = let r = (column_shape c.requires).whole in search rules

pub bounds-t-0 : goal.bounds-t-0
bounds-t-0 c = omega (arith, ap length c.part-t.ensures, (column_shape c.requires).ty)

pub returns : goal.returns
returns c = λ v h. ap (λ (p : List ℕ). get_or p 0 0) c.part-t.ensures ∙ (column_has c.args.d.now v h).ty.is
