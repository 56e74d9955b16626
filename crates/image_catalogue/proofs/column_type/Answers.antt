-- `image_catalogue::column_type` meets its contract.
use borrow.Author.Rules.{rules}
use mathlib.Core.Path.{ap}
use mathlib.Core.List.{List}
use Prim.Native.Nat.{ℕ}
use native.Mathlib.Omega.{arith}
use lib.ListN.{length, get_or}
use Rattle.image_catalogue.specs.Values.{column_shape, column_held, type_int, type_text, type_bool}
use Rattle.image_catalogue.proofs.column_type.Goals as goal

pub part-numbers-requires : goal.part-numbers-requires
part-numbers-requires c = let r = (column_shape c.requires).shape in search rules

-- the code
abbrev code : List ℕ → ℕ
code p = get_or p 8 0

pub bounds-numbers-8 : goal.bounds-numbers-8
bounds-numbers-8 c = omega (arith, ap length c.part-numbers.ensures, (column_shape c.requires).wide)

pub returns-in-0 : goal.returns-in-0
returns-in-0 c = λ v h. type_int _ (column_held h).ty (omega (arith, ap code c.part-numbers.ensures))

pub returns-in-1 : goal.returns-in-1
returns-in-1 c = λ v h. type_text _ (column_held h).ty (omega (arith, ap code c.part-numbers.ensures))

pub returns-in_default : goal.returns-in_default
returns-in_default c = λ v h.
    let e = ap code c.part-numbers.ensures in
    type_bool _ (column_held h).ty (omega (arith, e)) (omega (arith, e))
