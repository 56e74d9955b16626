-- `image_catalogue::column_id` meets its contract.
use borrow.Author.Rules.{rules}
use mathlib.Core.Path.{sym, ap, ◌∙◌}
use mathlib.Core.List.{List}
use Prim.Native.Nat.{ℕ}
use native.Mathlib.Omega.{arith}
use lib.ListN.{length, take}
use Rattle.bytes_wire.specs.Le.{num}
use Rattle.rules.specs.declared.ColumnId.{ColumnId}
use Rattle.image_catalogue.specs.Values.{column_shape, column_held}
use Rattle.image_catalogue.proofs.column_id.Goals as goal

pub part-numbers-requires : goal.part-numbers-requires
part-numbers-requires c = let r = (column_shape c.requires).shape in search rules

pub get-requires : goal.get-requires
get-requires c = omega (arith, ap length c.part-numbers.ensures, (column_shape c.requires).wide)

abbrev made : ℕ → ColumnId
made n = record { 0 = n }

pub returns : goal.returns
returns c = λ v h. ap made (c.get.ensures.is ∙ ap (λ (p : List ℕ). num (take 8 p)) c.part-numbers.ensures) ∙ sym (column_held h).id
