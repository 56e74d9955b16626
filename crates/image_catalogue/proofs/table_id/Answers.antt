-- `image_catalogue::table_id` meets its contract.
use borrow.Author.Rules.{rules}
use mathlib.Core.Path.{sym, ap, ◌∙◌}
use mathlib.Core.List.{List}
use Prim.Native.Nat.{ℕ}
use native.Mathlib.Omega.{arith}
use lib.ListN.{length, take}
use Rattle.bytes_wire.specs.Le.{num}
use Rattle.rules.specs.declared.TableId.{TableId}
use Rattle.image_catalogue.specs.Values.{table_shape, table_held}
use Rattle.image_catalogue.proofs.table_id.Goals as goal

pub part-numbers-requires : goal.part-numbers-requires
part-numbers-requires c = let r = (table_shape c.requires).shape in search rules

pub get-requires : goal.get-requires
get-requires c = omega (arith, ap length c.part-numbers.ensures, (table_shape c.requires).wide)

abbrev made : ℕ → TableId
made n = record { 0 = n }

pub returns : goal.returns
returns c = λ v h. ap made (c.get.ensures.is ∙ ap (λ (p : List ℕ). num (take 8 p)) c.part-numbers.ensures) ∙ sym (table_held h).id
