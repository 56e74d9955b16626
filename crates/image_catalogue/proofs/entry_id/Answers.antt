-- `image_catalogue::entry_id` meets its contract.
use borrow.Author.Rules.{rules}
use mathlib.Core.Path.{ap, ◌∙◌}
use mathlib.Core.List.{List}
use Prim.Native.Nat.{ℕ}
use native.Mathlib.Omega.{arith}
use lib.ListN.{length, take}
use Rattle.bytes_wire.specs.Le.{num}
use Rattle.image_catalogue.proofs.entry_id.Goals as goal

pub part-numbers-requires : goal.part-numbers-requires
part-numbers-requires c = let r = c.requires in search rules

pub get-requires : goal.get-requires
get-requires c = omega (arith, ap length c.part-numbers.ensures, c.requires.wide)

pub returns : goal.returns
returns c = c.get.ensures.is ∙ ap (λ (p : List ℕ). num (take 8 p)) c.part-numbers.ensures
