-- `image_statement::kind_code` meets its contract.
use borrow.Author.Rules.{rules}
use native.Mathlib.Omega.{arith}
use mathlib.Core.Path.{ap, ◌∙◌}
use mathlib.Core.List.{List}
use Prim.Native.Nat.{ℕ}
use lib.ListN.{length, get_or}
use Rattle.image_statement.specs.Held.{statement_has, statement_whole, kind_wide}
use Rattle.image_statement.proofs.kind_code.Goals as goal

pub part-k-requires : goal.part-k-requires
part-k-requires c = let r = statement_whole c.requires in search rules

pub bounds-k-0 : goal.bounds-k-0
bounds-k-0 c = omega (arith, ap length c.part-k.ensures, kind_wide c.requires)

pub returns : goal.returns
returns c = λ v h. ap (λ (p : List ℕ). get_or p 0 0) c.part-k.ensures ∙ (statement_has _ v h).kind.code
