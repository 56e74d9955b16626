-- `image_statement::kind_body` meets its contract.
use borrow.Author.Rules.{rules}
use native.Mathlib.Omega.{arith}
use mathlib.Core.Path.{ap, sym, ◌∙◌, subst}
use mathlib.Core.List.{List, []}
use Prim.Native.Nat.{ℕ}
use lib.ListN.{length, drop, get_or}
use Rattle.bytes_bundle.specs.Bundle.{parts_of}
use Rattle.image_statement.specs.Held.{KindHolds, kind_holds, statement_has, statement_whole, kind_wide}
use Rattle.image_statement.proofs.kind_body.Goals as goal

pub part-requires : goal.part-requires
part-requires c = let r = statement_whole c.requires in search rules

pub behind-requires : goal.behind-requires
behind-requires c = omega (arith, ap length c.part.ensures, kind_wide c.requires)

pub returns : goal.returns
returns c = λ v h.
    let s = c.args.s.now in
    subst (KindHolds v.kind) (sym (c.behind.ensures ∙ ap (λ (p : List ℕ). drop 1 p) c.part.ensures))
    (kind_holds (get_or (parts_of 2 s) 1 []) v.kind (statement_has s v h).kind)
