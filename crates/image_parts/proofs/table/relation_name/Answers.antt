-- `image_parts::table::relation_name` meets its contract.
use native.Mathlib.Omega.{arith}
use mathlib.Core.Path.{ap, ◌∙◌}
use mathlib.Core.List.{List}
use Prim.Native.Nat.{ℕ}
use lib.ListN.{length, drop, length-drop}
use lib.Seq.{drop-drop}
use Rattle.bytes_bundle.specs.Held.{same}
use Rattle.image_parts.specs.Layout.{object_name}
use Rattle.image_parts.specs.NamesHeld.{direct_has, direct_wide}
use Rattle.image_parts.proofs.table.relation_name.Goals as goal

pub behind-requires : goal.behind-requires
behind-requires c = omega (arith, direct_wide c.requires)

pub behind-requires-2 : goal.behind-requires-2
behind-requires-2 c = omega (arith, direct_wide c.requires, ap length c.behind.ensures, length-drop 1 c.args.s.now)

pub returns : goal.returns
returns c = λ m n h.
    let s = c.args.s.now in
    same object_name (c.behind-2.ensures ∙ ap (λ (p : List ℕ). drop 1 p) c.behind.ensures ∙ drop-drop 1 1 s) (direct_has s m n h).behind
