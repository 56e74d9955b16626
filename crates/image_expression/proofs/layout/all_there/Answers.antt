-- `layout::all_there` meets its contract: where not even the count is there, no node is.
use mathlib.Core.Path.{sym}
use Prim.Native.Nat.{◌+◌, ◌*◌, ◌<◌}
use native.Mathlib.Omega.{arith}
use borrow.Author.Tests.{lt-leb}
use lib.ListN.{length}
use Rattle.image_expression.specs.Place.{node_count}
use Rattle.image_expression.proofs.layout.all_there.Goals as goal

pub returns-then-s-lt2 : goal.returns-then-s-lt2
returns-then-s-lt2 c =
    let s = c.args.s.now in
    let h : length s < 5 * node_count s + 2 = omega arith in
    sym (lt-leb _ _ h)

pub returns : goal.returns
returns c = rw c.count.ensures.0
