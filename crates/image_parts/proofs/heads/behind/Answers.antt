-- `image_parts::heads::behind` meets its contract.
use native.Mathlib.Omega.{arith}
use Prim.Native.Nat.{◌-◌}
use lib.ListN.{length, drop, length-drop}
use lib.Seq.{take_all}
use Rattle.image_parts.proofs.heads.behind.Goals as goal

pub returns : goal.returns
returns c = let s = c.args.s.now in take_all (length s - 1) (drop 1 s) (omega (arith, length-drop 1 s))
