-- `image_parts::heads::mark_in` meets its contract.
use borrow.Author.Rules.{rules}
use native.Mathlib.Omega.{arith}
use mathlib.Core.Path.{ap}
use mathlib.Core.List.{List}
use Prim.Native.Nat.{ℕ}
use lib.ListN.{length, get_or}
use lib.Dec.{eqb}
use Rattle.bytes_bundle.specs.Cases.{has_part}
use Rattle.image_parts.proofs.heads.mark_in.Goals as goal

pub part-marks-requires : goal.part-marks-requires
part-marks-requires c = let h = has_part 2 0 c.args.k c.args.s.now c.requires in search rules

pub bounds-marks-k : goal.bounds-marks-k
bounds-marks-k c = omega (arith, ap length c.part-marks.ensures)

pub returns : goal.returns
returns c = ap (λ (p : List ℕ). eqb (get_or p c.args.k 0) 1) c.part-marks.ensures
