-- `run_plan::plan` meets its contract. The invariant: the assignments so far are noted.
use mathlib.Core.Path.{◌≡◌}
use lib.ListN.{length}
use Rattle.std.specs.Iterator.Adapters.{enumerate_count, enumerate_source}
use Rattle.bytes_bundle.specs.Left.{parts_left}
use Rattle.bytes_bundle.specs.Numbered.{Reached}
use Rattle.run_plan.specs.Turns.{Planning}
use Rattle.run_plan.proofs.plan.Given as goal

abbrev pub invariant-loop-i : goal.invariant-loop-i
invariant-loop-i l =
    Reached 2 l.s (enumerate_count l.i-iterator) (parts_left (enumerate_source l.i-iterator)) × (length l.from ≡ 64) × Planning l.t l.s l.r (enumerate_count l.i-iterator) l.from
