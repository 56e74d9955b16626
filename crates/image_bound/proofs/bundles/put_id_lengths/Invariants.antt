-- `image_bound::bundles::put_id_lengths` meets its contract. The invariant: what is left of the lengths, written, gives all of them.
use Prim.Native.Nat.{◌-◌, ◌≤◌}
use Rattle.image_bound.specs.Spelt.{id_lengths}
use Rattle.image_bound.specs.Written.{Rest}
use Rattle.image_bound.proofs.bundles.put_id_lengths.Given as goal

abbrev pub invariant-loop : goal.invariant-loop
invariant-loop l = (l.counter ≤ l.n) × Rest l.initial.out l.at (id_lengths l.n) (id_lengths (l.n - l.counter)) l.to l.out
