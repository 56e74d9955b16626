-- `image_bound::bundles::put_id_lengths` meets its contract. The invariant: what is left of the lengths, written, gives all of them.
use native.Mathlib.Omega.{arith}
use mathlib.Core.Path.{◌≡◌, subst}
use mathlib.Core.List.{List}
use Prim.Native.Nat.{ℕ, ◌-◌}
use Rattle.image_bound.specs.Spelt.{id_lengths, id_lengths_length, id_lengths_next}
use Rattle.image_bound.specs.Written.{Rest, rest_all, rest_less, rest_none}
use Rattle.image_bound.proofs.bundles.put_id_lengths.Goals as goal

begun : (o : List ℕ) (at n : ℕ) → Rest o at (id_lengths n) (id_lengths (n - 0)) at o
begun o at n = let e : n ≡ n - 0 = omega arith in subst (λ (k : ℕ). Rest o at (id_lengths n) (id_lengths k) at o) e (rest_all o at (id_lengths n))

pub loop-init : goal.loop-init
loop-init c = (omega arith, begun _ _ _)

pub put-to-requires : goal.put-to-requires
put-to-requires c =
    let l = c.loop in
    let n = c.args.n in
    omega (arith, l.invariant.1.room, l.invariant.1.long, id_lengths_length n, id_lengths_length (n - l.counter))

pub loop-preserved : goal.loop-preserved
loop-preserved c =
    let l = c.loop in
    let n = c.args.n in
    (omega arith, rest_less (rw (id_lengths_next n l.counter c.loop-test.true) at l.invariant.1) c.put-to.ensures)

pub shape_of-out : goal.shape_of-out
shape_of-out c = c.loop.invariant.1.long

pub returns : goal.returns
unfolding id_lengths
returns c =
    let l = c.loop in
    let n = c.args.n in
    let e : n - l.counter ≡ 0 = omega (arith, c.loop-test.false) in
    rest_none (rw e at l.invariant.1)
