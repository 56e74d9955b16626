-- `replay_record::part` meets its contract.
use mathlib.Core.Path.{◌≡◌, ap₂, ◌∙◌}
use Prim.Native.Nat.{ℕ, ◌+◌, ◌-◌}
use native.Mathlib.Omega.{arith}
use lib.ListN.{take, drop}
use Rattle.replay_record.specs.Layout.{part}
use Rattle.replay_record.specs.Cases.{case_head, part_end}
use Rattle.replay_record.proofs.part.Goals as goal

pub starts-from-requires : goal.starts-from-requires
starts-from-requires c =
    let a = c.args in
    (case_head a.k a.s.now c.requires.0, omega arith, omega arith)

pub size-requires : goal.size-requires
size-requires c =
    omega (arith, case_head c.args.k c.args.s.now c.requires.0)

pub overflow_add-end : goal.overflow_add-end
overflow_add-end c =
    omega (arith, c.size.ensures.is, c.starts-from.ensures, part_end c.args.k c.args.s.now c.requires.0 c.args.j c.requires.1)

pub slice_bounds-result-end : goal.slice_bounds-result-end
slice_bounds-result-end c =
    omega (arith, c.size.ensures.is, c.starts-from.ensures, part_end c.args.k c.args.s.now c.requires.0 c.args.j c.requires.1)

pub returns : goal.returns
unfolding part
returns c =
    let s = c.args.s.now in
    let from = c.starts-from.result in
    let long = c.size.result in
    let e : from + long - from ≡ long = omega arith in
    ap₂ (λ (n m : ℕ). take n (drop m s)) (e ∙ c.size.ensures.is) c.starts-from.ensures
