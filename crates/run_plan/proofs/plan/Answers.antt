-- `run_plan::plan` meets its contract. The invariant: the assignments so far are noted.
use mathlib.Core.Path.{◌≡◌, ap, ◌∙◌, refl}
use mathlib.Core.List.{List, [], ◌∷◌}
use mathlib.Core.Logic.{inl}
use Prim.Native.Nat.{ℕ, zero, suc}
use native.Mathlib.Omega.{arith}
use lib.ListN.{length, length-set}
use Rattle.std.specs.Iterator.Adapters.{enumerate_count, enumerate_source}
use Rattle.bytes_bundle.specs.Contents.{lengths, cuts}
use Rattle.bytes_bundle.specs.declared.parts_iter.Parts.{Parts}
use Rattle.bytes_bundle.specs.Left.{parts_left}
use Rattle.bytes_bundle.specs.Numbered.{reached, reached_part, reached_on, reached_end, valued_is}
use Rattle.image_parts.specs.Layout.{assignment}
use Rattle.run_plan.specs.Runs.{lands_below}
use Rattle.run_plan.specs.Turns.{planning_none, planning_on, planning_off, planning_end, part_short}
use Rattle.run_plan.proofs.plan.Goals as goal

-- ---- how many parts an iterator has to give

lengths_length : (w n : ℕ) (s : List ℕ) → length (lengths w n s) ≡ n
lengths_length w zero s = refl
lengths_length w (suc n) s = ap suc (lengths_length w n _)

cuts_length : (ns s : List ℕ) → length (cuts ns s) ≡ length ns
cuts_length [] s = refl
cuts_length (n ∷ ns) s = ap suc (cuts_length ns _)

left_count : (p : Parts) → length (parts_left p) ≡ p.left
unfolding parts_left
left_count p = cuts_length (lengths p.w p.left p.lengths.now) p.bytes.now ∙ lengths_length p.w p.left p.lengths.now

-- ---- the goals

pub loop-i-init : goal.loop-i-init
loop-i-init c =
    let n : enumerate_count c.into_iter-i-iterator.result ≡ 0 = cc in
    rw n (reached (cc), refl, planning_none refl)

pub loop-i-init-derived : goal.loop-i-init-derived
loop-i-init-derived c =
    let n : enumerate_count c.into_iter-i-iterator.result ≡ 0 = cc in
    let e : enumerate_source c.into_iter-i-iterator.result ≡ c.iter.result = cc in
    let k = ap (λ (p : Parts). length (parts_left p)) e ∙ left_count c.iter.result in
    ((tt, tt, inl (omega (arith, k, c.iter.type_inv))), tt)

pub land-requires : goal.land-requires
land-requires c = let h = c.in-Some.ensures.steps in (c.requires.0, part_short c.requires.1 (reached_part c.loop-i.invariant.0 h.0))

pub returns-in_err-o : goal.returns-in_err-o
returns-in_err-o c = λ v x xs hv hx hs.
    let h = c.in-Some.ensures.steps in
    rw c.from_residual.ensures (planning_off c.loop-i.invariant.2 (reached_part c.loop-i.invariant.0 h.0) c.land.ensures c.in_err-o.was v x xs hv hx hs)

pub bounds-from-o : goal.bounds-from-o
bounds-from-o c =
    let h = c.in-Some.ensures.steps in
    omega (arith, lands_below c.requires.0 (valued_is assignment (reached_part c.loop-i.invariant.0 h.0) c.requires.1.is) c.land.ensures c.in_ok-o.was)

pub offset_bounds-from-o : goal.offset_bounds-from-o
offset_bounds-from-o c =
    let h = c.in-Some.ensures.steps in
    omega (arith, lands_below c.requires.0 (valued_is assignment (reached_part c.loop-i.invariant.0 h.0) c.requires.1.is) c.land.ensures c.in_ok-o.was)

pub loop-i-preserved : goal.loop-i-preserved
loop-i-preserved c =
    let h = c.in-Some.ensures.steps in
    let l = c.loop-i in
    rw (h.2, h.1) (reached_on l.invariant.0 h.0, length-set l.from _ _ ∙ l.invariant.1, planning_on l.invariant.2 (reached_part l.invariant.0 h.0) c.land.ensures c.in_ok-o.was)

pub returns : goal.returns
returns c = planning_end c.loop-i.invariant.2 c.requires.0 (reached_end c.loop-i.invariant.0 c.in-None.ensures.steps.0.0)
