-- `replay_record::starts` meets its contract. The invariant: `at` is where part i starts, and a length of four bytes is small.
use mathlib.Core.Path.{◌≡◌, sym, ap, ◌∙◌}
use Prim.Native.Nat.{ℕ}
use native.Mathlib.Omega.{arith}
use Rattle.replay_record.specs.Layout.{starts}
use Rattle.replay_record.specs.Cases.{starts_first, starts_more}
use Rattle.replay_record.proofs.starts.Goals as goal

pub loop-i-init : goal.loop-i-init
loop-i-init c = (sym (starts_first _ _), omega arith)

pub loop-i-preserved : goal.loop-i-preserved
loop-i-preserved c =
    let a = c.args in
    (omega (arith, starts_more a.k c.loop-i.i a.s.now, c.size-at.ensures.is), omega (arith, c.size-at.ensures.fits))

pub returns : goal.returns
returns c =
    let a = c.args in
    let e : c.loop-i.i ≡ a.j = omega arith in
    c.loop-i.invariant.0 ∙ ap (λ (n : ℕ). starts a.k n a.s.now) e
