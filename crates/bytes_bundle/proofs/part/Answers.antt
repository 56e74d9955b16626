-- `bytes_bundle::part` meets its contract. The invariant: part i begins at `at`. The measure is how many parts are left before part k.
use native.Mathlib.Omega.{arith}
use mathlib.Core.Path.{◌≡◌, ap, ◌∙◌}
use mathlib.Core.List.{[]}
use Prim.Native.Nat.{ℕ}
use lib.ListN.{get_or}
use Rattle.bytes_bundle.specs.Bundle.{parts_of}
use Rattle.bytes_bundle.proofs.part.Goals as goal

pub loop-i-preserved : goal.loop-i-preserved
loop-i-preserved c = (omega arith, c.next-at.ensures.next)

pub returns : goal.returns
returns c =
    let l = c.loop-i in
    let a = c.args in
    let e : l.i ≡ a.k = omega arith in
    c.next-end.ensures.is ∙ ap (λ (n : ℕ). get_or (parts_of a.w a.s.now) n []) e
