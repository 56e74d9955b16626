-- `bytes_bundle::is_bundle` meets its contract. The invariant: the lengths that are left fill what is left of the bytes exactly where the whole is a
-- bundle. The measure is how many lengths are left.
use native.Mathlib.Omega.{arith}
use native.Mathlib.Nat.{suc-mul}
use mathlib.Core.Path.{◌≡◌, sym, ap, ◌∙◌}
use Prim.Native.Nat.{ℕ, suc, ◌+◌, ◌-◌, ◌*◌, ◌≤◌}
use lib.ListN.{length, drop}
use Rattle.bytes_bundle.specs.Contents.{lengths, fills}
use Rattle.bytes_bundle.proofs.Places.{no_count, no_contents, contents, fills_short, fills_turn, fills_end, small}
use Rattle.bytes_bundle.proofs.is_bundle.Goals as goal

-- what is left of the contents without the next length
less : (left w : ℕ) → suc 0 ≤ left → (left - 1) * w + w ≡ left * w
less left w h = let e : left ≡ suc (left - 1) = omega arith in sym (suc-mul (left - 1) w) ∙ ap (λ (n : ℕ). n * w) (sym e)

pub returns-then-s-w : goal.returns-then-s-w
returns-then-s-w c = sym (no_count c.args.w c.args.s.now c.if-s-w.true)

pub overflow_mul-head : goal.overflow_mul-head
overflow_mul-head c = omega (arith, small c.get-n.result c.args.w c.requires c.get-n.ensures.fits)

pub overflow_add-head : goal.overflow_add-head
overflow_add-head c = omega (arith, small c.get-n.result c.args.w c.requires c.get-n.ensures.fits)

pub returns-then-s-head : goal.returns-then-s-head
returns-then-s-head c =
    let a = c.args in
    sym (no_contents a.w a.s.now c.get-n.result c.get-n.ensures.is c.if-s-w.false c.if-s-head.true)

pub loop-left-init : goal.loop-left-init
loop-left-init c =
    let a = c.args in
    (omega arith, omega arith, contents a.w a.s.now c.get-n.result c.get-n.ensures.is c.if-s-w.false c.if-s-head.false)

pub get-k-requires : goal.get-k-requires
get-k-requires c = omega (arith, less c.loop-left.left c.args.w c.loop-left-test.true)

pub returns-then-s-at : goal.returns-then-s-at
returns-then-s-at c =
    let l = c.loop-left in
    let a = c.args in
    sym (l.invariant.2 ∙ fills_short a.w a.s.now l.left l.to (length a.s.now - l.at) c.get-k.result c.loop-left-test.true c.get-k.ensures.is c.if-s-at.true)

pub overflow_add-to : goal.overflow_add-to
overflow_add-to c =
    omega (arith, less c.loop-left.left c.args.w c.loop-left-test.true)

pub loop-left-preserved : goal.loop-left-preserved
loop-left-preserved c =
    let l = c.loop-left in
    let a = c.args in
    let k = c.get-k.result in
    let e : length a.s.now - l.at - k ≡ length a.s.now - (l.at + k) = omega arith in (
      omega (arith, less l.left a.w c.loop-left-test.true),
      omega arith,
      l.invariant.2
          ∙ fills_turn a.w a.s.now l.left l.to (length a.s.now - l.at) k c.loop-left-test.true c.get-k.ensures.is c.if-s-at.false
          ∙ ap (fills (lengths a.w (l.left - 1) (drop (l.to + a.w) a.s.now))) e,
    )

pub returns : goal.returns
returns c =
    let l = c.loop-left in
    let a = c.args in
    sym (l.invariant.2 ∙ fills_end a.w a.s.now (drop l.to a.s.now) l.left l.at (omega arith) l.invariant.1)
