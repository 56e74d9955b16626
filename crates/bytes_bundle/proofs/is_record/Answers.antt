-- `bytes_bundle::is_record` meets its contract.
use borrow.Author.Rules.{rules}
use mathlib.Core.Path.{ap}
use Prim.Native.Nat.{ℕ}
use lib.Dec.{eqb}
use Rattle.bytes_bundle.specs.Decides.{stop, on, last, failed, passed}
use Rattle.bytes_bundle.specs.Laws.{shape_decided}
use Rattle.std.proofs.Common.{not}
use Rattle.bytes_bundle.proofs.is_record.Goals as goal

pub returns-then-not-is_bundle : goal.returns-then-not-is_bundle
returns-then-not-is_bundle c =
    let a = c.args in
    stop (shape_decided a.w a.n a.s.now) (failed c.is_bundle.ensures (ap not c.if-not-is_bundle.true))

pub parts-requires : goal.parts-requires
parts-requires c = (search rules, record { there = passed c.is_bundle.ensures (ap not c.if-not-is_bundle.false) })

pub returns : goal.returns
returns c =
    let a = c.args in
    last (on (shape_decided a.w a.n a.s.now) (passed c.is_bundle.ensures (ap not c.if-not-is_bundle.false))) (ap (λ (k : ℕ). eqb k a.n) c.parts.ensures)
