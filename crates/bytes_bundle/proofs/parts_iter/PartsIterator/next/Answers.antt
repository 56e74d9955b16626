-- `next` of an iterator over a bundle meets its contract.
use native.Mathlib.Omega.{arith}
use borrow.Author.Rules.{rules}
use mathlib.Core.Path.{refl, ap}
use lib.ListN.{length}
use Rattle.bytes_bundle.specs.Left.{parts_left}
use Rattle.bytes_bundle.proofs.Places.{turn_cuts}
use Rattle.bytes_bundle.proofs.parts_iter.PartsIterator.next.Goals as goal

pub returns-then-self-eq0-clause-steps : goal.returns-then-self-eq0-clause-steps
unfolding parts_left
returns-then-self-eq0-clause-steps c = rw c.if-self-eq0.true (refl, refl)

pub returns-clause-steps : goal.returns-clause-steps
unfolding parts_left
returns-clause-steps c =
    let p = c.args.self.now in
    cc (turn_cuts p.w p.left p.lengths.now p.bytes.now c.get-k.result (omega arith) c.get-k.ensures.is)

pub returns-clause-goes : goal.returns-clause-goes
returns-clause-goes c =
    let e = ap length (returns-clause-steps c) in
    search rules
