-- `replay_walk::replayed` meets its contract. The invariant: what is counted and what is left come to the whole record.
use borrow.Author.Tests.{eqb-true, eqb-false}
use mathlib.Core.Path.{◌≡◌, refl, sym, ap, ◌∙◌, subst}
use mathlib.Core.Bool.{true}
use mathlib.Core.List.{List}
use Prim.Native.Nat.{ℕ, ◌+◌, ◌-◌, ◌<◌}
use native.Mathlib.Omega.{arith}
use lib.ListN.{length, take, drop, length-drop}
use lib.Seq.{take_all}
use Rattle.std.proofs.Common.{not}
use Rattle.std.specs.Prelude.{Result}
use Rattle.bytes_bundle.specs.Decides.{failed, passed}
use Rattle.replay_record.specs.Layout.{parts_of, is_case, behind}
use Rattle.replay_record.specs.declared.Of.{Of}
use Rattle.replay_record.specs.declared.Tally.{Tally}
use Rattle.replay_record.specs.declared.Damaged.{Damaged}
use Rattle.replay_record.specs.Cases.{case_head}
use Rattle.replay_record.specs.Counts.{damaged, none, Replays}
use Rattle.replay_record.specs.Counting.{Replaying, replays_short, replaying_start, replaying_few, replaying_more, replays_broken, replays_whole, replays_past}
use Rattle.replay_walk.specs.Differs.{differs}
use Rattle.replay_walk.proofs.replayed.Goals as goal

-- of the parts that the record has
told : (of : Of) {k : ℕ} {b : List ℕ} {r : Result Tally Damaged} → k ≡ parts_of of → Replays (differs of) k b r → Replays (differs of) (parts_of of) b r
told of {b = b} {r = r} p h = subst (λ (n : ℕ). Replays (differs of) n b r) p h

-- nothing counted
abbrev tally : ℕ → ℕ → ℕ → ℕ → ℕ → Tally
tally a b c d e = record { cases = a; answered = b; faults = c; others = d; differences = e }

zeroed : (t : Tally) → t.cases ≡ 0 → t.answered ≡ 0 → t.faults ≡ 0 → t.others ≡ 0 → t.differences ≡ 0 → t ≡ none
zeroed t a b c d e =
    subst (λ (n : ℕ). t ≡ tally 0 0 0 0 n) e
    (subst (λ (n : ℕ). t ≡ tally 0 0 0 n t.differences) d
    (subst (λ (n : ℕ). t ≡ tally 0 0 n t.others t.differences) c
    (subst (λ (n : ℕ). t ≡ tally 0 n t.faults t.others t.differences) b
    (subst (λ (n : ℕ). t ≡ tally n t.answered t.faults t.others t.differences) a refl))))

pub returns-then-bytes-lt4 : goal.returns-then-bytes-lt4
returns-then-bytes-lt4 c =
    let a = c.args in
    let b = a.bytes.now in
    let h = c.default-tally.ensures in
    let e : c.default-tally.result ≡ none = zeroed c.default-tally.result h.0 h.1.0 h.1.1.0 h.1.1.1.0 h.1.1.1.1 in
    subst (λ (t : Tally). Replays (differs a.of) (parts_of a.of) b (damaged t)) (sym e)
    (replays_short (differs a.of) (parts_of a.of) b (omega (arith, c.if-bytes-lt4.true)))

pub loop-init : goal.loop-init
loop-init c =
    let a = c.args in
    let b = a.bytes.now in
    let n = c.size-cases.result in
    let k = c.parts-k.result in
    let h = c.default-tally.ensures in
    let d : c.default-tally.result ≡ none = zeroed c.default-tally.result h.0 h.1.0 h.1.1.0 h.1.1.1.0 h.1.1.1.1 in
    let z : n - 0 ≡ n = omega arith in
    let e : take (length b - 4) (drop 4 b) ≡ drop 4 b = take_all (length b - 4) (drop 4 b) (omega (arith, length-drop 4 b)) in
    subst (λ (m : ℕ). Replaying (differs a.of) k b m (take (length b - 4) (drop 4 b)) c.default-tally.result) (sym z)
    (subst (λ (x : List ℕ). Replaying (differs a.of) k b n x c.default-tally.result) (sym e)
    (subst (λ (t : Tally). Replaying (differs a.of) k b n (drop 4 b) t) (sym d)
    (replaying_start (differs a.of) k b (omega (arith, c.if-bytes-lt4.false)) c.size-cases.ensures)))

pub returns-then-not-is_case : goal.returns-then-not-is_case
returns-then-not-is_case c =
    let a = c.args in
    let p = c.parts-k in
    told a.of p.ensures.0
    (replays_broken (differs a.of) p.result a.bytes.now c.loop.invariant (omega (arith, c.loop-test.true)) (failed c.is_case.ensures (ap not c.if-not-is_case.true)))

pub bounds-rest-0 : goal.bounds-rest-0
bounds-rest-0 c =
    omega (arith, case_head c.parts-k.result c.loop.rest.now (passed c.is_case.ensures (ap not c.if-not-is_case.false)))

pub count-requires : goal.count-requires
count-requires c =
    let a = c.args in
    replaying_few (differs a.of) c.parts-k.result a.bytes.now c.loop.invariant

pub loop-preserved : goal.loop-preserved
loop-preserved c =
    let a = c.args in
    let b = a.bytes.now in
    let k = c.parts-k.result in
    let r = c.loop.rest.now in
    let n = c.case_length-end.result in
    let left = c.size-cases.result - c.loop.counter in
    let e : take (length r - n) (drop n r) ≡ behind k r =
    take_all (length r - n) (drop n r) (omega (arith, length-drop n r)) ∙ ap (λ (m : ℕ). drop m r) c.case_length-end.ensures.0 in
    let z : c.size-cases.result - (c.loop.counter + 1) ≡ left - 1 = omega arith in
    let d = c.differs.ensures in
    subst (λ (m : ℕ). Replaying (differs a.of) k b m (take (length r - n) (drop n r)) c.count.new.self) (sym z)
    (subst (λ (x : List ℕ). Replaying (differs a.of) k b (left - 1) x c.count.new.self) (sym e)
    (subst (λ (t : Tally). Replaying (differs a.of) k b (left - 1) (behind k r) t) (sym c.count.ensures)
    (replaying_more (differs a.of) k b c.loop.invariant (omega (arith, c.loop-test.true)) (passed c.is_case.ensures (ap not c.if-not-is_case.false)) d)))

pub returns-then-is_empty : goal.returns-then-is_empty
returns-then-is_empty c =
    let a = c.args in
    let p = c.parts-k in
    told a.of p.ensures.0
    (replays_whole (differs a.of) p.result a.bytes.now c.loop.invariant (omega (arith, c.loop-test.false)) (eqb-true _ 0 (sym c.if-is_empty.ensures)))

pub returns-else-is_empty : goal.returns-else-is_empty
returns-else-is_empty c =
    let a = c.args in
    let p = c.parts-k in
    told a.of p.ensures.0
    (replays_past (differs a.of) p.result a.bytes.now c.loop.invariant (omega (arith, c.loop-test.false)) (eqb-false _ 0 (sym c.if-is_empty.ensures)))
