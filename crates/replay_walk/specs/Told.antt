-- What an operation leaves, compared with what the record has, tells whether the case differs.
-- Assumes nothing.
use Rattle.std.specs.Prelude.{◌≡◌, Bool, not, List, ℕ, length}
use Rattle.std.proofs.Common.{ap, ◌∙◌, subst}
use Rattle.rules.specs.Heard.{Outcome}
use Rattle.op_received.specs.Entry.{bind_bytes, run_bytes}
use Rattle.op_reply.specs.Leaves.{Reply, Leaves}
use Rattle.replay_record.specs.declared.Of.TheVariants.{Binds, Runs}
use Rattle.replay_record.specs.Layout.{answer, room, part}
use Rattle.replay_record.specs.Agrees.{is_recorded, agreeing, agreeing_is}
use Rattle.replay_walk.specs.Differs.{differs}

-- the output was as `before`
told : {o : Outcome (List ℕ)} (n : ℕ) (e : List ℕ) {before old out : List ℕ} {k : Reply} {b : Bool} → old ≡ before → Leaves o old k out → length out ≡ length old
    → b ≡ agreeing k n e before out → b ≡ is_recorded o n e
told {o} n e {out = out} {k = k} q l m a =
    a ∙ agreeing_is n e (subst (λ (z : List ℕ). Leaves o z k out) q l) (m ∙ ap length q)

-- x and c are the statement and the catalogue of the case at the front of s, e is the bound statement
pub bind_told : (s : List ℕ) {x c e before old out : List ℕ} {k : Reply} {b : Bool} → x ≡ part 3 0 s → c ≡ part 3 1 s → e ≡ part 3 2 s
    → old ≡ before → length before ≡ room s → Leaves (bind_bytes x c (length old)) old k out → length out ≡ length old
    → b ≡ agreeing k (answer s) e before out → not b ≡ differs Binds s
unfolding differs
bind_told s {x} {c} {e} {old = old} p₀ p₁ p₂ q h l n a =
    let m : length old ≡ room s = ap length q ∙ h in
    let w : is_recorded (bind_bytes x c (length old)) (answer s) e
    ≡ is_recorded (bind_bytes (part 3 0 s) (part 3 1 s) (room s)) (answer s) (part 3 2 s) = cc in
    ap not (told (answer s) e q l n a ∙ w)

-- ... r is the row, e the row after
pub run_told : (s : List ℕ) {x c r e before old out : List ℕ} {k : Reply} {b : Bool} → x ≡ part 4 0 s → c ≡ part 4 1 s → r ≡ part 4 2 s → e ≡ part 4 3 s
    → old ≡ before → length before ≡ room s → Leaves (run_bytes x c r (length old)) old k out → length out ≡ length old
    → b ≡ agreeing k (answer s) e before out → not b ≡ differs Runs s
unfolding differs
run_told s {x} {c} {r} {e} {old = old} p₀ p₁ p₂ p₃ q h l n a =
    let m : length old ≡ room s = ap length q ∙ h in
    let w : is_recorded (run_bytes x c r (length old)) (answer s) e
    ≡ is_recorded (run_bytes (part 4 0 s) (part 4 1 s) (part 4 2 s) (room s)) (answer s) (part 4 3 s) = cc in
    ap not (told (answer s) e q l n a ∙ w)
