-- What a caller hears of an outcome is determined: every bit of the reply, and every byte of the output.
-- Assumes nothing.
use Rattle.std.specs.Prelude.{◌≡◌, Result, List, ℕ}
use Rattle.std.proofs.Common.{sym, ap₂, ◌∙◌}
use Rattle.rules.specs.Heard.{Outcome}
use Rattle.op_reply.specs.declared.Refused.{Refused}
use Rattle.op_reply.specs.Leaves.{Reply, reply, told, told_once, Leaves}

-- "if two outcomes could satisfy it they are proved identical": the reply and every byte of the output are determined
pub one_reply : {o : Outcome (List ℕ)} {old new new' : List ℕ} {r r' : Reply} → Leaves o old r new → Leaves o old r' new'
    → (r.refusal ≡ r'.refusal) × (r.length ≡ r'.length) × (new ≡ new')
one_reply p q = (p.hears.number ∙ sym q.hears.number, p.hears.size ∙ sym q.hears.size, p.output ∙ sym q.output)

-- and so is the code's own answer: two results that meet the contract of `op_bind::bind`, or of `op_run::run`, are equal
pub one_answer : {o : Outcome (List ℕ)} {old new new' : List ℕ} (r q : Result ℕ Refused) → Leaves o old (told r) new → Leaves o old (told q) new'
    → (r ≡ q) × (new ≡ new')
one_answer r q h k = let e = one_reply h k in (told_once r q (ap₂ reply e.0 e.1), e.2)
