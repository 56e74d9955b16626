-- `op_run::runnable` meets its contract.
use mathlib.Core.Path.{sym, ap, ◌∙◌}
use Prim.Native.Nat.{ℕ}
use lib.Dec.{eqb}
use Rattle.rules.specs.Trimmed.{is_show_transactions}
use Rattle.op_run.specs.Asked.{shown_not_asked, kind_asked}
use Rattle.op_run.proofs.runnable.Goals as goal

pub returns-then-is_show_transactions : goal.returns-then-is_show_transactions
returns-then-is_show_transactions c = λ cat v b h g.
    shown_not_asked cat v (sym (c.is_show_transactions.ensures ∙ ap is_show_transactions (c.raw_of.ensures v h)) ∙ c.if-is_show_transactions.true)

pub returns : goal.returns
returns c = λ cat v b h g.
    let e = sym (c.is_show_transactions.ensures ∙ ap is_show_transactions (c.raw_of.ensures v h)) ∙ c.if-is_show_transactions.false in
    ap (λ (k : ℕ). eqb k 3) (c.kind_code.ensures v h) ∙ kind_asked cat v e g
