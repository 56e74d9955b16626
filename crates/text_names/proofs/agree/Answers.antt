-- `text_names::agree` meets its contract.
use Rattle.std.proofs.Common.{rules, arith, ◌∙◌, length}
use Rattle.std.proofs.lemmas.Iterator.Search.{all_from_yields_List}
use borrow.Author.Tests.{tests}
use Rattle.text_names.proofs.Laws.{alike_at, YieldsList-downward, agree_down, agree_longer}
use Rattle.text_names.proofs.agree.Goals as goal

pub returns-then-a-b : goal.returns-then-a-b
returns-then-a-b c =
    let a = c.args in
    all_from_yields_List (alike_at a.q1 a.q2 a.a.now a.b.now) c.all.new.self _ _ c.all.ensures.ran
    (YieldsList-downward (length a.a.now) cc) (λ x b q k. search (rules, tests))
    ∙ agree_down a.q1 a.q2 a.a.now a.b.now (omega arith)

pub returns-else-a-b : goal.returns-else-a-b
returns-else-a-b c = grind (arith, agree_longer)
