-- `statement_limits::statement_within` meets its contract. Behind its size, the kind that the code says decides.
use Prim.Native.Nat.{ℕ}
use Rattle.bytes_bundle.specs.Decides.{Decides, stop, on, last}
use Rattle.bytes_bundle.specs.Looks.{inside_is, inside_says}
use Rattle.statement_limits.specs.Cases.{Coded, create_inside, insert_inside, query_inside, update_inside, delete_inside, no_body}
use Rattle.statement_limits.specs.Within.{nothing_within, statement_within_lem}
use Rattle.rules.specs.Limits.{held_by, held_within, statement_within}
use Rattle.rules.specs.Statements.{Statement}
use borrow.Author.Tests.{le-leb, lt-leb}
use lib.ListN.{length}
use mathlib.Core.List.{[], ◌∷◌}
use mathlib.Core.Path.{◌≡◌, refl, sym, ap, ◌∙◌}
use native.Mathlib.Omega.{arith}
use Rattle.statement_limits.proofs.statement_within.Goals.{After-kind_code}
use Rattle.statement_limits.proofs.statement_within.Goals.{Else-s-gt65536}
use Rattle.statement_limits.proofs.statement_within.Goals as goal

-- the code that was read is n
coded : (c : After-kind_code) (n : ℕ) → c.kind_code.result ≡ n → Coded c.args.s.now c.kind_body-body.result.now n
coded c n e = record { code = λ v h. sym e ∙ c.kind_code.ensures v h; body = c.kind_body-body.ensures }

-- the bytes are few enough, and what the statement holds decides
left : (c : Else-s-gt65536) (v : Statement) → Decides (statement_within (length c.args.s.now) v) (held_within (held_by v.kind) ∷ [])
left c v = on (statement_within_lem (length c.args.s.now) v) (le-leb _ _ c.if-s-gt65536.false)

pub returns-then-s-gt65536 : goal.returns-then-s-gt65536
returns-then-s-gt65536 c = λ v h. stop (statement_within_lem (length c.args.s.now) v) (lt-leb _ _ c.if-s-gt65536.true)

pub is_create_within-requires : goal.is_create_within-requires
is_create_within-requires c = inside_is (create_inside (coded (goal.at.is_create_within-requires c).After-kind_code 0 c.in-0.is)) c.requires

pub is_insert_within-requires : goal.is_insert_within-requires
is_insert_within-requires c = inside_is (insert_inside (coded (goal.at.is_insert_within-requires c).After-kind_code 1 c.in-1.is)) c.requires

pub is_query_within-requires : goal.is_query_within-requires
is_query_within-requires c = inside_is (query_inside (coded (goal.at.is_query_within-requires c).After-kind_code 2 c.in-2.is)) c.requires

pub is_update_within-requires : goal.is_update_within-requires
is_update_within-requires c = inside_is (update_inside (coded (goal.at.is_update_within-requires c).After-kind_code 3 c.in-3.is)) c.requires

pub is_delete_within-requires : goal.is_delete_within-requires
is_delete_within-requires c = inside_is (delete_inside (coded (goal.at.is_delete_within-requires c).After-kind_code 4 c.in-4.is)) c.requires

pub returns-in-0 : goal.returns-in-0
returns-in-0 c = λ v h.
    last (left (goal.at.returns-in-0 c).Else-s-gt65536 v) (inside_says (create_inside (coded (goal.at.returns-in-0 c).After-kind_code 0 c.in-0.is)) held_within c.is_create_within.ensures v h)

pub returns-in-1 : goal.returns-in-1
returns-in-1 c = λ v h.
    last (left (goal.at.returns-in-1 c).Else-s-gt65536 v) (inside_says (insert_inside (coded (goal.at.returns-in-1 c).After-kind_code 1 c.in-1.is)) held_within c.is_insert_within.ensures v h)

pub returns-in-2 : goal.returns-in-2
returns-in-2 c = λ v h.
    last (left (goal.at.returns-in-2 c).Else-s-gt65536 v) (inside_says (query_inside (coded (goal.at.returns-in-2 c).After-kind_code 2 c.in-2.is)) held_within c.is_query_within.ensures v h)

pub returns-in-3 : goal.returns-in-3
returns-in-3 c = λ v h.
    last (left (goal.at.returns-in-3 c).Else-s-gt65536 v) (inside_says (update_inside (coded (goal.at.returns-in-3 c).After-kind_code 3 c.in-3.is)) held_within c.is_update_within.ensures v h)

pub returns-in-4 : goal.returns-in-4
returns-in-4 c = λ v h.
    last (left (goal.at.returns-in-4 c).Else-s-gt65536 v) (inside_says (delete_inside (coded (goal.at.returns-in-4 c).After-kind_code 4 c.in-4.is)) held_within c.is_delete_within.ensures v h)

pub returns-in_default : goal.returns-in_default
returns-in_default c = λ v h.
    last (left (goal.at.returns-in_default c).Else-s-gt65536 v) (sym (ap held_within (no_body c.kind_code.result (coded (goal.at.returns-in_default c).After-kind_code c.kind_code.result refl) (omega arith) v h) ∙ nothing_within))
