-- `statement_ascii::names_beyond_ascii` meets its contract. The kind that the code says decides.
use Prim.Native.Nat.{ℕ}
use Rattle.statement_ascii.specs.Beyond.{Beyond}
use Rattle.bytes_bundle.specs.Looks.{inside_is, inside_says}
use Rattle.statement_limits.specs.Cases.{Coded, create_inside, insert_inside, query_inside, update_inside, delete_inside, no_body}
use Rattle.rules.specs.Limits.{Held, names_beyond_ascii}
use mathlib.Core.Bool.{Bool}
use mathlib.Core.Path.{◌≡◌, refl, sym, ap, ◌∙◌}
use native.Mathlib.Omega.{arith}
use Rattle.statement_ascii.proofs.names_beyond_ascii.Goals.{After-kind_code}
use Rattle.statement_ascii.proofs.names_beyond_ascii.Goals as goal

-- of what a statement holds, its names
abbrev beyond : Held → Bool
beyond h = Beyond h.names

-- the code that was read is n
coded : (c : After-kind_code) (n : ℕ) → c.kind_code.result ≡ n → Coded c.args.s.now c.kind_body-body.result.now n
coded c n e = record { code = λ v h. sym e ∙ c.kind_code.ensures v h; body = c.kind_body-body.ensures }

pub create_beyond-requires : goal.create_beyond-requires
create_beyond-requires c = inside_is (create_inside (coded (goal.at.create_beyond-requires c).After-kind_code 0 c.in-0.is)) c.requires

pub insert_beyond-requires : goal.insert_beyond-requires
insert_beyond-requires c = inside_is (insert_inside (coded (goal.at.insert_beyond-requires c).After-kind_code 1 c.in-1.is)) c.requires

pub query_beyond-requires : goal.query_beyond-requires
query_beyond-requires c = inside_is (query_inside (coded (goal.at.query_beyond-requires c).After-kind_code 2 c.in-2.is)) c.requires

pub update_beyond-requires : goal.update_beyond-requires
update_beyond-requires c = inside_is (update_inside (coded (goal.at.update_beyond-requires c).After-kind_code 3 c.in-3.is)) c.requires

pub delete_beyond-requires : goal.delete_beyond-requires
delete_beyond-requires c = inside_is (delete_inside (coded (goal.at.delete_beyond-requires c).After-kind_code 4 c.in-4.is)) c.requires

pub returns-in-0 : goal.returns-in-0
unfolding names_beyond_ascii
returns-in-0 c = inside_says (create_inside (coded (goal.at.returns-in-0 c).After-kind_code 0 c.in-0.is)) beyond c.create_beyond.ensures

pub returns-in-1 : goal.returns-in-1
unfolding names_beyond_ascii
returns-in-1 c = inside_says (insert_inside (coded (goal.at.returns-in-1 c).After-kind_code 1 c.in-1.is)) beyond c.insert_beyond.ensures

pub returns-in-2 : goal.returns-in-2
unfolding names_beyond_ascii
returns-in-2 c = inside_says (query_inside (coded (goal.at.returns-in-2 c).After-kind_code 2 c.in-2.is)) beyond c.query_beyond.ensures

pub returns-in-3 : goal.returns-in-3
unfolding names_beyond_ascii
returns-in-3 c = inside_says (update_inside (coded (goal.at.returns-in-3 c).After-kind_code 3 c.in-3.is)) beyond c.update_beyond.ensures

pub returns-in-4 : goal.returns-in-4
unfolding names_beyond_ascii
returns-in-4 c = inside_says (delete_inside (coded (goal.at.returns-in-4 c).After-kind_code 4 c.in-4.is)) beyond c.delete_beyond.ensures

pub returns-in_default : goal.returns-in_default
unfolding names_beyond_ascii
returns-in_default c = λ v h. sym (ap beyond (no_body c.kind_code.result (coded (goal.at.returns-in_default c).After-kind_code c.kind_code.result refl) (omega arith) v h))
