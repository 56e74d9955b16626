-- `write_statement::write_kind` meets its contract. The kind that the code says decides.
use mathlib.Core.Path.{◌≡◌, refl, sym, ◌∙◌}
use Prim.Native.Nat.{ℕ}
use Rattle.image_bound.specs.Statements.{begin_coded, commit_coded, rollback_coded, show_tables_coded}
use Rattle.statement_limits.specs.Cases.{Coded}
use Rattle.rules.specs.Analyze.{analyze_create_table, analyze_insert, analyze_select, analyze_update, analyze_delete}
use Rattle.bind_statement.specs.Dispatch.{
  create_rule,
  insert_rule,
  query_rule,
  update_rule,
  delete_rule,
  behind_bindable,
  behind_wrote,
  create_limited,
  insert_limited,
  query_limited,
  update_limited,
  delete_limited,
}
use Rattle.bind_statement.specs.Kinds.{
  create_behind,
  insert_behind,
  query_behind,
  update_behind,
  delete_behind,
  begin_behind,
  commit_behind,
  rollback_behind,
  show_tables_behind,
  other_behind,
}
use Rattle.write_statement.specs.Codes.{code_room, code_wrote, begin_bound, commit_bound, rollback_bound, show_tables_bound, other_unbound}
use Rattle.write_statement.proofs.write_kind.Goals.{After-kind_code}
use Rattle.write_statement.proofs.write_kind.Goals as goal

-- the code that was read is n
coded : (c : After-kind_code) (n : ℕ) → c.kind_code.result ≡ n → Coded c.args.s.now c.kind_body-body.result.now n
coded c n e = record { code = λ v h. sym e ∙ c.kind_code.ensures v h; body = c.kind_body-body.ensures }

pub write_create_table-requires : goal.write_create_table-requires
write_create_table-requires c =
    let k = create_behind (coded (goal.at.write_create_table-requires c).After-kind_code 0 c.in-0.is) in
    let p = c.requires in
    (create_limited p.0 k, behind_bindable k analyze_create_table create_rule p.1)

pub write_insert-requires : goal.write_insert-requires
write_insert-requires c =
    let k = insert_behind (coded (goal.at.write_insert-requires c).After-kind_code 1 c.in-1.is) in
    let p = c.requires in
    (insert_limited p.0 k, behind_bindable k analyze_insert insert_rule p.1)

pub write_select-requires : goal.write_select-requires
write_select-requires c =
    let k = query_behind (coded (goal.at.write_select-requires c).After-kind_code 2 c.in-2.is) in
    let p = c.requires in
    (query_limited p.0 k, behind_bindable k analyze_select query_rule p.1)

pub write_update-requires : goal.write_update-requires
write_update-requires c =
    let k = update_behind (coded (goal.at.write_update-requires c).After-kind_code 3 c.in-3.is) in
    let p = c.requires in
    (update_limited p.0 k, behind_bindable k analyze_update update_rule p.1)

pub write_delete-requires : goal.write_delete-requires
write_delete-requires c =
    let k = delete_behind (coded (goal.at.write_delete-requires c).After-kind_code 4 c.in-4.is) in
    let p = c.requires in
    (delete_limited p.0 k, behind_bindable k analyze_delete delete_rule p.1)

pub put_byte-requires : goal.put_byte-requires
put_byte-requires c =
    code_room (begin_bound (begin_behind (coded (goal.at.put_byte-requires c).After-kind_code 5 c.in-5.is))) begin_coded c.requires.1

pub put_byte-requires-in-6 : goal.put_byte-requires-in-6
put_byte-requires-in-6 c =
    code_room (commit_bound (commit_behind (coded (goal.at.put_byte-requires-in-6 c).After-kind_code 6 c.in-6.is))) commit_coded c.requires.1

pub put_byte-requires-in-7 : goal.put_byte-requires-in-7
put_byte-requires-in-7 c =
    code_room (rollback_bound (rollback_behind (coded (goal.at.put_byte-requires-in-7 c).After-kind_code 7 c.in-7.is))) rollback_coded c.requires.1

pub put_byte-requires-in-8 : goal.put_byte-requires-in-8
put_byte-requires-in-8 c =
    code_room (show_tables_bound (show_tables_behind (coded (goal.at.put_byte-requires-in-8 c).After-kind_code 8 c.in-8.is))) show_tables_coded c.requires.1

pub returns-in-0 : goal.returns-in-0
returns-in-0 c = λ cat v b hc h g.
    behind_wrote (create_behind (coded (goal.at.returns-in-0 c).After-kind_code 0 c.in-0.is)) analyze_create_table create_rule cat v b h g (λ a e i. c.write_create_table.ensures cat a b hc e i)

pub returns-in-1 : goal.returns-in-1
returns-in-1 c = λ cat v b hc h g.
    behind_wrote (insert_behind (coded (goal.at.returns-in-1 c).After-kind_code 1 c.in-1.is)) analyze_insert insert_rule cat v b h g (λ a e i. c.write_insert.ensures cat a b hc e i)

pub returns-in-2 : goal.returns-in-2
returns-in-2 c = λ cat v b hc h g.
    behind_wrote (query_behind (coded (goal.at.returns-in-2 c).After-kind_code 2 c.in-2.is)) analyze_select query_rule cat v b h g (λ a e i. c.write_select.ensures cat a b hc e i)

pub returns-in-3 : goal.returns-in-3
returns-in-3 c = λ cat v b hc h g.
    behind_wrote (update_behind (coded (goal.at.returns-in-3 c).After-kind_code 3 c.in-3.is)) analyze_update update_rule cat v b h g (λ a e i. c.write_update.ensures cat a b hc e i)

pub returns-in-4 : goal.returns-in-4
returns-in-4 c = λ cat v b hc h g.
    behind_wrote (delete_behind (coded (goal.at.returns-in-4 c).After-kind_code 4 c.in-4.is)) analyze_delete delete_rule cat v b h g (λ a e i. c.write_delete.ensures cat a b hc e i)

pub returns-in-5 : goal.returns-in-5
returns-in-5 c = λ cat v b hc h g.
    code_wrote (begin_bound (begin_behind (coded (goal.at.returns-in-5 c).After-kind_code 5 c.in-5.is))) begin_coded c.put_byte.ensures cat v b h g

pub returns-in-6 : goal.returns-in-6
returns-in-6 c = λ cat v b hc h g.
    code_wrote (commit_bound (commit_behind (coded (goal.at.returns-in-6 c).After-kind_code 6 c.in-6.is))) commit_coded c.put_byte-in-6.ensures cat v b h g

pub returns-in-7 : goal.returns-in-7
returns-in-7 c = λ cat v b hc h g.
    code_wrote (rollback_bound (rollback_behind (coded (goal.at.returns-in-7 c).After-kind_code 7 c.in-7.is))) rollback_coded c.put_byte-in-7.ensures cat v b h g

pub returns-in-8 : goal.returns-in-8
returns-in-8 c = λ cat v b hc h g.
    code_wrote (show_tables_bound (show_tables_behind (coded (goal.at.returns-in-8 c).After-kind_code 8 c.in-8.is))) show_tables_coded c.put_byte-in-8.ensures cat v b h g

pub returns-in_default : goal.returns-in_default
returns-in_default c = λ cat v b hc h g.
    other_unbound cat (other_behind c.kind_code.result (coded (goal.at.returns-in_default c).After-kind_code c.kind_code.result refl) c.in_default.in_default-own.rest v h) g
