-- `bind_statement::analyze_kind` meets its contract. The kind that the code says decides.
use mathlib.Core.Path.{◌≡◌, refl, sym, ◌∙◌}
use Prim.Native.Nat.{ℕ}
use Rattle.image_bound.specs.Layout.{bound_statement}
use Rattle.image_bound.specs.Sizes.{begin_length, commit_length, show_tables_length}
use Rattle.bytes_bundle.specs.Looks.{inside_is}
use Rattle.statement_limits.specs.Cases.{Coded}
use Rattle.bind_table.specs.Steps.{sized_refused}
use Rattle.rules.specs.Analyze.{analyze_create_table, analyze_insert, analyze_select, analyze_update, analyze_delete, analyze_kind}
use Rattle.rules.specs.Bound.{bound_begin, bound_commit, bound_show_tables}
use Rattle.bind_statement.specs.Dispatch.{
  unmarked,
  create_rule,
  insert_rule,
  query_rule,
  update_rule,
  delete_rule,
  begin_rule,
  commit_rule,
  show_tables_rule,
  other_rule,
  behind_sized,
  create_limited,
  insert_limited,
  query_limited,
  update_limited,
  delete_limited,
}
use Rattle.bind_statement.specs.Kinds.{
  two_marks,
  create_behind,
  insert_behind,
  query_behind,
  update_behind,
  delete_behind,
  begin_behind,
  commit_behind,
  rollback_behind,
  show_tables_behind,
  other_behind,
}
use Rattle.bind_statement.proofs.analyze_kind.Goals.{After-kind_code}
use Rattle.bind_statement.proofs.analyze_kind.Goals as goal

-- the code that was read is n
coded : (c : After-kind_code) (n : ℕ) → c.kind_code.result ≡ n → Coded c.args.s.now c.kind_body-body.result.now n
coded c n e = record { code = λ v h. sym e ∙ c.kind_code.ensures v h; body = c.kind_body-body.ensures }

pub analyze_create_table-requires : goal.analyze_create_table-requires
analyze_create_table-requires c = (c.requires.0, create_limited c.requires.1 (create_behind (coded (goal.at.analyze_create_table-requires c).After-kind_code 0 c.in-0.is)))

pub analyze_insert-requires : goal.analyze_insert-requires
analyze_insert-requires c = (c.requires.0, insert_limited c.requires.1 (insert_behind (coded (goal.at.analyze_insert-requires c).After-kind_code 1 c.in-1.is)))

pub analyze_select-requires : goal.analyze_select-requires
analyze_select-requires c = (c.requires.0, query_limited c.requires.1 (query_behind (coded (goal.at.analyze_select-requires c).After-kind_code 2 c.in-2.is)))

pub analyze_update-requires : goal.analyze_update-requires
analyze_update-requires c = (c.requires.0, update_limited c.requires.1 (update_behind (coded (goal.at.analyze_update-requires c).After-kind_code 3 c.in-3.is)))

pub analyze_delete-requires : goal.analyze_delete-requires
analyze_delete-requires c = (c.requires.0, delete_limited c.requires.1 (delete_behind (coded (goal.at.analyze_delete-requires c).After-kind_code 4 c.in-4.is)))

pub analyze_unmarked-requires : goal.analyze_unmarked-requires
analyze_unmarked-requires c = inside_is (begin_behind (coded (goal.at.analyze_unmarked-requires c).After-kind_code 5 c.in-5.is)) c.requires.1.is

pub analyze_unmarked-requires-in-6 : goal.analyze_unmarked-requires-in-6
analyze_unmarked-requires-in-6 c = inside_is (commit_behind (coded (goal.at.analyze_unmarked-requires-in-6 c).After-kind_code 6 c.in-6.is)) c.requires.1.is

pub analyze_rollback-requires : goal.analyze_rollback-requires
analyze_rollback-requires c = inside_is (rollback_behind (coded (goal.at.analyze_rollback-requires c).After-kind_code 7 c.in-7.is)) c.requires.1.is

pub analyze_unmarked-requires-in-8 : goal.analyze_unmarked-requires-in-8
analyze_unmarked-requires-in-8 c = inside_is (show_tables_behind (coded (goal.at.analyze_unmarked-requires-in-8 c).After-kind_code 8 c.in-8.is)) c.requires.1.is

pub returns-in-0 : goal.returns-in-0
returns-in-0 c = λ cat v hc h.
    behind_sized (create_behind (coded (goal.at.returns-in-0 c).After-kind_code 0 c.in-0.is)) analyze_create_table create_rule cat v h (λ a g. c.analyze_create_table.ensures cat a hc g)

pub returns-in-1 : goal.returns-in-1
returns-in-1 c = λ cat v hc h.
    behind_sized (insert_behind (coded (goal.at.returns-in-1 c).After-kind_code 1 c.in-1.is)) analyze_insert insert_rule cat v h (λ a g. c.analyze_insert.ensures cat a hc g)

pub returns-in-2 : goal.returns-in-2
returns-in-2 c = λ cat v hc h.
    behind_sized (query_behind (coded (goal.at.returns-in-2 c).After-kind_code 2 c.in-2.is)) analyze_select query_rule cat v h (λ a g. c.analyze_select.ensures cat a hc g)

pub returns-in-3 : goal.returns-in-3
returns-in-3 c = λ cat v hc h.
    behind_sized (update_behind (coded (goal.at.returns-in-3 c).After-kind_code 3 c.in-3.is)) analyze_update update_rule cat v h (λ a g. c.analyze_update.ensures cat a hc g)

pub returns-in-4 : goal.returns-in-4
returns-in-4 c = λ cat v hc h.
    behind_sized (delete_behind (coded (goal.at.returns-in-4 c).After-kind_code 4 c.in-4.is)) analyze_delete delete_rule cat v h (λ a g. c.analyze_delete.ensures cat a hc g)

pub returns-in-5 : goal.returns-in-5
returns-in-5 c = λ cat v hc h.
    behind_sized (begin_behind (coded (goal.at.returns-in-5 c).After-kind_code 5 c.in-5.is)) (λ cat m. unmarked m bound_begin) begin_rule cat v h (λ m g. c.analyze_unmarked.ensures m bound_begin g begin_length)

pub returns-in-6 : goal.returns-in-6
returns-in-6 c = λ cat v hc h.
    behind_sized (commit_behind (coded (goal.at.returns-in-6 c).After-kind_code 6 c.in-6.is)) (λ cat m. unmarked m bound_commit) commit_rule cat v h (λ m g. c.analyze_unmarked-in-6.ensures m bound_commit g commit_length)

pub returns-in-7 : goal.returns-in-7
returns-in-7 c = λ cat v hc h.
    behind_sized (rollback_behind (coded (goal.at.returns-in-7 c).After-kind_code 7 c.in-7.is)) (λ cat p. analyze_kind cat (two_marks p)) (λ cat p. refl) cat v h (λ p g. c.analyze_rollback.ensures cat p.0 p.1 g)

pub returns-in-8 : goal.returns-in-8
returns-in-8 c = λ cat v hc h.
    behind_sized (show_tables_behind (coded (goal.at.returns-in-8 c).After-kind_code 8 c.in-8.is)) (λ cat m. unmarked m bound_show_tables) show_tables_rule cat v h (λ m g. c.analyze_unmarked-in-8.ensures m bound_show_tables g show_tables_length)

pub returns-in_default : goal.returns-in_default
returns-in_default c = λ cat v hc h.
    sized_refused bound_statement (other_rule cat (other_behind c.kind_code.result (coded (goal.at.returns-in_default c).After-kind_code c.kind_code.result refl) c.in_default.in_default-own.rest v h))
