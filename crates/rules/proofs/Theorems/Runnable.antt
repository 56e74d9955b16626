-- Number 12: a statement that binds can be run exactly if it binds to an UPDATE.
-- Assumes nothing.
use Rattle.std.specs.Prelude.{◌≡◌, Bool, true, false, cond, ◌↔◌, []}
use Rattle.std.proofs.Common.{◌∙◌, sym, ap}
use Rattle.std.proofs.Math.Path.{refl}
use Rattle.std.proofs.lemmas.Bool.{false≢true}
use Rattle.std.proofs.Math.Option.{Option, none, some}
use Rattle.rules.specs.declared.Class.TheVariants.{UnsupportedSql, InvalidArgument}
use Rattle.rules.specs.Lists.{is_some, is_empty}
use Rattle.rules.specs.Answers.{Answer, given, refused, ◌>>=◌, ◌>>◌}
use Rattle.rules.specs.Tables.{Catalogue}
use Rattle.rules.specs.Statements.{Kind, create_table, insert, query, update, delete, begin, commit, rollback, show_tables, other_kind, Statement}
use Rattle.rules.specs.Bound.{
  BoundUpdate,
  BoundStatement,
  bound_create_table,
  bound_insert,
  bound_select,
  bound_update,
  bound_delete,
  bound_begin,
  bound_commit,
  bound_rollback,
  bound_show_tables,
  bound_show_transactions,
}
use Rattle.rules.specs.Trimmed.{is_show_transactions}
use Rattle.rules.specs.Fits.{bind_boolean_filter}
use Rattle.rules.specs.Analyze.{assignments, resolve_direct_table, analyze_create_table, analyze_insert, analyze_select, analyze_update, analyze_delete, analyze_kind, analyze}
use Rattle.rules.specs.Heard.{Running, update_of, runnable}
use Rattle.rules.proofs.Theorems.Answered.{never_given}
use Rattle.rules.proofs.Theorems.Steps.{step, step_found, step_past}

-- a bound statement that is an UPDATE
abbrev pub IsUpdate : BoundStatement → Type 0
IsUpdate b = (u : BoundUpdate) × (b ≡ bound_update u)

abbrev is_update : BoundStatement → Bool
is_update (bound_create_table c) = false
is_update (bound_insert i) = false
is_update (bound_select s) = false
is_update (bound_update u) = true
is_update (bound_delete d) = false
is_update bound_begin = false
is_update bound_commit = false
is_update bound_rollback = false
is_update bound_show_tables = false
is_update bound_show_transactions = false

-- ---- whatever the steps before, the last one tells whether an UPDATE is given

-- an UPDATE is given
told : Answer BoundStatement → Bool
told (given b) = is_update b
told (refused q) = false

told_given : (b : BoundStatement) → told (given b) ≡ is_update b
unfolding told
told_given b = refl

-- what is so of a value that is given
when_given : {A : Type 0} → Answer A → (A → Bool) → Bool
when_given (given a) f = f a
when_given (refused q) f = false

when_none : {A : Type 0} (r : Answer A) → when_given r (λ a. false) ≡ false
unfolding when_given
when_none (given a) = refl
when_none (refused q) = refl

module _ {A : Type 0} where
  told_bind : (r : Answer A) (k : A → Answer BoundStatement) → told (r >>= k) ≡ when_given r (λ a. told (k a))
  unfolding told when_given
  told_bind (given a) k = refl
  told_bind (refused q) k = refl

  told_then : (r : Answer A) (k : Answer BoundStatement) → told (r >> k) ≡ when_given r (λ a. told k)
  unfolding told when_given
  told_then (given a) k = refl
  told_then (refused q) k = refl

ruleset told-steps = (told_bind, told_then, told_given, when_none)

not_told : {b : BoundStatement} (r : Answer BoundStatement) → told r ≡ false → r ≡ given b → false ≡ is_update b
not_told {b} r e h = sym e ∙ ap told h ∙ told_given b

kind_told : (cat : Catalogue) (kind : Kind) (b : BoundStatement) → analyze_kind cat kind ≡ given b → is_some (update_of cat kind) ≡ is_update b
unfolding analyze_kind analyze_create_table analyze_insert analyze_select analyze_delete analyze_update
kind_told cat (create_table c) b h = not_told (analyze_create_table cat c) (simp told-steps) h
kind_told cat (insert i) b h = not_told (analyze_insert cat i) (simp told-steps) h
kind_told cat (query q) b h = not_told (analyze_select cat q) (simp told-steps) h
kind_told cat (update u) b h =
    step_past u.from UnsupportedSql _ h
    (λ e₁ h₁.
    step_past u.returning UnsupportedSql _ h₁
    (λ e₂ h₂.
    step_past u.conflict UnsupportedSql _ h₂
    (λ e₃ h₃.
    step_past (is_empty u.assignments) InvalidArgument _ h₃
    (λ e₄ h₄.
    step (resolve_direct_table cat u.table) _ h₄
    (λ t table h₅.
    step_found u.condition UnsupportedSql _ h₅
    (λ w condition h₆.
    step (assignments t [] u.assignments) _ h₆
    (λ bs e₇ h₇.
    step (bind_boolean_filter t w) _ h₇
    (λ x e₈ h₈.
    rw (table, condition) (sym (told_given _) ∙ ap told h₈ ∙ told_given b)))))))))
kind_told cat (delete d) b h = not_told (analyze_delete cat d) (simp told-steps) h
kind_told cat (begin marked) b h = not_told _ (simp told-steps) h
kind_told cat (commit chain) b h = not_told _ (simp told-steps) h
kind_told cat (rollback chain savepoint) b h = not_told _ (simp told-steps) h
kind_told cat (show_tables marked) b h = not_told _ (simp told-steps) h
kind_told cat other_kind b h = absurd (never_given h)

runnable_told : (cat : Catalogue) (s : Statement) (b : BoundStatement) → analyze cat s ≡ given b → is_some (runnable cat s) ≡ is_update b
unfolding analyze runnable
runnable_told cat s b = go (is_show_transactions s.raw)
  where
    go : (shown : Bool) → cond shown (given bound_show_transactions) (analyze_kind cat s.kind) ≡ given b
        → is_some (cond shown none (update_of cat s.kind)) ≡ is_update b
    go true h = not_told _ (told_given bound_show_transactions) h
    go false h = kind_told cat s.kind b h

is_update_lem : (b : BoundStatement) → is_update b ≡ true → IsUpdate b
is_update_lem (bound_create_table c) h = absurd (false≢true h)
is_update_lem (bound_insert i) h = absurd (false≢true h)
is_update_lem (bound_select s) h = absurd (false≢true h)
is_update_lem (bound_update u) h = (u, refl)
is_update_lem (bound_delete d) h = absurd (false≢true h)
is_update_lem bound_begin h = absurd (false≢true h)
is_update_lem bound_commit h = absurd (false≢true h)
is_update_lem bound_rollback h = absurd (false≢true h)
is_update_lem bound_show_tables h = absurd (false≢true h)
is_update_lem bound_show_transactions h = absurd (false≢true h)

is_some_lem : {A : Type 0} (o : Option A) → is_some o ≡ true → (a : A) × (o ≡ some a)
is_some_lem none h = absurd (false≢true h)
is_some_lem (some a) h = (a, refl)

-- a statement that binds to b can be run exactly if b is an UPDATE
pub runnable_exactly : (cat : Catalogue) (s : Statement) (b : BoundStatement) → analyze cat s ≡ given b
    → ((r : Running) × (runnable cat s ≡ some r)) ↔ IsUpdate b
runnable_exactly cat s b h = (
  λ r. is_update_lem b (sym (runnable_told cat s b h) ∙ ap is_some r.1),
  λ u. is_some_lem (runnable cat s) (runnable_told cat s b h ∙ ap is_update u.1),
)
