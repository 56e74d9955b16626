-- The kinds whose bound statement is a code alone: what they are bound to, and its image.
-- Assumes nothing.
use Rattle.std.specs.Prelude.{◌≡◌, Bool, true, false, List, [], ◌∷◌, ℕ, ◌≤◌, length}
use Rattle.std.proofs.Common.{sym, ap, ◌∙◌, arith}
use Rattle.bytes_format.specs.Format.{Format}
use Rattle.bytes_format.proofs.Formats.{mark, both, alone}
use Rattle.image_bound.specs.Layout.{bound_statement}
use Rattle.image_bound.specs.Written.{spelt}
use Rattle.bytes_bundle.specs.Held.{Holds}
use Rattle.rules.specs.declared.Class.TheVariants.{UnsupportedSql}
use Rattle.rules.specs.Analyze.{analyze_kind, analyze}
use Rattle.rules.specs.Answers.{Answer, given}
use Rattle.rules.specs.Bound.{BoundStatement, bound_begin, bound_commit, bound_rollback, bound_show_tables, bound_show_transactions}
use Rattle.rules.specs.Statements.{Kind, begin, commit, show_tables, other_kind, Statement}
use Rattle.rules.specs.Tables.{Catalogue}
use Rattle.rules.proofs.Theorems.Answered.{never_given}
use Rattle.rules.proofs.Theorems.Steps.{step_past}
use Rattle.rules.specs.Trimmed.{is_show_transactions}
use Rattle.image_parts.specs.Layout.{statement}
use Rattle.bytes_wire.specs.Sets.{Wrote}
use Rattle.bind_table.specs.Room.{Bindable}
use Rattle.bind_statement.specs.Dispatch.{by_kind, unmarked, begin_rule, commit_rule, rollback_rule, show_tables_rule, other_rule, shows_transactions, goes_by_kind}
use Rattle.bind_statement.specs.Kinds.{Behind, two_marks}

-- by a rule the statement in s is bound to x and nothing else
pub record BoundTo (rule : Catalogue → Statement → Answer BoundStatement) (s : List ℕ) (x : BoundStatement) : Type 0 where
  pub is : (cat : Catalogue) (v : Statement) (b : BoundStatement) → Holds statement s v → rule cat v ≡ given b → x ≡ b

module _ {rule : Catalogue → Statement → Answer BoundStatement} {s : List ℕ} {x : BoundStatement} {n : ℕ} (k : BoundTo rule s x) (coded : bound_statement.write x ≡ n ∷ []) where
  -- there is room for the code
  pub code_room : {c o : List ℕ} → Bindable statement bound_statement rule c s o → 1 ≤ length o
  code_room p =
      let e = ap (λ (b : BoundStatement). length (bound_statement.write b)) (k.is p.tables p.statement p.value p.reads p.gives) in
      omega (arith, e, ap length coded, p.room)

  -- the code is the image
  pub code_wrote : {o o' : List ℕ} {r : ℕ} → Wrote o 0 (n ∷ []) r o' → (cat : Catalogue) (v : Statement) (b : BoundStatement) → Holds statement s v
      → rule cat v ≡ given b → Wrote o 0 (bound_statement.write b) r o'
  code_wrote w cat v b h g = spelt (sym coded ∙ ap bound_statement.write (k.is cat v b h g)) w

-- ---- by the kind

unmarked_given : (m : Bool) (x b : BoundStatement) → unmarked m x ≡ given b → x ≡ b
unmarked_given m x b h = step_past m UnsupportedSql (given x) h (λ z g. cc)

behind_bound : {A : Type 0} {f : Format A} {make : A → Kind} {s t : List ℕ} {x : BoundStatement} → Behind f make s t
    → ((cat : Catalogue) (a : A) (b : BoundStatement) → analyze_kind cat (make a) ≡ given b → x ≡ b) → BoundTo by_kind s x
behind_bound k e = record { is = λ cat v b h g. e cat (k.of v h).0 b (sym (ap (analyze_kind cat) (k.of v h).2) ∙ g) }

module _ {s t : List ℕ} where
  pub begin_bound : Behind (alone mark) begin s t → BoundTo by_kind s bound_begin
  begin_bound k = behind_bound k (λ cat m b g. unmarked_given m bound_begin b (sym (begin_rule cat m) ∙ g))

  pub commit_bound : Behind (alone mark) commit s t → BoundTo by_kind s bound_commit
  commit_bound k = behind_bound k (λ cat m b g. unmarked_given m bound_commit b (sym (commit_rule cat m) ∙ g))

  pub rollback_bound : Behind (alone (both mark mark)) two_marks s t → BoundTo by_kind s bound_rollback
  rollback_bound k = behind_bound k (λ cat p b g.
      step_past p.0 UnsupportedSql (unmarked p.1 bound_rollback) (sym (rollback_rule cat p.0 p.1) ∙ g) (λ z e. unmarked_given p.1 bound_rollback b e))

  pub show_tables_bound : Behind (alone mark) show_tables s t → BoundTo by_kind s bound_show_tables
  show_tables_bound k = behind_bound k (λ cat m b g. unmarked_given m bound_show_tables b (sym (show_tables_rule cat m) ∙ g))

-- no other kind is bound
pub other_unbound : {C : Type 0} (cat : Catalogue) {k : Kind} {b : BoundStatement} → k ≡ other_kind → analyze_kind cat k ≡ given b → C
other_unbound cat e g = absurd (never_given (sym (other_rule cat e) ∙ g))

-- ---- by the raw text

module _ {s : List ℕ} where
  pub transactions_bound : ((v : Statement) → Holds statement s v → is_show_transactions v.raw ≡ true) → BoundTo analyze s bound_show_transactions
  transactions_bound e = record { is = λ cat v b h g. let x = shows_transactions cat v (e v h) in cc }

  pub kind_bindable : {c o : List ℕ} → ((v : Statement) → Holds statement s v → is_show_transactions v.raw ≡ false)
      → Bindable statement bound_statement analyze c s o → Bindable statement bound_statement by_kind c s o
  kind_bindable e p = record {
    tables = p.tables;
    holds = p.holds;
    statement = p.statement;
    reads = p.reads;
    value = p.value;
    gives = sym (goes_by_kind p.tables p.statement (e p.statement p.reads)) ∙ p.gives;
    room = p.room;
  }
