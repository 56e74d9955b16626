-- The rule that answers for each kind, and what is said of the bytes behind the kind said of the whole statement.
-- Assumes nothing.
use Rattle.std.specs.Prelude.{◌≡◌, Bool, true, false, List, ℕ}
use Rattle.std.proofs.Math.Path.{refl, ap}
use Rattle.std.proofs.Common.{sym, ◌∙◌}
use Rattle.std.proofs.Math.Bool.{cond}
use Rattle.bytes_format.specs.Format.{Format}
use Rattle.bytes_bundle.specs.Held.{Is, Holds, held, held_once}
use Rattle.bytes_bundle.specs.Looks.{inside_is}
use Rattle.image_bound.specs.Layout.{bound_statement}
use Rattle.rules.specs.declared.Refusal.{Refusal}
use Rattle.rules.specs.declared.Class.TheVariants.{UnsupportedSql}
use Rattle.rules.specs.Analyze.{analyze_create_table, analyze_insert, analyze_select, analyze_update, analyze_delete, analyze_kind, analyze}
use Rattle.rules.specs.Answers.{Answer, given, refuse, refuse_if, ◌>>◌}
use Rattle.rules.specs.Bound.{BoundStatement, bound_begin, bound_commit, bound_rollback, bound_show_tables, bound_show_transactions}
use Rattle.rules.specs.Limits.{Held, held_by_create_table, held_by_insert, held_by_body, held_by_update, held_by_delete, held_by, held_within}
use Rattle.rules.specs.Statements.{
  CreateTable,
  Insert,
  Query,
  Update,
  Delete,
  Kind,
  create_table,
  insert,
  query,
  update,
  delete,
  begin,
  commit,
  rollback,
  show_tables,
  other_kind,
  Statement,
}
use Rattle.rules.specs.Tables.{Catalogue}
use Rattle.rules.specs.Trimmed.{is_show_transactions}
use Rattle.image_parts.specs.Layout.{create, insertion, selection, updating, deletion, statement}
use Rattle.bytes_wire.specs.Sets.{Wrote}
use Rattle.bind_create.specs.Within.{CreateWithin}
use Rattle.bind_insert.specs.Within.{InsertWithin}
use Rattle.bind_select.specs.Within.{QueryWithin}
use Rattle.bind_update.specs.Within.{Limited}
use Rattle.bind_delete.specs.Within.{DeleteWithin}
use Rattle.std.specs.Prelude.{Result}
use Rattle.bind_table.specs.Told.{sized}
use Rattle.bind_table.specs.Steps.{sized_as}
use Rattle.bind_table.specs.Room.{Bindable}
use Rattle.bind_statement.specs.Within.{StatementWithin, held_within_lem}
use Rattle.bind_statement.specs.Kinds.{Behind}

-- ---- the raw text first

-- by the kind alone
abbrev pub by_kind : Catalogue → Statement → Answer BoundStatement
by_kind cat v = analyze_kind cat v.kind

module _ (cat : Catalogue) (v : Statement) where
  pub shows_transactions : is_show_transactions v.raw ≡ true → analyze cat v ≡ given bound_show_transactions
  unfolding analyze
  shows_transactions e = ap (λ (b : Bool). cond b (given bound_show_transactions) (by_kind cat v)) e

  pub goes_by_kind : is_show_transactions v.raw ≡ false → analyze cat v ≡ by_kind cat v
  unfolding analyze
  goes_by_kind e = ap (λ (b : Bool). cond b (given bound_show_transactions) (by_kind cat v)) e

-- ---- the rule of each kind

-- a statement that takes no mark
abbrev pub unmarked : Bool → BoundStatement → Answer BoundStatement
unmarked m b = refuse_if m UnsupportedSql >> given b

module _ (cat : Catalogue) where
  pub create_rule : (c : CreateTable) → analyze_kind cat (create_table c) ≡ analyze_create_table cat c
  unfolding analyze_kind
  create_rule c = refl

  pub insert_rule : (i : Insert) → analyze_kind cat (insert i) ≡ analyze_insert cat i
  unfolding analyze_kind
  insert_rule i = refl

  pub query_rule : (q : Query) → analyze_kind cat (query q) ≡ analyze_select cat q
  unfolding analyze_kind
  query_rule q = refl

  pub update_rule : (u : Update) → analyze_kind cat (update u) ≡ analyze_update cat u
  unfolding analyze_kind
  update_rule u = refl

  pub delete_rule : (d : Delete) → analyze_kind cat (delete d) ≡ analyze_delete cat d
  unfolding analyze_kind
  delete_rule d = refl

  pub begin_rule : (m : Bool) → analyze_kind cat (begin m) ≡ unmarked m bound_begin
  unfolding analyze_kind
  begin_rule m = refl

  pub commit_rule : (m : Bool) → analyze_kind cat (commit m) ≡ unmarked m bound_commit
  unfolding analyze_kind
  commit_rule m = refl

  pub rollback_rule : (m n : Bool) → analyze_kind cat (rollback m n) ≡ (refuse_if m UnsupportedSql >> unmarked n bound_rollback)
  unfolding analyze_kind
  rollback_rule m n = refl

  pub show_tables_rule : (m : Bool) → analyze_kind cat (show_tables m) ≡ unmarked m bound_show_tables
  unfolding analyze_kind
  show_tables_rule m = refl

  pub other_rule : {k : Kind} → k ≡ other_kind → analyze_kind cat k ≡ refuse UnsupportedSql
  unfolding analyze_kind
  other_rule e = ap (analyze_kind cat) e

-- ---- of the bytes behind the kind

module _ {A : Type 0} {f : Format A} {make : A → Kind} {s t : List ℕ} (k : Behind f make s t) where
  -- what it holds is within the limits
  behind_within : (h : A → Held) → ((a : A) → held_by (make a) ≡ h a) → StatementWithin s → (a : A) → Holds f t a → held_within (h a) ≡ true
  behind_within h e w a g = held w.is (λ v j.
      let x = k.of v j in
      ap (λ (y : A). held_within (h y)) (held_once f g x.1) ∙ sym (ap held_within (ap held_by x.2 ∙ e x.0)) ∙ held_within_lem w v j)

  module _ (rule : Catalogue → A → Answer BoundStatement) (e : (cat : Catalogue) (a : A) → analyze_kind cat (make a) ≡ rule cat a) where
    behind_rule : (cat : Catalogue) (v : Statement) (h : Holds statement s v) → by_kind cat v ≡ rule cat (k.of v h).0
    behind_rule cat v h = ap (analyze_kind cat) (k.of v h).2 ∙ e cat (k.of v h).0

    -- what was measured of it was measured of the statement
    pub behind_sized : {m : Result ℕ Refusal} (cat : Catalogue) (v : Statement) → Holds statement s v → ((a : A) → Holds f t a → m ≡ sized bound_statement (rule cat a))
        → m ≡ sized bound_statement (by_kind cat v)
    behind_sized cat v h says = sized_as bound_statement (behind_rule cat v h) (says (k.of v h).0 (k.of v h).1)

    -- it is bindable where the statement is
    pub behind_bindable : {c o : List ℕ} → Bindable statement bound_statement by_kind c s o → Bindable f bound_statement rule c t o
    behind_bindable p = record {
      tables = p.tables;
      holds = p.holds;
      statement = (k.of p.statement p.reads).0;
      reads = (k.of p.statement p.reads).1;
      value = p.value;
      gives = sym (behind_rule p.tables p.statement p.reads) ∙ p.gives;
      room = p.room;
    }

    -- what was written for it was written for the statement
    pub behind_wrote : {o o' : List ℕ} {r : ℕ} (cat : Catalogue) (v : Statement) (b : BoundStatement) → Holds statement s v → by_kind cat v ≡ given b
        → ((a : A) → Holds f t a → rule cat a ≡ given b → Wrote o 0 (bound_statement.write b) r o') → Wrote o 0 (bound_statement.write b) r o'
    behind_wrote cat v b h g says = says (k.of v h).0 (k.of v h).1 (sym (behind_rule cat v h) ∙ g)

module _ {s t : List ℕ} (w : StatementWithin s) where
  pub create_limited : Behind create create_table s t → CreateWithin t
  unfolding held_by
  create_limited k = record { is = inside_is k w.is; within = behind_within k held_by_create_table (λ c. refl) w }

  pub insert_limited : Behind insertion insert s t → Is insertion t × InsertWithin t
  unfolding held_by
  insert_limited k = (inside_is k w.is, record { within = behind_within k held_by_insert (λ i. refl) w })

  pub query_limited : Behind selection query s t → QueryWithin t
  unfolding held_by
  query_limited k = record { is = inside_is k w.is; within = behind_within k (λ q. held_by_body q.body) (λ q. refl) w }

  pub update_limited : Behind updating update s t → Is updating t × Limited t
  unfolding held_by
  update_limited k = (inside_is k w.is, record { within = behind_within k held_by_update (λ u. refl) w })

  pub delete_limited : Behind deletion delete s t → DeleteWithin t
  unfolding held_by
  delete_limited k = record { is = inside_is k w.is; within = behind_within k held_by_delete (λ d. refl) w }
