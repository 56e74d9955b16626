-- Where an UPDATE that is run stands: its table in the bytes of the catalogue, its assignments and its condition in those of the statement.
-- Assumes nothing.
use Rattle.std.specs.Prelude.{◌≡◌, refl, Bool, true, false, cond, not, ◌&&◌, List, ℕ, ◌-◌, ◌≤◌, length}
use Rattle.std.proofs.Common.{sym, ap, ap₂, ◌∙◌, subst, leb-true}
use Rattle.std.proofs.Math.Option.{Option, none, some, map}
use Rattle.bytes_bundle.specs.Decides.{and_of}
use Rattle.bytes_bundle.specs.Held.{Holds, held_once}
use Rattle.image_catalogue.specs.Layout as catalogue-layout
use Rattle.image_catalogue.specs.Layout.{table, catalogue}
use Rattle.image_statement.specs.Held.{KindHolds}
use Rattle.bind_table.specs.Given.{find_all}
use Rattle.bind_table.specs.Steps.{TableGiven}
use Rattle.rules.specs.declared.Class.{Class}
use Rattle.rules.specs.declared.Class.TheVariants.{SchemaMismatch, UnsupportedSql}
use Rattle.rules.specs.Answers.{given, found}
use Rattle.rules.specs.Analyze.{relation_name, resolve_direct_table}
use Rattle.rules.specs.Heard.{Outcome, refuses, answers, received, Running}
use Rattle.rules.specs.Limits.{at_most, name_within, table_within, statement_within, catalogue_within, names_beyond_ascii}
use Rattle.rules.specs.Lists.{Text, all}
use Rattle.rules.specs.Statements.{TableWithJoins, Update, Kind, update, Statement}
use Rattle.rules.specs.Tables.{ColumnSchema, TableSchema, Catalogue, table_named, table_by_name}
use Rattle.rules.proofs.Theorems.Answered.{never_given}
use Rattle.rules.proofs.Theorems.Steps.{step, step_past, never_answers}
use Rattle.image_parts.specs.Layout as statement-layout
use Rattle.image_parts.specs.Layout.{updating, statement}
use Rattle.bind_statement.specs.Dispatch.{update_limited}
use Rattle.bind_statement.specs.Kinds.{Behind}
use Rattle.bind_statement.specs.Within.{statement_within_lem}
use Rattle.write_update.specs.Given.{given_same}
use Rattle.bind_update.specs.Within.{Limited}
use Rattle.op_received.specs.Entry.{sized, read_statement, read_catalogue}
use Rattle.op_received.specs.Received.{Received}
use Rattle.run_update.specs.Ready.{Over}
use Rattle.op_run.specs.Asked.{Dispatched}

-- ---- the table is within the limits

found_some : {A : Type 0} (k : Class) (o : Option A) {a : A} → found o k ≡ given a → o ≡ some a
found_some k none h = absurd (never_given h)
found_some k (some b) h = cc

resolved_within : (cat : Catalogue) (w : TableWithJoins) {t : TableSchema} → all table_within cat ≡ true → resolve_direct_table cat w ≡ given t → table_within t ≡ true
unfolding resolve_direct_table table_by_name
resolved_within cat w a g =
    step_past w.joins UnsupportedSql _ g (λ j h.
    step (relation_name w.relation) _ h (λ (s : Text) p k.
    find_all (table_named s) table_within cat (found_some SchemaMismatch (table_by_name cat s) k) a))

few_columns : (t : TableSchema) → table_within t ≡ true → length t.columns ≤ 64
unfolding table_within
few_columns t e =
    let a = and_of (name_within t.name && at_most 64 (length t.columns) && all (λ (c : ColumnSchema). name_within c.name) t.columns) (at_most 64 (length t.key)) e in
    let b = and_of (name_within t.name && at_most 64 (length t.columns)) (all (λ (c : ColumnSchema). name_within c.name) t.columns) a.0 in
    leb-true (length t.columns) 64 (and_of (name_within t.name) (at_most 64 (length t.columns)) b.0).1

tables_within : (n : ℕ) (cat : Catalogue) → catalogue_within n cat ≡ true → all table_within cat ≡ true
unfolding catalogue_within
tables_within n cat e = (and_of (at_most 65536 n && at_most 256 (length cat)) (all table_within cat) e).1

-- what was received is within them
catalogue_received : {s c : List ℕ} (h : Received s c) → catalogue_within (length c) h.tables ≡ true
unfolding read_statement read_catalogue statement-layout.decode catalogue-layout.decode
catalogue_received {s} {c} h =
    go (statement_within (length s) h.value) (catalogue_within (length c) h.tables) (names_beyond_ascii h.value)
    (sym (ap₂ (λ (m : Option Statement) (n : Option Catalogue). received (map (sized s) m) (map (sized c) n)) h.holds h.lists) ∙ h.asked)
  where
    go : (w x b : Bool) → ◌≡◌ {A = Outcome (Statement × Catalogue)} (cond (not (w && x)) (refuses 7) (cond b (refuses 8) (answers (h.value, h.tables)))) (answers (h.value, h.tables))
        → x ≡ true
    go w true b e = refl
    go true false b e = absurd (never_answers e)
    go false false b e = absurd (never_answers e)

-- ---- in the catalogue c and the body b of the statement

pub record Stands (c b : List ℕ) (u : Running) : Type 0 where
  pub tables : Catalogue
  pub holds : Holds catalogue c tables
  pub within : all table_within tables ≡ true
  pub change : Update
  pub reads : Holds updating b change
  pub limited : Limited b
  pub resolves : resolve_direct_table tables change.table ≡ given u.table
  pub filters : change.condition ≡ some u.condition
  pub assigns : change.assignments ≡ u.assignments

pub record SomeStands (c b : List ℕ) : Type 0 where
  pub value : Running
  pub is : Stands c b value

module _ {s c b : List ℕ} (h : Received s c) {u : Running} (r : Dispatched h.tables h.value u)
    (body : (v : Statement) → Holds statement s v → KindHolds v.kind b) where
  behind : Behind updating update s b
  behind = record {
    of = λ v k.
        let e : v.kind ≡ update r.change = ap (λ (x : Statement). x.kind) (held_once statement k h.holds) ∙ r.is in
        (r.change, subst (λ (x : Kind). KindHolds x b) e (body v k), e);
  }

  pub stands : Stands c b u
  stands = record {
    tables = h.tables;
    holds = h.lists;
    within = tables_within (length c) h.tables (catalogue_received h);
    change = r.change;
    reads = subst (λ (x : Kind). KindHolds x b) r.is (body h.value h.holds);
    limited = (update_limited (statement_within_lem h.holds h.within) behind).1;
    resolves = r.resolves;
    filters = r.filters;
    assigns = r.assigns;
  }

-- ---- over its table

pub stands_over : {c b : List ℕ} {u : Running} (z : Stands c b u) {t : List ℕ} → TableGiven (resolve_direct_table z.tables z.change.table) t
    → Over t b u
stands_over {c} {b} {u} z {t} g = record {
  holds = subst (λ (x : TableSchema). Holds table t x) (given_same (sym g.gives ∙ z.resolves)) g.holds;
  few = few_columns u.table (resolved_within z.tables z.change.table z.within z.resolves);
  change = z.change;
  reads = z.reads;
  limited = z.limited;
  filters = z.filters;
  assigns = z.assigns;
}
