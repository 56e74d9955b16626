-- A CREATE TABLE that is bound: what it is made of.
-- Assumes nothing.
use Rattle.std.specs.Prelude.{◌≡◌, refl, List, [], map}
use Rattle.std.proofs.Common.{sym, ap, ◌∙◌}
use Rattle.std.proofs.Math.Option.{Option, none}
use Rattle.bind_repeats.specs.declared.Of.TheVariants as of
use Rattle.std.specs.Prelude.{None}
use Rattle.bind_repeats.specs.Entries.{entry}
use Rattle.bind_repeats.specs.Repeats.{first_repeated}
use Rattle.bind_table.specs.Tables.{new_name}
use Rattle.rules.specs.declared.ColumnId.{ColumnId}
use Rattle.rules.specs.declared.Class.TheVariants.{ConstraintViolation, UnsupportedSql}
use Rattle.rules.specs.Lists.{Text, is_some, is_empty}
use Rattle.rules.specs.Answers.{given, ◌>>=◌}
use Rattle.rules.specs.Names.{canonical, simple_name}
use Rattle.rules.specs.Tables.{ColumnSchema, Catalogue, table_by_name}
use Rattle.rules.specs.Statements.{Name, ObjectName, plain, qualified, CreateTable}
use Rattle.rules.specs.Bound.{BoundStatement}
use Rattle.rules.proofs.Theorems.Answered.{never_given, bind_given}
use Rattle.rules.proofs.Theorems.Steps.{step, step_past}
use Rattle.rules.specs.Analyze.{define_columns, constraints, analyze_create_table}
use Rattle.bind_create.specs.Defined.{definition, key_of, created, key_table, key_joined, define_table, create_steps}
use Rattle.bind_create.specs.Keys.{read_of, read_key, read_joined}
use Rattle.bind_create.specs.Columns.{columns_distinct}

-- what b is made of
pub record CreateGiven (v : CreateTable) (b : BoundStatement) : Type 0 where
  pub name : Name
  pub plainly : v.name ≡ plain name
  pub columns : List ColumnSchema
  pub names : Option (List Text)
  pub reads : read_key v ≡ given (read_of columns names)
  pub ids : List ColumnId
  pub key : key_of columns names ≡ given ids
  pub is : b ≡ created (canonical name) columns ids

-- ---- the name

record Named (o : ObjectName) (t : Text) : Type 0 where
  name : Name
  plainly : o ≡ plain name
  is : t ≡ canonical name

named : (cat : Catalogue) (o : ObjectName) {t : Text} → new_name cat o ≡ given t → Named o t
unfolding simple_name
named cat qualified e = absurd (never_given e)
named cat (plain n) {t} e =
    step_past (is_some (table_by_name cat (canonical n))) ConstraintViolation (given (canonical n)) e (λ p h. record { name = n; plainly = refl; is = cc })

-- ---- behind it

module _ (v : CreateTable) (t : Text) {b : BoundStatement} {C : Type 0} where
  defined : define_table v t ≡ given b
      → ((cs : List ColumnSchema) (names : Option (List Text)) (ids : List ColumnId) → read_key v ≡ given (read_of cs names) → key_of cs names ≡ given ids → b ≡ created t cs ids → C) → C
  defined e next =
      step_past (is_empty v.columns) ConstraintViolation _ e (λ p y.
      step (read_key v) (λ q. key_table t q.0 q.1) (sym (read_joined v (key_table t)) ∙ y) (λ q r k.
      step (key_of q.0 q.1) (λ ids. given (created t q.0 ids)) (sym (key_joined t q.0 q.1) ∙ k) (λ ids i j.
      next q.0 q.1 ids r i cc)))

pub create_given : (cat : Catalogue) (v : CreateTable) {b : BoundStatement} → analyze_create_table cat v ≡ given b → CreateGiven v b
create_given cat v {b} e =
    step_past v.if_not_exists UnsupportedSql _ (sym (create_steps cat v) ∙ e) (λ p₁ e₁.
    step_past v.as_query UnsupportedSql _ e₁ (λ p₂ e₂.
    step_past v.other_feature UnsupportedSql _ e₂ (λ p₃ e₃.
    step (new_name cat v.name) (define_table v) e₃ (λ t n d.
    defined v t d (λ cs names ids r k i.
    let o = named cat v.name n in
    record {
      name = o.name;
      plainly = o.plainly;
      columns = cs;
      names = names;
      reads = r;
      ids = ids;
      key = k;
      is = i ∙ ap (λ (x : Text). created x cs ids) o.is;
    })))))

-- the names of its columns are distinct
pub read_distinct : (v : CreateTable) {cs : List ColumnSchema} {names : Option (List Text)} → read_key v ≡ given (read_of cs names)
    → first_repeated (map (entry of.Columns) v.columns) ≡ None
read_distinct v {cs} {names} e =
    let a = bind_given (define_columns (definition [] none) v.columns) (λ d. constraints d.key v.constraints >>= (λ names. given (read_of d.columns names))) (read_of cs names) e in
    columns_distinct v.columns a.1
