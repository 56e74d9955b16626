-- What a bound INSERT is made of, step by step as the writers put it: the columns by their names, the values by their literals.
-- Assumes nothing.
use Rattle.std.specs.Prelude.{◌≡◌, refl, Bool, true, false, not, List, [], ◌∷◌, map, eqb, length}
use Rattle.std.proofs.Common.{sym, ap, ◌∙◌, true≢false, arith, eqb-true}
use Rattle.std.proofs.Math.Option.{Option, some}
use Rattle.rules.specs.declared.Class.TheVariants.{SchemaMismatch, ConstraintViolation, UnsupportedSql, InvalidArgument}
use Rattle.rules.specs.Lists.{Text, same, is_empty, any}
use Rattle.rules.specs.Answers.{Answer, given, found, each}
use Rattle.rules.specs.Tables.{TableSchema, Catalogue}
use Rattle.rules.specs.Bound.{Value, BoundColumnRef, BoundInsert, BoundStatement, bound_insert}
use Rattle.rules.specs.Lookup.{bound_table, column_by_name}
use Rattle.rules.specs.Names.{canonical}
use Rattle.rules.specs.Statements.{Name, Expr, SourceBody, values, not_values, Source, Insert}
use Rattle.rules.specs.Analyze.{insert_columns, insert_literal, value_fit, insert_values, insert_row, insert_body, analyze_insert}
use Rattle.rules.proofs.Theorems.Answered.{never_given}
use Rattle.rules.proofs.Theorems.Steps.{step, step_found, step_past, step_fine}
use Rattle.bind_table.specs.Steps.{step_on}
use Rattle.bind_table.specs.Tables.{named_table}
use Rattle.bind_insert_columns.specs.declared.Need.TheVariants as need
use Rattle.bind_insert_columns.specs.Columns.{lacking}
use Rattle.bind_insert_rows.specs.Sources.{given_rows}
use Rattle.bind_insert.specs.Inserts.{insert_rows, insert_into, insert_steps}
use Rattle.write_insert_rows.specs.Listing.{literals, given_once}
use Rattle.write_insert_columns.specs.Refs.{target}

-- ---- the columns by their names

columns_targets : (v : TableSchema) (before : List Text) (ns : List Name) {cs : List BoundColumnRef} → insert_columns v before (map canonical ns) ≡ given cs → each (target v) ns ≡ given cs
unfolding insert_columns each
columns_targets v before [] e = e
columns_targets v before (n ∷ ns) e =
    step_past (any (same (canonical n)) before) ConstraintViolation _ e (λ q h.
    step_found (column_by_name v (canonical n)) SchemaMismatch _ h (λ c p k.
    step (insert_columns v (canonical n ∷ before) (map canonical ns)) _ k (λ l r z.
    step_on _ (ap (λ (o : Option BoundColumnRef). found o SchemaMismatch) p) ∙ step_on _ (columns_targets v (canonical n ∷ before) ns r) ∙ z)))

-- ---- the values by their literals

values_literals : (cs : List BoundColumnRef) (es : List Expr) {vs : List Value} → length es ≡ length cs → insert_values cs es ≡ given vs → literals es ≡ given vs
unfolding insert_values each
values_literals [] [] n e = e
values_literals [] (x ∷ es) n e = absurd (omega arith)
values_literals (c ∷ cs) [] n e = absurd (omega arith)
values_literals (c ∷ cs) (x ∷ es) n e =
    step (insert_literal x) _ e (λ v p h.
    step_fine (value_fit v c) _ h (λ q k.
    step (insert_values cs es) _ k (λ l r z.
    step_on _ p ∙ step_on _ (values_literals cs es (omega arith) r) ∙ z)))

row_literals : (cs : List BoundColumnRef) (es : List Expr) {vs : List Value} → insert_row cs es ≡ given vs → literals es ≡ given vs
unfolding insert_row
row_literals cs es e =
    step_past (not (eqb (length es) (length cs))) ConstraintViolation _ e (λ q h. values_literals cs es (eqb-true (length es) (length cs) (told (eqb (length es) (length cs)) q)) h)
  where
    told : (b : Bool) → not b ≡ false → b ≡ true
    told true q = refl
    told false q = absurd (true≢false q)

each_same : {A B : Type 0} (F G : A → Answer B) → ((x : A) (y : B) → F x ≡ given y → G x ≡ given y) → (l : List A) {m : List B} → each F l ≡ given m → each G l ≡ given m
unfolding each
each_same F G f [] e = e
each_same F G f (x ∷ l) e =
    step (F x) _ e (λ y p h. step (each F l) _ h (λ m q z. step_on _ (f x y p) ∙ step_on _ (each_same F G f l q) ∙ z))

-- VALUES, and its rows
pub record Valued (b : SourceBody) (vss : List (List Value)) : Type 0 where
  pub explicit : Bool
  pub rows : List (List Expr)
  pub is : b ≡ values explicit rows
  pub gives : each literals rows ≡ given vss

body_literals : (cs : List BoundColumnRef) (b : SourceBody) {vss : List (List Value)} → insert_body cs b ≡ given vss → Valued b vss
unfolding insert_body
body_literals cs not_values e = absurd (never_given e)
body_literals cs (values m rows) e =
    step_past m UnsupportedSql _ e (λ q h.
    step_past (is_empty rows) InvalidArgument _ h (λ p k.
    record { explicit = m; rows = rows; is = refl; gives = each_same (insert_row cs) literals (λ es vs h. row_literals cs es h) rows k }))

-- ---- the whole

pub record InsertParts (v : TableSchema) (w : Insert) (b : BoundInsert) : Type 0 where
  pub table : b.table ≡ bound_table v
  pub columns : each (target v) w.columns ≡ given b.target_columns
  pub source : Source
  pub there : w.source ≡ some source
  pub valued : Valued source.body b.rows

-- what was given behind the table is a bound INSERT of these parts
pub record Into (v : TableSchema) (w : Insert) (s : BoundStatement) : Type 0 where
  pub value : BoundInsert
  pub is : s ≡ bound_insert value
  pub parts : InsertParts v w value

pub into_parts : (v : TableSchema) (w : Insert) {s : BoundStatement} → insert_into v w ≡ given s → Into v w s
unfolding insert_into insert_rows given_rows
into_parts v w {s} e =
    step_past (is_empty w.columns) UnsupportedSql _ e (λ q h.
    step (insert_columns v [] (map canonical w.columns)) _ h (λ cs p k.
    step (insert_rows v cs w) _ k (λ rows r z.
    step_past (any (lacking need.Key v w.columns) v.columns) ConstraintViolation _ r (λ f g.
    step_past (any (lacking need.NotNull v w.columns) v.columns) ConstraintViolation _ g (λ a c.
    step_found w.source UnsupportedSql _ c (λ x d y.
    step_past x.clauses UnsupportedSql _ y (λ i j.
    record {
      value = record { table = bound_table v; target_columns = cs; rows = rows };
      is = sym (given_once z);
      parts = record {
        table = refl;
        columns = columns_targets v [] w.columns p;
        source = x;
        there = d;
        valued = body_literals cs x.body j;
      };
    })))))))

-- and so what the analysis gave
pub record Analyzed (cat : Catalogue) (w : Insert) (s : BoundStatement) : Type 0 where
  pub table : TableSchema
  pub named : named_table cat w.name ≡ given table
  pub into : insert_into table w ≡ given s

pub analyzed : (cat : Catalogue) (w : Insert) {s : BoundStatement} → analyze_insert cat w ≡ given s → Analyzed cat w s
analyzed cat w e =
    step_past w.modified UnsupportedSql _ (sym (insert_steps cat w) ∙ e) (λ q h.
    step (named_table cat w.name) _ h (λ t p k. record { table = t; named = p; into = k }))
