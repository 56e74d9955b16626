-- What a CREATE TABLE is bound to: its names are UTF-8 where the statement's are, and its ids count its columns.
-- Assumes nothing.
use Rattle.std.specs.Prelude.{◌≡◌, refl, true, ◌&&◌, List, [], ◌∷◌, ◌++◌, map, ℕ, ◌+◌, ◌<◌, length}
use Rattle.std.proofs.Common.{subst, arith, length-append}
use Rattle.std.proofs.Math.Option.{none}
use Rattle.std.proofs.lemmas.List.{length-map}
use Rattle.bytes_utf8.specs.Decide.{is_utf8}
use Rattle.bytes_format.specs.Format.{Every}
use Rattle.image_parts.specs.Layout as statement
use Rattle.rules.specs.declared.ColumnId.{ColumnId}
use Rattle.rules.specs.declared.Class.TheVariants.{SchemaMismatch, ConstraintViolation, UnsupportedSql}
use Rattle.rules.specs.Lists.{Text, is_some, is_empty, any, find}
use Rattle.rules.specs.Answers.{given}
use Rattle.rules.specs.Tables.{ColumnSchema, Catalogue, same_id, column_named, table_by_name}
use Rattle.rules.specs.Statements.{ObjectName, plain, qualified, ColumnDefinition, CreateTable}
use Rattle.rules.specs.Bound.{BoundStatement}
use Rattle.rules.specs.Names.{canonical, simple_name}
use Rattle.rules.specs.Analyze.{Definition, no_options, options, said_null, register_inline, data_type, column_of, define_column, define_columns, constraints, key_ids, outside_null, analyze_create_table}
use Rattle.rules.proofs.Theorems.Answered.{never_given}
use Rattle.rules.proofs.Theorems.Steps.{step, step_found, step_past}
use Rattle.proved_readback.proofs.Bindings.{given_same, find_every, ColumnFine}
use Rattle.proved_readback.specs.Folding.{canonical_utf8}
use Rattle.proved_readback.proofs.StatementKinds.{IdFine, BoundSane}
use Rattle.proved_readback.proofs.Changes.{every_append}

-- ---- the name

name_utf8 : (o : ObjectName) {s : Text} → (statement.object_name).Ok o → simple_name o ≡ given s → is_utf8 s ≡ true
unfolding simple_name statement.object_name
name_utf8 (plain n) h e = subst (λ (s : Text). is_utf8 s ≡ true) (given_same e) (canonical_utf8 n h)
name_utf8 qualified h e = absurd (never_given e)

-- ---- the columns

-- n columns, each of which has an image
record Defined (n : ℕ) (d : Definition) : Type 0 where
  many : length d.columns ≡ n
  columns : Every ColumnFine d.columns

column_defined : (d : Definition) (c : ColumnDefinition) (name : Text) {n : ℕ} {e : Definition} → n < 65536 → is_utf8 name ≡ true → Defined n d
    → define_column d c name ≡ given e → Defined (n + 1) e
unfolding define_column
column_defined d c name {n} l u h e =
    step_past c.collation UnsupportedSql _ e (λ p₁ e₁.
    step_past (any (column_named name) d.columns) ConstraintViolation _ e₁ (λ p₂ e₂.
    step (options no_options c.options) _ e₂ (λ o p₃ e₃.
    step_past (o.key && said_null o.nullability) ConstraintViolation _ e₃ (λ p₄ e₄.
    step (register_inline o.key d.key name) _ e₄ (λ key p₅ e₅.
    step (data_type c.ty) _ e₅ (λ t p₆ e₆.
    subst (Defined (n + 1)) (given_same e₆)
    (record {
      many = omega (arith, length-append d.columns (column_of d name o t ∷ []), h.many);
      columns = every_append ColumnFine d.columns (column_of d name o t ∷ []) h.columns ((omega (arith, h.many), u), tt);
    })))))))

columns_defined : (d : Definition) (cs : List ColumnDefinition) {n : ℕ} {e : Definition} → n + length cs < 65536 → Every (statement.column_definition).Ok cs
    → Defined n d → define_columns d cs ≡ given e → Defined (n + length cs) e
unfolding define_columns statement.column_definition
columns_defined d [] {n} {e} l k h q = let z : n ≡ n + 0 = omega arith in subst (λ (m : ℕ). Defined m e) z (subst (Defined n) (given_same q) h)
columns_defined d (c ∷ cs) {n} {e} l k h q =
    let z : n + 1 + length cs ≡ n + length (c ∷ cs) = omega arith in
    step (define_column d c (canonical c.name)) _ q (λ f p r.
    subst (λ (m : ℕ). Defined m e) z
    (columns_defined f cs (omega arith) k.1
    (column_defined d c (canonical c.name) (omega arith) (canonical_utf8 c.name k.0.2.1.0) h p) r))

-- ---- the key, whose columns are among them

key_fine : (cs : List ColumnSchema) → Every ColumnFine cs → (before : List ColumnId) → Every IdFine before → (names : List Text) {ids : List ColumnId}
    → key_ids cs before names ≡ given ids → Every IdFine ids
unfolding key_ids
key_fine cs h before k [] e = subst (Every IdFine) (given_same e) k
key_fine cs h before k (name ∷ names) e =
    step_found (find (column_named name) cs) SchemaMismatch _ e (λ c f e₁.
    step_past (any (same_id c.id) before) ConstraintViolation _ e₁ (λ p e₂.
    key_fine cs h (before ++ (c.id ∷ [])) (every_append IdFine before (c.id ∷ []) k ((find_every ColumnFine (column_named name) cs h f).0, tt)) names e₂))

nulls_fine : (ids : List ColumnId) (cs : List ColumnSchema) → Every ColumnFine cs → Every ColumnFine (map (outside_null ids) cs)
nulls_fine ids [] h = tt
nulls_fine ids (c ∷ cs) h = (h.0, nulls_fine ids cs h.1)

-- ---- the whole

pub create_sane : (cat : Catalogue) (c : CreateTable) {b : BoundStatement} → (statement.create).Ok c → analyze_create_table cat c ≡ given b → BoundSane b
unfolding analyze_create_table statement.create
create_sane cat c k e =
    step_past c.if_not_exists UnsupportedSql _ e (λ p₁ e₁.
    step_past c.as_query UnsupportedSql _ e₁ (λ p₂ e₂.
    step_past c.other_feature UnsupportedSql _ e₂ (λ p₃ e₃.
    step (simple_name c.name) _ e₃ (λ name p₄ e₄.
    step_past (is_some (table_by_name cat name)) ConstraintViolation _ e₄ (λ p₅ e₅.
    step_past (is_empty c.columns) ConstraintViolation _ e₅ (λ p₆ e₆.
    step (define_columns (record { columns = []; key = none }) c.columns) _ e₆ (λ d p₇ e₇.
    step (constraints d.key c.constraints) _ e₇ (λ key p₈ e₈.
    step_found key ConstraintViolation _ e₈ (λ names p₉ e₉.
    step (key_ids d.columns [] names) _ e₉ (λ ids q r.
    let l : length c.columns < 65536 = rw (length-map c.columns (statement.column_definition).write) at k.2.1.1.0.0 in
    let h = columns_defined (record { columns = []; key = none }) c.columns {n = 0} (omega arith) k.2.1.1.0.2 (record { many = refl; columns = tt }) p₇ in
    subst BoundSane (given_same r)
    (record {
      name = name_utf8 c.name k.2.1.0 p₄;
      columns = nulls_fine ids d.columns h.columns;
      key = key_fine d.columns h.columns [] tt names q;
    })))))))))))
