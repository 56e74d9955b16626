-- What an UPDATE, a DELETE, a SELECT and an INSERT are bound to: every number fits its field and every text is UTF-8, where the catalogue and the
-- statement have images.
-- Assumes nothing.
use Rattle.std.specs.Prelude.{◌≡◌, refl, Bool, false, ℤ}
use Rattle.std.proofs.Common.{sym}
use Rattle.std.proofs.Math.Path.{subst}
use mathlib.Core.List.{List, [], ◌∷◌, ◌++◌}
use Rattle.std.proofs.Math.Option.{Option, none, some}
use Rattle.tree.specs.Tree.{leaf, un, bin}
use Rattle.bytes_format.specs.Format.{Every}
use Rattle.bytes_format.proofs.Formats.{list_of}
use Rattle.bytes_format.specs.Nodes.{Label.leaf_label}
use Rattle.bytes_format.specs.Ways.{OptionalOk}
use Rattle.image_value.specs.Parts.{value}
use Rattle.image_catalogue.specs.Layout as catalogue
use Rattle.image_expression.specs.Expression.{expression}
use Rattle.image_parts.specs.Layout as statement
use Rattle.image_bound.specs.Columns.{bound_column_ref}
use Rattle.bind_where.specs.Filters.{filter_given}
use Rattle.bind_update.specs.Targets.{column_named_lem}
use Rattle.write_update.specs.Given.{AllGiven, assignments_given, table_given, update_given}
use Rattle.bind_delete.specs.Deletes.{deleted_table}
use Rattle.write_delete.specs.Writes.{delete_given}
use Rattle.write_insert_columns.specs.Refs.{target}
use Rattle.write_insert_rows.specs.Listing.{literals}
use Rattle.write_insert.specs.Parts.{analyzed, into_parts}
use Rattle.rules.specs.declared.Class.TheVariants.{SchemaMismatch, UnsupportedSql}
use Rattle.rules.specs.Lists.{Text}
use Rattle.rules.specs.Answers.{Answer, given, each}
use Rattle.rules.specs.Tables.{TableSchema, Catalogue, table_by_name}
use Rattle.rules.specs.Statements.{Leaf, Expr, values, Source, Insert, Item, star, column, other_item, Select, QueryBody, plain_select, not_plain, Query, Assignment, Update, Delete}
use Rattle.rules.specs.Bound.{Value, BoundColumnRef, BoundExpr, BoundAssignment, BoundStatement}
use Rattle.rules.specs.Names.{canonical, simple_name}
use Rattle.rules.specs.Numbers.{integer_literal}
use Rattle.rules.specs.Lookup.{column_by_name}
use Rattle.rules.specs.Marking.{signed_number}
use Rattle.rules.specs.Fits.{bind_boolean_filter}
use Rattle.rules.specs.Analyze.{integer, insert_leaf, insert_signed, insert_literal, one_table, resolve_direct_table, item, projection, filter_if_there, plain_body, delete_from, analyze_insert, analyze_select, analyze_update, analyze_delete}
use Rattle.rules.proofs.Theorems.Answered.{never_given}
use Rattle.rules.proofs.Theorems.Steps.{step, step_found, step_past}
use Rattle.proved_readback.specs.Values.{node_labels, short}
use Rattle.proved_readback.proofs.Fitting.{IfThere}
use Rattle.proved_readback.proofs.Bindings.{given_same, found_some, TableFine, found_fine, resolved_fine, table_ref_ok, named_ok, columns_ok, integer_ok, text_ok, bool_ok, null_ok, Sane, bound_sane}
use Rattle.proved_readback.proofs.StatementKinds.{AssignmentSane, BoundSane}

-- ---- conditions

module _ (t : TableSchema) (h : TableFine t) where
  filter_sane : (e : Expr) → expression.Ok e → {x : BoundExpr} → bind_boolean_filter t e ≡ given x → Sane x
  filter_sane e k b = bound_sane t h e (short e k).held (filter_given t e b)

  if_there_sane : (o : Option Expr) → (statement.condition).Ok o → {x : Option BoundExpr} → filter_if_there t o ≡ given x → IfThere Sane x
  if_there_sane none k e = subst (IfThere Sane) (given_same e) tt
  if_there_sane (some y) k e = step (bind_boolean_filter t y) _ e (λ z b q. subst (IfThere Sane) (given_same q) (filter_sane y k b))

condition_ok : (o : Option Expr) {e : Expr} → o ≡ some e → (statement.condition).Ok o → expression.Ok e
condition_ok o {e} q k = subst (statement.condition).Ok q k

-- ---- UPDATE

assignments_sane : (t : TableSchema) → TableFine t → (xs : List Assignment) (bs : List BoundAssignment) → AllGiven t xs bs
    → Every (statement.assignment).Ok xs → Every AssignmentSane bs
unfolding statement.assignment
assignments_sane t h [] [] g k = tt
assignments_sane t h [] (b ∷ bs) g k = absurd g
assignments_sane t h (x ∷ xs) [] g k = absurd g
assignments_sane t h (x ∷ xs) (b ∷ bs) g k =
    let n = column_named_lem t x.target g.0.target in (
      record { column = named_ok t h n.0 n.2; value = bound_sane t h x.value (short x.value k.0.2.1.0).held g.0.value },
      assignments_sane t h xs bs g.1 k.1,
    )

module _ (cat : Catalogue) (i : catalogue.HasImage cat) {b : BoundStatement} where
  pub update_sane : (u : Update) → (statement.updating).Ok u → analyze_update cat u ≡ given b → BoundSane b
  unfolding statement.updating
  update_sane u k e =
      let g = update_given cat u e in
      let m = table_given g.schema u.assignments g.condition g.updates in
      let h = resolved_fine cat i u.table g.resolved in
      subst BoundSane m.is
      (record {
        table = table_ref_ok g.schema h;
        assignments =
            assignments_sane g.schema h u.assignments m.assigned (assignments_given g.schema [] u.assignments m.assigns) k.2.1.1.0.2;
        filter = filter_sane g.schema h g.condition (condition_ok u.condition g.conditioned k.2.1.1.1.0) m.filters;
      })

-- ---- DELETE

deleted_fine : (cat : Catalogue) → catalogue.HasImage cat → (d : Delete) {t : TableSchema} → deleted_table cat d ≡ given t → TableFine t
unfolding deleted_table
deleted_fine cat i d e =
    step_past d.tables UnsupportedSql _ e (λ p₁ e₁.
    step_past d.using_clause UnsupportedSql _ e₁ (λ p₂ e₂.
    step_past d.returning UnsupportedSql _ e₂ (λ p₃ e₃.
    step_past d.order_by UnsupportedSql _ e₃ (λ p₄ e₄.
    step_past d.limit UnsupportedSql _ e₄ (λ p₅ e₅.
    step (delete_from d.from) _ e₅ (λ w f r. resolved_fine cat i w r))))))

module _ (cat : Catalogue) (i : catalogue.HasImage cat) {b : BoundStatement} where
  pub delete_sane : (d : Delete) → (statement.deletion).Ok d → analyze_delete cat d ≡ given b → BoundSane b
  unfolding statement.deletion
  delete_sane d k e =
      let g = delete_given cat d b e in
      let h = deleted_fine cat i d g.found in
      subst BoundSane g.is
      (record {
        table = table_ref_ok g.schema h;
        filter = filter_sane g.schema h g.tree (condition_ok d.condition g.there k.2.1.1.0) g.bound;
      })

-- ---- SELECT

pub every_append : {A : Type 0} (P : A → Type 0) (l m : List A) → Every P l → Every P m → Every P (l ++ m)
every_append P [] m h k = k
every_append P (a ∷ l) m h k = (h.0, every_append P l m h.1 k)

module _ (t : TableSchema) (h : TableFine t) where
  item_sane : (x : Item) {cs : List BoundColumnRef} → item t x ≡ given cs → Every bound_column_ref.Ok cs
  unfolding item
  item_sane star e = subst (Every bound_column_ref.Ok) (given_same e) (columns_ok t h)
  item_sane (column n) e =
      step_found (column_by_name t (canonical n)) SchemaMismatch _ e (λ c f q.
      subst (Every bound_column_ref.Ok) (given_same q) (named_ok t h (canonical n) f, tt))
  item_sane other_item e = absurd (never_given e)

  projection_sane : (xs : List Item) {cs : List BoundColumnRef} → projection t xs ≡ given cs → Every bound_column_ref.Ok cs
  unfolding projection
  projection_sane [] e = subst (Every bound_column_ref.Ok) (given_same e) tt
  projection_sane (x ∷ xs) e =
      step (item t x) _ e (λ cs p q.
      step (projection t xs) _ q (λ ds r z.
      subst (Every bound_column_ref.Ok) (given_same z) (every_append bound_column_ref.Ok cs ds (item_sane x p) (projection_sane xs r))))

body_ok : (q : QueryBody) {s : Select} → plain_body q ≡ given s → (statement.query_body).Ok q → (statement.select).Ok s
unfolding statement.query_body
body_ok (plain_select s) e k = subst (statement.select).Ok (given_same e) k
body_ok not_plain e k = absurd (never_given e)

select_condition : (s : Select) → (statement.select).Ok s → (statement.condition).Ok s.condition
unfolding statement.select
select_condition s k = k.2.1.1.1.0

module _ (cat : Catalogue) (i : catalogue.HasImage cat) {b : BoundStatement} where
  pub select_sane : (q : Query) → (statement.selection).Ok q → analyze_select cat q ≡ given b → BoundSane b
  unfolding statement.selection analyze_select
  select_sane q k e =
      step_past q.clauses UnsupportedSql _ e (λ p₁ e₁.
      step (plain_body q.body) _ e₁ (λ s p₂ e₂.
      step_past s.features UnsupportedSql _ e₂ (λ p₃ e₃.
      step (one_table s.from) _ e₃ (λ w p₄ e₄.
      step (resolve_direct_table cat w) _ e₄ (λ t p₅ e₅.
      step (projection t s.items) _ e₅ (λ cs p₆ e₆.
      step (filter_if_there t s.condition) _ e₆ (λ x p₇ e₇.
      let h = resolved_fine cat i w p₅ in
      subst BoundSane (given_same e₇)
      (record {
        table = table_ref_ok t h;
        columns = projection_sane t h s.items p₆;
        filter = if_there_sane t h s.condition (select_condition s (body_ok q.body p₂ k.1)) p₇;
      }))))))))

-- ---- INSERT

integer_sane : (negative : Bool) (s : Text) {v : Value} → integer (integer_literal negative s) ≡ given v → value.Ok v
integer_sane negative s {v} e = go (integer_literal negative s) refl e
  where
    go : (o : Option ℤ) → integer_literal negative s ≡ o → integer o ≡ given v → value.Ok v
    go none p q = absurd (never_given q)
    go (some z) p q = subst value.Ok (given_same q) (integer_ok negative s p)

insert_leaf_sane : (l : Leaf) → node_labels.form.Ok (leaf_label l) → {v : Value} → insert_leaf l ≡ given v → value.Ok v
unfolding insert_leaf
insert_leaf_sane (Leaf.name n) k e = absurd (never_given e)
insert_leaf_sane (Leaf.number s) k e = integer_sane false s e
insert_leaf_sane (Leaf.string s) k e = subst value.Ok (given_same e) (text_ok s k)
insert_leaf_sane (Leaf.boolean b) k e = subst value.Ok (given_same e) (bool_ok b)
insert_leaf_sane Leaf.null k e = subst value.Ok (given_same e) null_ok
insert_leaf_sane Leaf.other_literal k e = absurd (never_given e)
insert_leaf_sane Leaf.other_expression k e = absurd (never_given e)

literal_sane : (x : Expr) → expression.Ok x → (v : Value) → insert_literal x ≡ given v → value.Ok v
unfolding insert_literal
literal_sane (leaf l) k v e = insert_leaf_sane l (short (leaf l) k).held e
literal_sane (un o a) k v e = go (signed_number o a) e
  where
    go : (s : Option (Bool × Text)) → insert_signed s ≡ given v → value.Ok v
    go none q = absurd (never_given q)
    go (some p) q = integer_sane p.0 p.1 q
literal_sane (bin o a c) k v e = absurd (never_given e)

each_given : {A B : Type 0} (P : A → Type 0) (Q : B → Type 0) (f : A → Answer B) → ((a : A) → P a → (b : B) → f a ≡ given b → Q b)
    → (l : List A) → Every P l → (m : List B) → each f l ≡ given m → Every Q m
unfolding each
each_given P Q f k [] h m e = subst (Every Q) (given_same e) tt
each_given P Q f k (a ∷ l) h m e =
    step (f a) _ e (λ b p q.
    step (each f l) _ q (λ n r z.
    subst (Every Q) (given_same z) (k a h.0 b p, each_given P Q f k l h.1 n r)))

every_unit : {A : Type 0} (l : List A) → Every (λ a. Unit {0}) l
every_unit [] = tt
every_unit (a ∷ l) = (tt, every_unit l)

rows_ok : (s : Source) {m : Bool} {rows : List (List Expr)} → s.body ≡ values m rows → (statement.source).Ok s → Every (λ es. Every expression.Ok es) rows
unfolding statement.source statement.source_body
rows_ok s {m} {rows} e k = lists rows (subst (statement.source_body).Ok e k.1).1.2
  where
    lists : (l : List (List Expr)) → Every (list_of 2 expression).Ok l → Every (λ es. Every expression.Ok es) l
    lists [] h = tt
    lists (es ∷ l) h = (h.0.2, lists l h.1)

source_ok : (w : Insert) {s : Source} → w.source ≡ some s → (statement.insertion).Ok w → (statement.source).Ok s
unfolding statement.insertion
source_ok w {s} e k = subst (OptionalOk statement.source) e k.2.1.1.1.0

module _ (cat : Catalogue) (i : catalogue.HasImage cat) {b : BoundStatement} where
  pub insert_sane : (w : Insert) → (statement.insertion).Ok w → analyze_insert cat w ≡ given b → BoundSane b
  insert_sane w k e =
      let a = analyzed cat w e in
      let t = a.table in
      let y = into_parts t w a.into in
      let h : TableFine t = step (simple_name w.name) _ a.named (λ s n f. found_fine cat i s (found_some SchemaMismatch (table_by_name cat s) f)) in
      let p = y.parts in
      subst BoundSane (sym y.is)
      (record {
        table = rw p.table (table_ref_ok t h);
        columns =
            each_given (λ n. Unit {0}) bound_column_ref.Ok (target t) (λ n u c q. named_ok t h (canonical n) (found_some SchemaMismatch (column_by_name t (canonical n)) q))
            w.columns (every_unit w.columns) y.value.target_columns p.columns;
        rows =
            each_given (λ es. Every expression.Ok es) (Every value.Ok) literals
            (λ es o vs q. each_given expression.Ok value.Ok insert_literal literal_sane es o vs q)
            p.valued.rows (rows_ok p.source p.valued.is (source_ok w p.there k)) y.value.rows p.valued.gives;
      })
