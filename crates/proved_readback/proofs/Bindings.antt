-- What a bound statement says of its table, of its columns and of its expressions: every number fits its field and every text is UTF-8, where the
-- catalogue and the statement have images.
-- Assumes nothing.
use Rattle.std.specs.Prelude.{◌≡◌, Bool, true, cond, ℕ, suc, ◌+◌, ◌^◌, ◌<◌, ℤ, neg_ℤ, length}
use Rattle.std.proofs.Math.Path.{refl, subst}
use Rattle.std.proofs.Common.{sym, ltb-true}
use Rattle.std.proofs.Math.Bool.{false}
use mathlib.Core.List.{List, [], ◌∷◌}
use Rattle.std.proofs.Math.Option.{Option, none, some, some-injective}
use native.Mathlib.Omega.{arith}
use Rattle.std.proofs.lemmas.List.{length-map}
use Rattle.tree.specs.Tree.{leaf, un, bin, size}
use Rattle.bytes_utf8.specs.Decide.{is_utf8}
use Rattle.bytes_format.specs.Format.{Every}
use Rattle.bytes_format.specs.Nodes as N
use Rattle.bytes_format.specs.Nodes.{Label, Label.leaf_label, Labels}
use Rattle.bytes_format.proofs.Run.{labels_with}
use Rattle.image_value.specs.Parts.{value, column_schema, operator_codes}
use Rattle.image_catalogue.specs.Layout as catalogue
use Rattle.image_bound.specs.Columns.{bound_table_ref, bound_column_ref}
use Rattle.image_bound.specs.Expression.{bound_expression, marks, leaf_codes, unary_codes, to_pairs}
use Rattle.image_bound.specs.Runs.{content_length, run_length}
use Rattle.rules.specs.declared.Mark.{Mark}
use Rattle.rules.specs.declared.Class.{Class}
use Rattle.rules.specs.declared.Class.TheVariants.{SchemaMismatch, UnsupportedSql}
use Rattle.rules.specs.declared.BoundBinaryOperator.{BoundBinaryOperator}
use Rattle.rules.specs.Lists.{Text, find}
use Rattle.rules.specs.Answers.{given, found, ◌>>=◌, Verdict, fine, flaw, judged}
use Rattle.rules.specs.Tables.{ColumnSchema, TableSchema, Catalogue, table_named, table_by_name}
use Rattle.rules.specs.Statements.{Leaf, Unary, parentheses, null_test, unary, other_unary, Binary, binary, other_binary, Expr, TableWithJoins}
use Rattle.rules.specs.Bound.{Value, BoundColumnRef, Marked, BoundLeaf, BoundUnary, BoundExpr, mark_of}
use Rattle.rules.specs.Names.{canonical}
use Rattle.rules.specs.Numbers.{in_range, number_text, ranged, integer_literal}
use Rattle.rules.specs.Lookup.{bound_table, bound_column, bound_columns_from, bound_columns, column_by_name}
use Rattle.rules.specs.Marking.{
  column_leaf,
  integer_leaf,
  leaf_rule,
  signed_number,
  unary_rule,
  binary_rule,
  or_signed,
  bound_leaf,
  bound_unary,
  bound_binary,
  bind_expression,
}
use Rattle.rules.specs.Analyze.{relation_name, resolve_direct_table}
use Rattle.rules.proofs.Theorems.Answered.{bind_given, never_fine, never_given, never_some}
use Rattle.rules.proofs.Theorems.Steps.{step, step_past}
use Rattle.rules.proofs.Theorems.Values.{StandsAt, here, behind, column_of_lem}
use Rattle.proved_readback.specs.Values.{node_labels}
use Rattle.proved_readback.specs.Lengths.{limit, Fits}

pub given_same : {A : Type 0} {a b : A} → given a ≡ given b → a ≡ b
given_same h = cc

fine_same : {A : Type 0} {a b : A} → fine a ≡ fine b → a ≡ b
fine_same h = cc

pub found_some : {A : Type 0} (k : Class) (o : Option A) {a : A} → found o k ≡ given a → o ≡ some a
found_some k none h = absurd (never_given h)
found_some k (some b) h = cc

-- ---- a table of the catalogue

-- a column's id fits its field, and its name is UTF-8
abbrev pub ColumnFine : ColumnSchema → Type 0
ColumnFine c = (c.id.0 < 256 ^ 8) × (is_utf8 c.name ≡ true)

pub record TableFine (t : TableSchema) : Type 0 where
  pub id : t.id.0 < 256 ^ 8
  pub version : t.version < 256 ^ 8
  pub name : is_utf8 t.name ≡ true
  pub few : length t.columns < 65536
  pub columns : Every ColumnFine t.columns

columns_fine : (l : List ColumnSchema) → Every (column_schema 2).Ok l → Every ColumnFine l
unfolding column_schema
columns_fine [] h = tt
columns_fine (c ∷ l) h = ((h.0.2.0.0, h.0.2.1.0), columns_fine l h.1)

table_fine : (t : TableSchema) → (catalogue.table).Ok t → TableFine t
unfolding catalogue.table
table_fine t h = record {
  id = h.2.0.0;
  version = h.2.0.1.0;
  name = h.2.1.0;
  few = rw (length-map t.columns (column_schema 2).write) at h.2.1.1.0.0;
  columns = columns_fine t.columns h.2.1.1.0.2;
}

-- what holds of all holds of the one that is found
pub find_every : {A : Type 0} (P : A → Type 0) (p : A → Bool) (l : List A) {y : A} → Every P l → find p l ≡ some y → P y
find_every P p [] {y} h e = absurd (never_some e)
find_every {A} P p (x ∷ l) {y} h e = go (p x) (find_every P p l h.1) e
  where
    go : (b : Bool) → (find p l ≡ some y → P y) → elim b [ true ↦ some x | false ↦ find p l ] ≡ some y → P y
    go true below q = subst P (some-injective x y q) h.0
    go false below q = below q

module _ (cat : Catalogue) (i : catalogue.HasImage cat) {t : TableSchema} where
  pub found_fine : (s : Text) → table_by_name cat s ≡ some t → TableFine t
  unfolding table_by_name catalogue.HasImage catalogue.catalogue
  found_fine s e = table_fine t (find_every (catalogue.table).Ok (table_named s) cat i.0.2 e)

  pub resolved_fine : (w : TableWithJoins) → resolve_direct_table cat w ≡ given t → TableFine t
  unfolding resolve_direct_table
  resolved_fine w h =
      step_past w.joins UnsupportedSql _ h (λ j k.
      step (relation_name w.relation) _ k (λ s n e. found_fine s (found_some SchemaMismatch (table_by_name cat s) e)))

-- ---- what is said of it

stands_every : (P : ColumnSchema → Type 0) {c : ColumnSchema} {n : ℕ} {cs : List ColumnSchema} → StandsAt c n cs → Every P cs → P c
stands_every P here h = h.0
stands_every P (behind s) h = stands_every P s h.1

stands_below : {c : ColumnSchema} {n : ℕ} {cs : List ColumnSchema} → StandsAt c n cs → n < length cs
stands_below here = omega arith
stands_below (behind s) = omega (arith, stands_below s)

module _ (t : TableSchema) (h : TableFine t) where
  pub table_ref_ok : bound_table_ref.Ok (bound_table t)
  unfolding bound_table_ref bound_table
  table_ref_ok = ((h.id, h.version), h.name)

  column_ref_ok : (n : ℕ) (c : ColumnSchema) → n < 65536 → ColumnFine c → bound_column_ref.Ok (bound_column t n c)
  unfolding bound_column_ref bound_column
  column_ref_ok n c l k = ((h.id, (k.0, (omega arith, (tt, tt)))), k.1)

  pub named_ok : (name : Text) {c : BoundColumnRef} → column_by_name t name ≡ some c → bound_column_ref.Ok c
  named_ok name e =
      let w = column_of_lem name e in
      rw w.bound
      (column_ref_ok w.position w.column (omega (arith, stands_below w.stands, h.few)) (stands_every ColumnFine w.stands h.columns))

  from_ok : (n : ℕ) (cs : List ColumnSchema) → n + length cs < 65536 → Every ColumnFine cs → Every bound_column_ref.Ok (bound_columns_from t n cs)
  unfolding bound_columns_from
  from_ok n [] l k = tt
  from_ok n (c ∷ cs) l k = (column_ref_ok n c (omega arith) k.0, from_ok (suc n) cs (omega arith) k.1)

  pub columns_ok : Every bound_column_ref.Ok (bound_columns t)
  unfolding bound_columns
  columns_ok = from_ok 0 t.columns (omega (arith, h.few)) h.columns

-- ---- literals

ranged_fits : (z : ℤ) {y : ℤ} → ranged z ≡ some y → in_range y ≡ true
ranged_fits z {y} = go (in_range z) refl
  where
    go : (b : Bool) → in_range z ≡ b → cond b (some z) none ≡ some y → in_range y ≡ true
    go true e h = cc
    go false e h = absurd (never_some h)

pub integer_ok : (negative : Bool) (s : Text) {z : ℤ} → integer_literal negative s ≡ some z → value.Ok (Value.int z)
unfolding integer_literal value
integer_ok negative s {z} h = ltb-true _ _ (go (number_text s) h)
  where
    go : (o : Option ℤ) → elim o as (λ x. Option ℤ) [ none ↦ none | some y ↦ ranged (cond negative (neg_ℤ y) y) ] ≡ some z → in_range z ≡ true
    go none q = absurd (never_some q)
    go (some y) q = ranged_fits (cond negative (neg_ℤ y) y) q

pub text_ok : (s : Text) → is_utf8 s ≡ true → value.Ok (Value.text s)
unfolding value
text_ok s h = h

pub bool_ok : (b : Bool) → value.Ok (Value.bool b)
unfolding value
bool_ok b = tt

pub null_ok : value.Ok Value.null
unfolding value
null_ok = tt

-- ---- expressions

abbrev LeafSane : BoundLeaf → Type 0
LeafSane (BoundLeaf.column c) = bound_column_ref.Ok c
LeafSane (BoundLeaf.literal v) = value.Ok v

-- every column and every literal has an image
unfoldable pub Sane : BoundExpr → Type 0
Sane (leaf l) = LeafSane l.kind
Sane (un o a) = Sane a
Sane (bin o a b) = Sane a × Sane b

abbrev bound_labels : Labels (Label (Mark × BoundLeaf) (Mark × BoundUnary) (Mark × BoundBinaryOperator))
bound_labels = labels_with leaf_codes unary_codes operator_codes marks refl

leaf_label_lem : (m : Mark) (k : BoundLeaf) → LeafSane k → bound_labels.form.Ok (leaf_label (m, k))
leaf_label_lem m (BoundLeaf.column c) h = ((tt, tt), h)
leaf_label_lem m (BoundLeaf.literal v) h = ((tt, tt), h)

sane_labels : (e : BoundExpr) → Sane e → N.Holds bound_labels.form.Ok (to_pairs e)
unfolding Sane
sane_labels (leaf l) h = leaf_label_lem l.mark l.kind h
sane_labels (un o a) h = (sane_labels a h, ((tt, tt), tt))
sane_labels (bin o a b) h = (sane_labels a h.0, (sane_labels b h.1, ((tt, tt), tt)))

size_is : (e : BoundExpr) → size (to_pairs e) ≡ size e
unfolding size
size_is (leaf l) = refl
size_is (un o a) = omega (arith, size_is a)
size_is (bin o a b) = omega (arith, size_is a, size_is b)

leaf_content : (m : Mark) (k : BoundLeaf) → N.content_size 4 bound_labels (leaf (m, k)) ≡ content_length (leaf (record { kind = k; mark = m }))
unfolding content_length
leaf_content m (BoundLeaf.column c) = omega arith
leaf_content m (BoundLeaf.literal v) = omega arith

content_is : (e : BoundExpr) → N.content_size 4 bound_labels (to_pairs e) ≡ content_length e
unfolding content_length
content_is (leaf l) = leaf_content l.mark l.kind
content_is (un o a) = omega (arith, content_is a)
content_is (bin o a b) = omega (arith, content_is a, content_is b)

run_ok : (e : BoundExpr) → size e < limit → content_length e < limit → Sane e → bound_expression.Ok e
unfolding bound_expression
run_ok e n c q = (omega (arith, size_is e), omega (arith, content_is e), sane_labels e q)

pub expression_fits : Fits bound_expression Sane
expression_fits e q h = run_ok e (omega (arith, run_length e)) (omega (arith, run_length e)) q

-- ---- what an expression is bound to

judged_leaf : (u : Verdict (Marked BoundLeaf)) → ((l : Marked BoundLeaf) → u ≡ fine l → LeafSane l.kind) → {b : BoundExpr} → (judged u >>= bound_leaf) ≡ given b → Sane b
unfolding Sane
judged_leaf (fine l) f e = subst Sane (given_same e) (f l refl)
judged_leaf (flaw k) f e = absurd (never_given e)

number_sane : (negative : Bool) (s : Text) (l : Marked BoundLeaf) → integer_leaf (integer_literal negative s) ≡ fine l → LeafSane l.kind
number_sane negative s l e = go (integer_literal negative s) refl e
  where
    go : (o : Option ℤ) → integer_literal negative s ≡ o → integer_leaf o ≡ fine l → LeafSane l.kind
    go none p h = absurd (never_fine h)
    go (some z) p h = rw (sym (fine_same h)) (integer_ok negative s p)

unary_sane : (o : Unary) (m : Mark) (a : BoundExpr) → Sane a → Sane (bound_unary o m a)
unfolding bound_unary Sane
unary_sane parentheses m a h = h
unary_sane (null_test n) m a h = h
unary_sane (unary o) m a h = h
unary_sane other_unary m a h = h

binary_sane : (o : Binary) (m : Mark) (a b : BoundExpr) → Sane a → Sane b → Sane (bound_binary o m a b)
unfolding bound_binary Sane
binary_sane (binary o) m a b h k = (h, k)
binary_sane other_binary m a b h k = h

module _ (t : TableSchema) (h : TableFine t) where
  leaf_sane : (k : Leaf) → node_labels.form.Ok (leaf_label k) → (l : Marked BoundLeaf) → leaf_rule t k ≡ fine l → LeafSane l.kind
  unfolding leaf_rule
  leaf_sane (Leaf.name n) d l e = go (column_by_name t (canonical n)) refl e
    where
      go : (o : Option BoundColumnRef) → column_by_name t (canonical n) ≡ o → column_leaf o ≡ fine l → LeafSane l.kind
      go none p q = absurd (never_fine q)
      go (some c) p q = rw (sym (fine_same q)) (named_ok t h (canonical n) p)
  leaf_sane (Leaf.number s) d l e = number_sane false s l e
  leaf_sane (Leaf.string s) d l e = rw (sym (fine_same e)) (text_ok s d)
  leaf_sane (Leaf.boolean b) d l e = rw (sym (fine_same e)) (bool_ok b)
  leaf_sane Leaf.null d l e = rw (sym (fine_same e)) null_ok
  leaf_sane Leaf.other_literal d l e = absurd (never_fine e)
  leaf_sane Leaf.other_expression d l e = absurd (never_fine e)

  pub bound_sane : (x : Expr) → N.Holds node_labels.form.Ok x → {b : BoundExpr} → bind_expression t x ≡ given b → Sane b
  unfolding bind_expression
  bound_sane (leaf k) d e = judged_leaf (leaf_rule t k) (leaf_sane k d) e
  bound_sane (un o a) d {b} e = go (signed_number o a) (λ y q. bound_sane a d.0 {b = y} q) e
    where
      go : (s : Option (Bool × Text)) → ((y : BoundExpr) → bind_expression t a ≡ given y → Sane y)
          → or_signed s bound_leaf (bind_expression t a >>= (λ y. judged (unary_rule o (mark_of y)) >>= (λ m. given (bound_unary o m y)))) ≡ given b → Sane b
      go none below q =
          let y = bind_given (bind_expression t a) _ b q in
          let m = bind_given (judged (unary_rule o (mark_of y.0))) _ b y.2 in
          subst Sane (given_same m.2) (unary_sane o m.0 y.0 (below y.0 y.1))
      go (some p) below q = judged_leaf (integer_leaf (integer_literal p.0 p.1)) (number_sane p.0 p.1) q
  bound_sane (bin o a c) d {b} e =
      let y = bind_given (bind_expression t a) _ b e in
      let z = bind_given (bind_expression t c) _ b y.2 in
      let m = bind_given (judged (binary_rule o (mark_of y.0) (mark_of z.0))) _ b z.2 in
      subst Sane (given_same m.2) (binary_sane o m.0 y.0 z.0 (bound_sane a d.0 y.1) (bound_sane c d.1.0 z.1))
