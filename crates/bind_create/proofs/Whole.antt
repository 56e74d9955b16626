-- The steps behind the columns: where the key stands, how many ids it has, and how long the whole is.
-- Assumes nothing.
use mathlib.Core.Path.{◌≡◌, refl, sym, ap, ◌∙◌, subst}
use mathlib.Core.Bool.{Bool, true, false}
use mathlib.Core.List.{List, [], ◌∷◌, map}
use mathlib.Core.Option.{Option, none, some}
use Prim.Native.Nat.{ℕ, ◌+◌, ◌*◌, ◌≤◌}
use native.Mathlib.Omega.{arith}
use lib.ListN.{length, length-map}
use Rattle.bytes_format.proofs.Formats.{list_of}
use Rattle.image_bound.specs.Layout.{bound_statement}
use Rattle.bytes_bundle.specs.Held.{Holds, Is, held, held_once}
use Rattle.image_expression.specs.Names.{Within}
use Rattle.bind_repeats.specs.declared.Of.TheVariants as of
use Rattle.std.specs.Prelude.{Option as Maybe}
use Rattle.bind_repeats.specs.Repeats.{first_repeated}
use Rattle.bind_repeats.specs.Entries.{entry, FindsRepeat}
use Rattle.std.specs.Prelude.{Result, Ok, Err}
use Rattle.bind_table.specs.Told.{sized}
use Rattle.bind_table.specs.Steps.{classed, step_on, step_off, test_on, test_off, sized_given, sized_refused}
use Rattle.bind_table.specs.Short.{short_plain}
use Rattle.bind_table.specs.Tables.{new_name, canonical_length}
use Rattle.rules.specs.declared.ColumnId.{ColumnId}
use Rattle.rules.specs.declared.Class.{Class}
use Rattle.rules.specs.declared.Class.TheVariants.{ConstraintViolation, UnsupportedSql}
use Rattle.rules.specs.declared.Refusal.{Refusal}
use Rattle.rules.specs.Lists.{Text, is_some, is_empty, all}
use Rattle.rules.specs.Limits.{object_names, held_by_create_table, held_within}
use Rattle.rules.specs.Answers.{Answer, given, refused, refuse, refuse_if, found, ◌>>=◌, ◌>>◌}
use Rattle.rules.specs.Names.{canonical, simple_name}
use Rattle.rules.specs.Tables.{Catalogue, table_by_name}
use Rattle.rules.specs.Statements.{ObjectName, plain, qualified, ColumnDefinition, CreateTable}
use Rattle.rules.proofs.Theorems.Answered.{never_given, bind_given}
use Rattle.rules.specs.Analyze.{define_columns, key_ids, analyze_create_table}
use Rattle.image_parts.specs.Layout.{column_definition, create}
use Rattle.bind_create.specs.declared.Key.{Key}
use Rattle.bind_create.specs.declared.Key.TheVariants.{Nowhere, Column, Constrained}
use Rattle.bind_create.specs.Defined.{schemas, definition, key_of, created, key_table, key_joined, define_table, create_steps, room_for, created_size, keys_length}
use Rattle.bind_create.specs.Keys.{KeyAt, NamedAt, ByColumn, key_inline, ColumnsRead, ReadsConstraints, read_of, read_key, ReadsKey, read_joined, counted}
use Rattle.bind_create.specs.Within.{PlaceIn, KeyIn, names_few}
use Rattle.bind_create.proofs.Names.{find_there, one_name}

-- ---- columns, then constraints

module _ (v : CreateTable) where
  pub read_both : {key : Key} (r : Result Key Class) → ColumnsRead v.columns key
      → ((names : Option (List Text)) → KeyAt v.columns v.constraints key names → ReadsConstraints v.columns v.constraints names r) → ReadsKey v r
  read_both (Ok k) c f =
      let g = f c.names (key_inline v.constraints c.at) in
      record {
        names = g.names;
        gives = step_on _ c.gives ∙ step_on (λ names. given (read_of (schemas 0 v.columns) names)) g.gives;
        at = g.at;
      }
  read_both (Err k) c f =
      step_on _ c.gives ∙ step_off (λ names. given (read_of (schemas 0 v.columns) names)) (f c.names (key_inline v.constraints c.at))

  pub read_columns_off : {k : Class} → define_columns (definition [] none) v.columns ≡ refuse k → read_key v ≡ refuse k
  read_columns_off e = step_off _ e

-- the place of a repeat, of the statement's bytes and of the columns'
pub place_of : {s : List ℕ} (p : List ℕ) {place : Maybe ℕ} → Is create s → PlaceIn s place → ((v : CreateTable) → Holds create s v → Holds (list_of 2 column_definition) p v.columns)
    → FindsRepeat of.Columns p place
place_of {s} p {place} i w g vs h =
    held i (λ v k. subst (λ (l : List ColumnDefinition). place ≡ first_repeated (map (entry of.Columns) l)) (held_once (list_of 2 column_definition) {s = p} (g v k) h) (w.is v k))

pub place_in : {s : List ℕ} (p : List ℕ) {place : Maybe ℕ} → FindsRepeat of.Columns p place → ((v : CreateTable) → Holds create s v → Holds (list_of 2 column_definition) p v.columns) → PlaceIn s place
place_in p f g = record { is = λ v h. f v.columns (g v h) }

-- ---- how many ids

module _ (cs : List ColumnDefinition) {names : Option (List Text)} where
  pub count_none : names ≡ none → counted (key_of (schemas 0 cs) names) ≡ Err (classed ConstraintViolation)
  count_none e = ap (λ (o : Option (List Text)). counted (key_of (schemas 0 cs) o)) e

  pub count_column : {i : ℕ} → ByColumn cs i names → counted (key_of (schemas 0 cs) names) ≡ Ok 1
  count_column {i} k =
      let f = find_there 0 i cs k.here in
      ap (λ (o : Option (List Text)). counted (key_of (schemas 0 cs) o)) k.is ∙ ap counted (one_name (schemas 0 cs) (canonical k.column.name) f.1)

  pub count_list : {l : List Text} → names ≡ some l → counted (key_of (schemas 0 cs) names) ≡ counted (key_ids (schemas 0 cs) [] l)
  count_list e = ap (λ (o : Option (List Text)). counted (key_of (schemas 0 cs) o)) e

-- what was counted, by the case
pub record Counted (a : Answer (List ColumnId)) (n : ℕ) : Type 0 where
  pub ids : List ColumnId
  pub gives : a ≡ given ids
  pub many : n ≡ length ids

pub counted_is : (a : Answer (List ColumnId)) {m : Result ℕ Refusal} {n : ℕ} → m ≡ counted a → m ≡ Ok n → Counted a n
counted_is a {m} {n} e h = go a (sym h ∙ e)
  where
    go : (a : Answer (List ColumnId)) → Ok n ≡ counted a → Counted a n
    go (given ids) e = record { ids = ids; gives = refl; many = cc }
    go (refused r) e = let z : ◌≡◌ {A = ℕ} 0 1 = cc in absurd (omega arith)

pub counted_off : (a : Answer (List ColumnId)) {m : Result ℕ Refusal} {r : Refusal} → m ≡ counted a → m ≡ Err r → a ≡ refused r
counted_off a {m} {r} e h = go a (sym h ∙ e)
  where
    go : (a : Answer (List ColumnId)) → Err r ≡ counted a → a ≡ refused r
    go (given ids) e = let z : ◌≡◌ {A = ℕ} 0 1 = cc in absurd (omega arith)
    go (refused q) e = cc

-- a key has at most 64 ids
pub key_few : (v : CreateTable) → held_within (held_by_create_table v) ≡ true → {key : Key} {names : Option (List Text)} → KeyAt v.columns v.constraints key names
    → {ids : List ColumnId} → key_of (schemas 0 v.columns) names ≡ given ids → length ids ≤ 64
key_few v w {key} {names} k {ids} e =
    let a = bind_given (found names ConstraintViolation) (key_ids (schemas 0 v.columns) []) ids e in
    let n : names ≡ some a.0 = is names a.1 in
    omega (arith, keys_length (schemas 0 v.columns) [] a.0 a.2, go a.0 key k.named n)
  where
    is : (o : Option (List Text)) {l : List Text} → found o ConstraintViolation ≡ given l → o ≡ some l
    is none e = absurd (never_given e)
    is (some m) e = cc

    go : (l : List Text) (key : Key) → NamedAt v.columns v.constraints key names → names ≡ some l → length l ≤ 64
    go l Nowhere k e = let z : ◌≡◌ {A = ℕ} 0 1 = cc in absurd (omega arith)
    go l (Column i) k e = let z : canonical k.column.name ∷ [] ≡ l = cc in omega (arith, ap length z)
    go l (Constrained j) k e = let z : map canonical k.list ≡ l = cc in omega (arith, ap length z, names_few v w j k.here, length-map k.list canonical)

-- ---- how long it is

module _ (t : Text) (cs : List ColumnDefinition) (names : Option (List Text)) where
  pub keyed_given : {n m : ℕ} → Counted (key_of (schemas 0 cs) names) n → m ≡ 17 + length t + room_for cs + (4 + 12 * n) → Ok m ≡ sized bound_statement (key_table t (schemas 0 cs) names)
  keyed_given c e =
      sized_given bound_statement (key_joined t (schemas 0 cs) names ∙ step_on (λ ids. given (created t (schemas 0 cs) ids)) c.gives)
      (e ∙ ap (λ (n : ℕ). 17 + length t + room_for cs + (4 + 12 * n)) c.many ∙ sym (created_size t cs c.ids))

  pub keyed_off : {r : Refusal} → key_of (schemas 0 cs) names ≡ refused r → Err r ≡ sized bound_statement (key_table t (schemas 0 cs) names)
  keyed_off e = sized_refused bound_statement (key_joined t (schemas 0 cs) names ∙ step_off (λ ids. given (created t (schemas 0 cs) ids)) e)

-- ---- behind the name

module _ (v : CreateTable) (t : Text) where
  pub table_empty : is_empty v.columns ≡ true → define_table v t ≡ refuse ConstraintViolation
  table_empty e = test_off _ _ e

  module _ (a : is_empty v.columns ≡ false) where
    table_read : define_table v t ≡ (read_key v >>= (λ p. key_table t p.0 p.1))
    table_read = test_on _ _ a ∙ read_joined v (λ cs names. key_table t cs names)

    pub table_off : {k : Class} → read_key v ≡ refuse k → define_table v t ≡ refuse k
    table_off e = table_read ∙ step_off (λ p. key_table t p.0 p.1) e

    pub table_on : {names : Option (List Text)} → read_key v ≡ given (read_of (schemas 0 v.columns) names) → define_table v t ≡ key_table t (schemas 0 v.columns) names
    table_on e = table_read ∙ step_on (λ p. key_table t p.0 p.1) e

pub columns_empty : (cs : List ColumnDefinition) → length cs ≡ 0 → is_empty cs ≡ true
columns_empty [] e = refl
columns_empty (c ∷ cs) e = absurd (omega (arith, e))

pub columns_there : (cs : List ColumnDefinition) → (length cs ≡ 0 → ⊥) → is_empty cs ≡ false
columns_there [] h = absurd (h refl)
columns_there (c ∷ cs) h = refl

pub key_in : {s : List ℕ} {r : Result Key Class} {key : Key} → ((v : CreateTable) → Holds create s v → ReadsKey v r) → r ≡ Ok key → KeyIn s key
key_in f e = record { at = λ v h. let k = subst (ReadsKey v) e (f v h) in (k.names, k.at) }

-- ---- the whole

module _ (cat : Catalogue) (v : CreateTable) where
  pub create_exists : v.if_not_exists ≡ true → analyze_create_table cat v ≡ refuse UnsupportedSql
  create_exists e = create_steps cat v ∙ test_off _ _ e

  module _ (a : v.if_not_exists ≡ false) where
    pub create_query : v.as_query ≡ true → analyze_create_table cat v ≡ refuse UnsupportedSql
    create_query e = create_steps cat v ∙ test_on _ _ a ∙ test_off _ _ e

    module _ (b : v.as_query ≡ false) where
      pub create_feature : v.other_feature ≡ true → analyze_create_table cat v ≡ refuse UnsupportedSql
      create_feature e = create_steps cat v ∙ test_on _ _ a ∙ test_on _ _ b ∙ test_off _ _ e

      module _ (c : v.other_feature ≡ false) where
        named : analyze_create_table cat v ≡ (new_name cat v.name >>= define_table v)
        named = create_steps cat v ∙ test_on _ _ a ∙ test_on _ _ b ∙ test_on _ _ c

        pub create_unnamed : {r : Refusal} → new_name cat v.name ≡ refused r → analyze_create_table cat v ≡ refused r
        create_unnamed e = named ∙ step_off (define_table v) e

        pub create_named : {t : Text} → new_name cat v.name ≡ given t → analyze_create_table cat v ≡ define_table v t
        create_named e = named ∙ step_on (define_table v) e

-- a new name is short
pub new_short : (cat : Catalogue) (o : ObjectName) {t : Text} → all Within (object_names o) ≡ true → new_name cat o ≡ given t → length t ≤ 128
unfolding simple_name
new_short cat qualified w e = absurd (never_given e)
new_short cat (plain n) {t} w e = go (is_some (table_by_name cat (canonical n))) e
  where
    go : (b : Bool) → (refuse_if b ConstraintViolation >> given (canonical n)) ≡ given t → length t ≤ 128
    go true e = absurd (never_given e)
    go false e = let z : canonical n ≡ t = cc in omega (arith, ap length z, canonical_length n, short_plain n w)
