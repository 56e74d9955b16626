-- What a code says of a value: that nothing is held, or that the part which the accessor lends holds it.
-- Assumes nothing.
use Rattle.std.specs.Prelude.{◌≡◌, refl, Bool, true, false, List, [], ◌∷◌, ℕ, zero, suc, ◌<◌}
use Rattle.std.proofs.Common.{sym, subst, true≢false, arith}
use Rattle.std.proofs.lemmas.Bool.{false≢true}
use Rattle.std.proofs.Math.Option.{Option, none, some}
use Rattle.bytes_format.proofs.Formats.{list_of}
use Rattle.bytes_bundle.specs.Bundle.{is_there}
use Rattle.bytes_bundle.specs.Held.{Holds}
use Rattle.bytes_bundle.specs.Looks.{Inside}
use Rattle.rules.specs.Statements.{
  Name,
  Expr,
  ObjectName,
  plain,
  qualified,
  Constraint,
  primary_key,
  other_constraint,
  CreateTable,
  SourceBody,
  values,
  not_values,
  Source,
  Insert,
  Relation,
  direct,
  indirect,
  TableWithJoins,
  Item,
  star,
  column,
  other_item,
  From,
  one,
  not_one,
  Select,
  QueryBody,
  plain_select,
  not_plain,
  Query,
  Target,
  target,
  tuple,
  Update,
  DeleteFrom,
  from,
  no_keyword,
  Delete,
  Kind,
  create_table,
  insert,
  query,
  update,
  delete,
  begin,
  commit,
  rollback,
  show_tables,
  other_kind,
  Statement,
}
use Rattle.rules.specs.Limits.{
  Held,
  if_there,
  object_names,
  held_by_create_table,
  body_rows,
  source_rows,
  held_by_insert,
  relation_names,
  table_names,
  from_names,
  item_names,
  nothing,
  held_by_select,
  held_by_body,
  target_names,
  held_by_update,
  delete_names,
  held_by_delete,
  held_by,
}
use Rattle.image_expression.specs.Expression.{expression}
use Rattle.image_parts.specs.Layout.{
  name,
  object_name,
  constraint,
  create,
  source_body,
  source,
  insertion,
  relation,
  table_with_joins,
  item,
  select_from,
  condition,
  select,
  query_body,
  selection,
  assignment_target,
  updating,
  delete_from,
  deletion,
  statement,
}
use Rattle.image_parts.specs.NamesHeld.{object_name_no, relation_no, is_direct, condition_holds}
use Rattle.image_create.specs.Held.{is_key}
use Rattle.image_insert.specs.Held.{is_values}
use Rattle.image_select.specs.Held.{item_no, from_no, body_no}
use Rattle.image_update.specs.Held.{target_no}
use Rattle.image_delete.specs.Held.{delete_from_no}
use Rattle.image_statement.specs.Held.{kind_no, KindHolds}

-- ---- nothing is held

pub no_name : (v : ObjectName) → (object_name_no v ≡ 1 → ⊥) → object_names v ≡ []
no_name (plain n) h = absurd (h refl)
no_name qualified h = refl

pub no_relation : (v : Relation) → (relation_no v ≡ 1 → ⊥) → relation_names v ≡ []
no_relation (direct m n) h = absurd (h refl)
no_relation indirect h = refl

pub no_column : (v : Item) → (item_no v ≡ 2 → ⊥) → item_names v ≡ []
no_column star h = refl
no_column (column n) h = absurd (h refl)
no_column other_item h = refl

pub no_table : (v : From) → (from_no v ≡ 1 → ⊥) → from_names v ≡ []
no_table (one t) h = absurd (h refl)
no_table not_one h = refl

pub no_select : (v : QueryBody) → (body_no v ≡ 1 → ⊥) → held_by_body v ≡ nothing
no_select (plain_select s) h = absurd (h refl)
no_select not_plain h = refl

pub no_target : (v : Target) → (target_no v ≡ 1 → ⊥) → target_names v ≡ []
no_target (target n) h = absurd (h refl)
no_target tuple h = refl

pub no_delete_table : (v : DeleteFrom) → (delete_from_no v ≡ 2 → ⊥) → delete_names v ≡ []
no_delete_table (from (one t)) h = absurd (h refl)
no_delete_table (from not_one) h = refl
no_delete_table no_keyword h = refl

pub no_key : (v : Constraint) → is_key v ≡ false → v ≡ other_constraint
no_key (primary_key m names) h = absurd (true≢false h)
no_key other_constraint h = refl

pub no_values : (v : SourceBody) → is_values v ≡ false → body_rows v ≡ []
no_values (values m rows) h = absurd (true≢false h)
no_values not_values h = refl

pub no_source : (v : Option Source) → is_there v ≡ false → source_rows v ≡ []
no_source none h = refl
no_source (some q) h = absurd (true≢false h)

pub no_condition : (v : Option Expr) → is_there v ≡ false → if_there v ≡ []
no_condition none h = refl
no_condition (some e) h = absurd (true≢false h)

pub is_direct_lem : (v : Relation) → relation_no v ≡ 1 → is_direct v ≡ true
is_direct_lem (direct m n) h = refl
is_direct_lem indirect h = absurd (omega arith)

-- ---- the part holds it

module _ {s t : List ℕ} where
  pub name_inside : ((v : ObjectName) → Holds object_name s v → object_name_no v ≡ 1) → ((n : Name) → Holds object_name s (plain n) → Holds name t n)
      → Inside object_name name object_names (λ n. n ∷ []) s t
  name_inside code part = record { of = go }
    where
      go : (v : ObjectName) → Holds object_name s v → (n : Name) × Holds name t n × (object_names v ≡ n ∷ [])
      go (plain n) h = (n, part n h, refl)
      go qualified h = absurd (omega (arith, code qualified h))

  pub relation_inside : ((v : Relation) → Holds relation s v → is_direct v ≡ true) → ((m : Bool) (n : ObjectName) → Holds relation s (direct m n) → Holds object_name t n)
      → Inside relation object_name relation_names object_names s t
  relation_inside direct? part = record { of = go }
    where
      go : (v : Relation) → Holds relation s v → (n : ObjectName) × Holds object_name t n × (relation_names v ≡ object_names n)
      go (direct m n) h = (n, part m n h, refl)
      go indirect h = absurd (false≢true (direct? indirect h))

  pub column_inside : ((v : Item) → Holds item s v → item_no v ≡ 2) → ((n : Name) → Holds item s (column n) → Holds name t n)
      → Inside item name item_names (λ n. n ∷ []) s t
  column_inside code part = record { of = go }
    where
      go : (v : Item) → Holds item s v → (n : Name) × Holds name t n × (item_names v ≡ n ∷ [])
      go star h = absurd (omega (arith, code star h))
      go (column n) h = (n, part n h, refl)
      go other_item h = absurd (omega (arith, code other_item h))

  pub table_inside : ((v : From) → Holds select_from s v → from_no v ≡ 1) → ((w : TableWithJoins) → Holds select_from s (one w) → Holds table_with_joins t w)
      → Inside select_from table_with_joins from_names table_names s t
  table_inside code part = record { of = go }
    where
      go : (v : From) → Holds select_from s v → (w : TableWithJoins) × Holds table_with_joins t w × (from_names v ≡ table_names w)
      go (one w) h = (w, part w h, refl)
      go not_one h = absurd (omega (arith, code not_one h))

  pub select_inside : ((v : QueryBody) → Holds query_body s v → body_no v ≡ 1) → ((w : Select) → Holds query_body s (plain_select w) → Holds select t w)
      → Inside query_body select held_by_body held_by_select s t
  select_inside code part = record { of = go }
    where
      go : (v : QueryBody) → Holds query_body s v → (w : Select) × Holds select t w × (held_by_body v ≡ held_by_select w)
      go (plain_select w) h = (w, part w h, refl)
      go not_plain h = absurd (omega (arith, code not_plain h))

  pub target_inside : ((v : Target) → Holds assignment_target s v → target_no v ≡ 1) → ((n : ObjectName) → Holds assignment_target s (target n) → Holds object_name t n)
      → Inside assignment_target object_name target_names object_names s t
  target_inside code part = record { of = go }
    where
      go : (v : Target) → Holds assignment_target s v → (n : ObjectName) × Holds object_name t n × (target_names v ≡ object_names n)
      go (target n) h = (n, part n h, refl)
      go tuple h = absurd (omega (arith, code tuple h))

  pub delete_table_inside : ((v : DeleteFrom) → Holds delete_from s v → delete_from_no v ≡ 2)
      → ((w : TableWithJoins) → Holds delete_from s (from (one w)) → Holds table_with_joins t w)
      → Inside delete_from table_with_joins delete_names table_names s t
  delete_table_inside code part = record { of = go }
    where
      go : (v : DeleteFrom) → Holds delete_from s v → (w : TableWithJoins) × Holds table_with_joins t w × (delete_names v ≡ table_names w)
      go (from (one w)) h = (w, part w h, refl)
      go (from not_one) h = absurd (omega (arith, code (from not_one) h))
      go no_keyword h = absurd (omega (arith, code no_keyword h))

  -- whatever is asked of a key's names
  pub key_inside : {X : Type 0} (N : Constraint → X) (M : List Name → X) → ((m : Bool) (l : List Name) → N (primary_key m l) ≡ M l)
      → ((v : Constraint) → Holds constraint s v → is_key v ≡ true) → ((m : Bool) (l : List Name) → Holds constraint s (primary_key m l) → Holds (list_of 2 name) t l)
      → Inside constraint (list_of 2 name) N M s t
  key_inside N M e key part = record { of = go }
    where
      go : (v : Constraint) → Holds constraint s v → (l : List Name) × Holds (list_of 2 name) t l × (N v ≡ M l)
      go (primary_key m l) h = (l, part m l h, e m l)
      go other_constraint h = absurd (false≢true (key other_constraint h))

  pub rows_inside : ((v : SourceBody) → Holds source_body s v → is_values v ≡ true)
      → ((m : Bool) (rows : List (List Expr)) → Holds source_body s (values m rows) → Holds (list_of 2 (list_of 2 expression)) t rows)
      → Inside source_body (list_of 2 (list_of 2 expression)) body_rows (λ rows. rows) s t
  rows_inside given part = record { of = go }
    where
      go : (v : SourceBody) → Holds source_body s v → (rows : List (List Expr)) × Holds (list_of 2 (list_of 2 expression)) t rows × (body_rows v ≡ rows)
      go (values m rows) h = (rows, part m rows h, refl)
      go not_values h = absurd (false≢true (given not_values h))

  pub source_inside : ((v : Insert) → Holds insertion s v → is_there v.source ≡ true)
      → ((v : Insert) (q : Source) → Holds insertion s v → v.source ≡ some q → Holds source t q)
      → Inside insertion source (λ v. source_rows v.source) (λ q. body_rows q.body) s t
  source_inside there part = record { of = λ v h. go v h v.source refl (there v h) }
    where
      go : (v : Insert) → Holds insertion s v → (o : Option Source) → v.source ≡ o → is_there o ≡ true
          → (q : Source) × Holds source t q × (source_rows o ≡ body_rows q.body)
      go v h none e l = absurd (false≢true l)
      go v h (some q) e l = (q, part v q h e, refl)

-- a condition's bytes are its expression's
pub condition_inside : {s : List ℕ} → ((v : Option Expr) → Holds condition s v → is_there v ≡ true) → Inside condition expression if_there (λ e. e ∷ []) s s
condition_inside {s} there = record { of = go }
  where
    go : (v : Option Expr) → Holds condition s v → (e : Expr) × Holds expression s e × (if_there v ≡ e ∷ [])
    go none h = absurd (false≢true (there none h))
    go (some e) h = (e, condition_holds s e h, refl)

-- ---- the kind

-- what the bytes behind a kind hold, by the kind's code
abbrev HeldAt : ℕ → Kind → List ℕ → Type 0
HeldAt zero k t = (c : CreateTable) × Holds create t c × (held_by k ≡ held_by_create_table c)
HeldAt (suc zero) k t = (i : Insert) × Holds insertion t i × (held_by k ≡ held_by_insert i)
HeldAt (suc (suc zero)) k t = (q : Query) × Holds selection t q × (held_by k ≡ held_by_body q.body)
HeldAt (suc (suc (suc zero))) k t = (u : Update) × Holds updating t u × (held_by k ≡ held_by_update u)
HeldAt (suc (suc (suc (suc zero)))) k t = (d : Delete) × Holds deletion t d × (held_by k ≡ held_by_delete d)
HeldAt (suc (suc (suc (suc (suc n))))) k t = held_by k ≡ nothing

held_at : (t : List ℕ) (k : Kind) → KindHolds k t → HeldAt (kind_no k) k t
unfolding held_by
held_at t (create_table c) h = (c, h, refl)
held_at t (insert i) h = (i, h, refl)
held_at t (query q) h = (q, h, refl)
held_at t (update u) h = (u, h, refl)
held_at t (delete d) h = (d, h, refl)
held_at t (begin m) h = refl
held_at t (commit m) h = refl
held_at t (rollback m n) h = refl
held_at t (show_tables m) h = refl
held_at t other_kind h = refl

-- a code that was read
pub record Coded (s t : List ℕ) (n : ℕ) : Type 0 where
  pub code : (v : Statement) → Holds statement s v → n ≡ kind_no v.kind
  pub body : (v : Statement) → Holds statement s v → KindHolds v.kind t

coded : {s t : List ℕ} {n : ℕ} → Coded s t n → (v : Statement) → Holds statement s v → HeldAt n v.kind t
coded {t = t} k v h = subst (λ (m : ℕ). HeldAt m v.kind t) (sym (k.code v h)) (held_at t v.kind (k.body v h))

abbrev held_in : Statement → Held
held_in v = held_by v.kind

module _ {s t : List ℕ} where
  pub create_inside : Coded s t 0 → Inside statement create held_in held_by_create_table s t
  create_inside k = record { of = coded k }

  pub insert_inside : Coded s t 1 → Inside statement insertion held_in held_by_insert s t
  insert_inside k = record { of = coded k }

  pub query_inside : Coded s t 2 → Inside statement selection held_in (λ q. held_by_body q.body) s t
  query_inside k = record { of = coded k }

  pub update_inside : Coded s t 3 → Inside statement updating held_in held_by_update s t
  update_inside k = record { of = coded k }

  pub delete_inside : Coded s t 4 → Inside statement deletion held_in held_by_delete s t
  delete_inside k = record { of = coded k }

  pub no_body : (n : ℕ) → Coded s t n → 4 < n → (v : Statement) → Holds statement s v → held_by v.kind ≡ nothing
  no_body n k l v h = go n l (coded k v h)
    where
      go : (n : ℕ) → 4 < n → HeldAt n v.kind t → held_by v.kind ≡ nothing
      go zero l h = absurd (omega arith)
      go (suc zero) l h = absurd (omega arith)
      go (suc (suc zero)) l h = absurd (omega arith)
      go (suc (suc (suc zero))) l h = absurd (omega arith)
      go (suc (suc (suc (suc zero)))) l h = absurd (omega arith)
      go (suc (suc (suc (suc (suc n))))) l h = h
