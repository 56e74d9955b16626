-- Names within the limit, as the code wants them, by what the limits say of a statement.
-- Assumes nothing.
use Rattle.std.specs.Prelude.{◌≡◌, refl, Bool, true, ◌&&◌, List, [], ◌∷◌, ◌++◌, map, ℕ, ◌≤◌, length}
use Rattle.std.proofs.Common.{ap, ap₂, ◌∙◌, leb-true}
use Rattle.tree.specs.Tree.{depth}
use Rattle.bytes_bundle.specs.Decides.{and_of}
use Rattle.bytes_bundle.specs.Held.{Holds, held_once}
use Rattle.image_expression.specs.Names.{Within}
use Rattle.image_parts.specs.Layout.{name, object_name, table_with_joins}
use Rattle.rules.specs.Lists.{all}
use Rattle.rules.specs.Statements.{
  Name,
  ObjectName,
  plain,
  Expr,
  ColumnDefinition,
  CreateTable,
  Insert,
  TableWithJoins,
  Select,
  Update,
  Delete,
}
use Rattle.rules.specs.Limits.{
  Held,
  gather,
  if_there,
  expression_names,
  object_names,
  constraint_names,
  held_by_create_table,
  source_rows,
  held_by_insert,
  table_names,
  from_names,
  item_names,
  held_by_select,
  assignment_names,
  held_by_update,
  delete_names,
  held_by_delete,
  at_most,
  held_within,
}

-- a name within the limit
pub record ShortText (n : List ℕ) : Type 0 where
  pub short : (v : Name) → Holds name n v → length v.text ≤ 128

-- an object name of one part within the limit, if it has one part
pub record ShortName (n : List ℕ) : Type 0 where
  pub short : (o : ObjectName) → Holds object_name n o → all Within (object_names o) ≡ true

-- and so the name of a table, if one is named
pub record ShortTable (w : List ℕ) : Type 0 where
  pub short : (v : TableWithJoins) → Holds table_with_joins w v → all Within (table_names v) ≡ true

-- as a bound on its length
pub short_text : (n : Name) → Within n ≡ true → length n.text ≤ 128
short_text n e = leb-true (length n.text) 128 e

pub short_plain : (n : Name) → all Within (object_names (plain n)) ≡ true → length n.text ≤ 128
short_plain n e = short_text n (and_of (Within n) true e).0

-- ---- from the limits

module _ {A : Type 0} (p : A → Bool) where
  pub all_front : (a b : List A) → all p (a ++ b) ≡ true → all p a ≡ true
  all_front [] b e = refl
  all_front (x ∷ a) b e = let h = and_of (p x) (all p (a ++ b)) e in ap₂ (λ (s t : Bool). s && t) h.0 (all_front a b h.1)

  pub all_back : (a b : List A) → all p (a ++ b) ≡ true → all p b ≡ true
  all_back [] b e = e
  all_back (x ∷ a) b e = all_back a b (and_of (p x) (all p (a ++ b)) e).1

pub record HeldWithin (h : Held) : Type 0 where
  pub names : all Within h.names ≡ true
  pub lists : all (at_most 64) h.lists ≡ true
  pub rows : at_most 1024 h.rows ≡ true
  pub expressions : all (λ (e : Expr). at_most 64 (depth e)) h.expressions ≡ true

pub held_within_lem : (h : Held) → held_within h ≡ true → HeldWithin h
unfolding held_within
held_within_lem h e =
    let a = and_of (all Within h.names && all (at_most 64) h.lists && at_most 1024 h.rows) (all (λ (x : Expr). at_most 64 (depth x)) h.expressions) e in
    let b = and_of (all Within h.names && all (at_most 64) h.lists) (at_most 1024 h.rows) a.0 in
    let c = and_of (all Within h.names) (all (at_most 64) h.lists) b.0 in
    record { names = c.0; lists = c.1; rows = b.1; expressions = a.1 }

-- the names of a statement begin with its table's
pub create_short : (c : CreateTable) → held_within (held_by_create_table c) ≡ true → all Within (object_names c.name) ≡ true
unfolding held_by_create_table
create_short c e =
    all_front Within (object_names c.name) (map (λ (d : ColumnDefinition). d.name) c.columns ++ gather constraint_names c.constraints)
    (held_within_lem (held_by_create_table c) e).names

pub insert_short : (i : Insert) → held_within (held_by_insert i) ≡ true → all Within (object_names i.name) ≡ true
unfolding held_by_insert
insert_short i e =
    all_front Within (object_names i.name) (i.columns ++ gather (gather expression_names) (source_rows i.source))
    (held_within_lem (held_by_insert i) e).names

pub select_short : (s : Select) → held_within (held_by_select s) ≡ true → all Within (from_names s.from) ≡ true
unfolding held_by_select
select_short s e =
    all_front Within (from_names s.from) (gather item_names s.items ++ gather expression_names (if_there s.condition))
    (held_within_lem (held_by_select s) e).names

pub update_short : (u : Update) → held_within (held_by_update u) ≡ true → all Within (table_names u.table) ≡ true
unfolding held_by_update
update_short u e =
    all_front Within (table_names u.table) (gather assignment_names u.assignments ++ gather expression_names (if_there u.condition))
    (held_within_lem (held_by_update u) e).names

pub delete_short : (d : Delete) → held_within (held_by_delete d) ≡ true → all Within (delete_names d.from) ≡ true
unfolding held_by_delete
delete_short d e = all_front Within (delete_names d.from) (gather expression_names (if_there d.condition)) (held_within_lem (held_by_delete d) e).names

-- ---- of the bytes that hold them

pub short_name_lem : {n : List ℕ} {o : ObjectName} → Holds object_name n o → all Within (object_names o) ≡ true → ShortName n
short_name_lem h e = record { short = λ o k. ap (λ (x : ObjectName). all Within (object_names x)) (held_once object_name k h) ∙ e }

pub short_table : {w : List ℕ} {v : TableWithJoins} → Holds table_with_joins w v → all Within (table_names v) ≡ true → ShortTable w
short_table h e = record { short = λ v k. ap (λ (x : TableWithJoins). all Within (table_names x)) (held_once table_with_joins k h) ∙ e }
