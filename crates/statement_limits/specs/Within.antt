-- What of a statement is within the top sizes, part by part, as the code tests it; and that the parts make the whole.
-- Assumes nothing.
use Rattle.std.specs.Prelude.{◌≡◌, refl, Bool, true, ◌&&◌, List, [], ◌∷◌, map, ℕ, ◌≤◌, length}
use Rattle.std.proofs.Common.{sym, ap, ap₂, ◌∙◌, arith, le-leb}
use Rattle.std.proofs.Math.Bool.{and_assoc, and_comm, and-true}
use Rattle.std.proofs.Math.Option.{Option}
use Rattle.tree.specs.Tree.{leaf, un, bin, size, depth}
use Rattle.bytes_bundle.specs.Decides.{Decides}
use Rattle.rules.specs.Lists.{all}
use Rattle.rules.specs.Statements.{
  Expr,
  ColumnDefinition,
  Constraint,
  primary_key,
  other_constraint,
  CreateTable,
  Source,
  Insert,
  Item,
  Select,
  Assignment,
  Update,
  Delete,
  Statement,
}
use Rattle.rules.specs.Limits.{
  nothing,
  gather,
  if_there,
  expression_names,
  object_names,
  constraint_names,
  key_lists,
  held_by_create_table,
  source_rows,
  held_by_insert,
  table_names,
  from_names,
  item_names,
  held_by_select,
  target_names,
  assignment_names,
  held_by_update,
  delete_names,
  held_by_delete,
  held_by,
  at_most,
  held_within,
  statement_within,
}
use Rattle.image_expression.specs.Names.{Within, all_append}
use Rattle.statement_limits.specs.Gathered.{and_left_comm, all_gather, all_map, all_both}

-- ---- the parts

abbrev pub Shallow : Expr → Bool
Shallow e = at_most 64 (depth e)

-- no tree is deeper than it has nodes
depth_size : (e : Expr) → depth e ≤ size e
unfolding depth size
depth_size (leaf l) = omega arith
depth_size (un o a) = omega (arith, depth_size a)
depth_size (bin o a b) = omega (arith, depth_size a, depth_size b)

pub few_shallow : (e : Expr) → size e ≤ 64 → true ≡ Shallow e
few_shallow e h = sym (le-leb (depth e) 64 (omega (arith, depth_size e)))

unfoldable pub expression_within : Expr → Bool
expression_within e = all Within (expression_names e) && Shallow e

-- the entries of a list: how many, and each by a test of its own
unfoldable pub list_within : {A : Type 0} → ℕ → (A → Bool) → List A → Bool
list_within limit p l = at_most limit (length l) && all p l

unfoldable pub condition_within : Option Expr → Bool
condition_within c = all expression_within (if_there c)

unfoldable pub column_within : ColumnDefinition → Bool
column_within d = Within d.name && at_most 64 (length d.options)

unfoldable pub constraint_within : Constraint → Bool
constraint_within (primary_key marked names) = list_within 64 Within names
constraint_within other_constraint = true

unfoldable pub row_within : List Expr → Bool
row_within row = list_within 64 expression_within row

unfoldable pub source_within : Option Source → Bool
source_within q = list_within 1024 row_within (source_rows q)

unfoldable pub item_within : Item → Bool
item_within i = all Within (item_names i)

unfoldable pub assignment_within : Assignment → Bool
assignment_within a = all Within (target_names a.target) && expression_within a.value

-- ---- an assignment and each kind by their tests, in the order of the code

abbrev pub assignment_tests : Assignment → List Bool
assignment_tests a = all Within (target_names a.target) ∷ expression_within a.value ∷ []

abbrev pub create_tests : CreateTable → List Bool
create_tests c = all Within (object_names c.name) ∷ list_within 64 column_within c.columns ∷ list_within 64 constraint_within c.constraints ∷ []

abbrev pub insert_tests : Insert → List Bool
insert_tests i = all Within (object_names i.name) ∷ list_within 64 Within i.columns ∷ source_within i.source ∷ []

abbrev pub select_tests : Select → List Bool
select_tests s = all Within (from_names s.from) ∷ list_within 64 item_within s.items ∷ condition_within s.condition ∷ []

abbrev pub update_tests : Update → List Bool
update_tests u = all Within (table_names u.table) ∷ list_within 64 assignment_within u.assignments ∷ condition_within u.condition ∷ []

abbrev pub delete_tests : Delete → List Bool
delete_tests d = all Within (delete_names d.from) ∷ condition_within d.condition ∷ []

-- ---- the parts make the whole

-- the names of expressions and how deep they are, apart
expressions_apart : (l : List Expr) → all expression_within l ≡ (all Within (gather expression_names l) && all Shallow l)
unfolding expression_within
expressions_apart l =
    all_both expression_within (λ e. all Within (expression_names e)) Shallow (λ e. refl) l
    ∙ ap (λ (t : Bool). t && all Shallow l) (sym (all_gather Within expression_names l))

columns_apart : (l : List ColumnDefinition)
    → all column_within l ≡ (all Within (map (λ (d : ColumnDefinition). d.name) l) && all (at_most 64) (map (λ (d : ColumnDefinition). length d.options) l))
unfolding column_within
columns_apart l =
    all_both column_within (λ d. Within d.name) (λ d. at_most 64 (length d.options)) (λ d. refl) l
    ∙ ap₂ (λ (s t : Bool). s && t) (sym (all_map Within (λ d. d.name) l)) (sym (all_map (at_most 64) (λ d. length d.options) l))

constraint_apart : (c : Constraint) → constraint_within c ≡ (all Within (constraint_names c) && all (at_most 64) (key_lists c))
unfolding constraint_within list_within
constraint_apart (primary_key marked names) =
    and_comm (at_most 64 (length names)) (all Within names) ∙ ap (λ (t : Bool). all Within names && t) (sym (and-true (at_most 64 (length names))))
constraint_apart other_constraint = refl

constraints_apart : (l : List Constraint) → all constraint_within l ≡ (all Within (gather constraint_names l) && all (at_most 64) (gather key_lists l))
constraints_apart l =
    all_both constraint_within (λ c. all Within (constraint_names c)) (λ c. all (at_most 64) (key_lists c)) constraint_apart l
    ∙ ap₂ (λ (s t : Bool). s && t) (sym (all_gather Within constraint_names l)) (sym (all_gather (at_most 64) key_lists l))

rows_apart : (l : List (List Expr))
    → all row_within l
    ≡ (all Within (gather (gather expression_names) l) && (all (at_most 64) (map (λ (row : List Expr). length row) l) && all Shallow (gather (λ (row : List Expr). row) l)))
unfolding row_within list_within
rows_apart l =
    all_both row_within (λ row. all Within (gather expression_names row)) (λ row. at_most 64 (length row) && all Shallow row) one l
    ∙ ap₂ (λ (s t : Bool). s && t) (sym (all_gather Within (gather expression_names) l))
    (all_both (λ row. at_most 64 (length row) && all Shallow row) (λ row. at_most 64 (length row)) (all Shallow) (λ row. refl) l
    ∙ ap₂ (λ (s t : Bool). s && t) (sym (all_map (at_most 64) (λ row. length row) l)) (sym (all_gather Shallow (λ row. row) l)))
  where
    one : (row : List Expr) → row_within row ≡ (all Within (gather expression_names row) && (at_most 64 (length row) && all Shallow row))
    one row =
        ap (λ (t : Bool). at_most 64 (length row) && t) (expressions_apart row)
        ∙ and_left_comm (at_most 64 (length row)) (all Within (gather expression_names row)) (all Shallow row)

assignments_apart : (l : List Assignment)
    → all assignment_within l ≡ (all Within (gather assignment_names l) && all Shallow (map (λ (a : Assignment). a.value) l))
unfolding assignment_within expression_within
assignments_apart l =
    all_both assignment_within (λ a. all Within (assignment_names a)) (λ a. Shallow a.value) one l
    ∙ ap₂ (λ (s t : Bool). s && t) (sym (all_gather Within assignment_names l)) (sym (all_map Shallow (λ a. a.value) l))
  where
    one : (a : Assignment) → assignment_within a ≡ (all Within (assignment_names a) && Shallow a.value)
    one a =
        sym (and_assoc (all Within (target_names a.target)) (all Within (expression_names a.value)) (Shallow a.value))
        ∙ ap (λ (t : Bool). t && Shallow a.value) (sym (all_append Within (target_names a.target) (expression_names a.value)))

pub expression_within_lem : (e : Expr) → Decides (expression_within e) (all Within (expression_names e) ∷ Shallow e ∷ [])
unfolding expression_within
expression_within_lem e = record { is = refl }

pub column_within_lem : (d : ColumnDefinition) → Decides (column_within d) (Within d.name ∷ at_most 64 (length d.options) ∷ [])
unfolding column_within
column_within_lem d = record { is = refl }

pub assignment_within_lem : (a : Assignment) → Decides (assignment_within a) (assignment_tests a)
unfolding assignment_within
assignment_within_lem a = record { is = refl }

ruleset sorting = (and-true, and_assoc, and_comm, and_left_comm)

pub create_within : (c : CreateTable) → Decides (held_within (held_by_create_table c)) (create_tests c)
unfolding held_within held_by_create_table list_within
create_within c = record {
  is =
      simp (all_append, columns_apart, constraints_apart)
      (sorted (all Within (object_names c.name)) (all Within (map (λ (d : ColumnDefinition). d.name) c.columns)) (all Within (gather constraint_names c.constraints))
      (at_most 64 (length c.columns)) (at_most 64 (length c.constraints))
      (all (at_most 64) (map (λ (d : ColumnDefinition). length d.options) c.columns)) (all (at_most 64) (gather key_lists c.constraints)));
}
  where
    sorted : (n c k lc lk lo lm : Bool) → ((n && (c && k)) && (lc && (lk && (lo && lm))) && true && true) ≡ (n && ((lc && (c && lo)) && (lk && (k && lm))))
    sorted n c k lc lk lo lm = simp sorting

pub insert_within : (i : Insert) → Decides (held_within (held_by_insert i)) (insert_tests i)
unfolding held_within held_by_insert list_within source_within
insert_within i = record {
  is =
      simp (all_append, rows_apart)
      (sorted (all Within (object_names i.name)) (all Within i.columns) (all Within (gather (gather expression_names) (source_rows i.source)))
      (at_most 64 (length i.columns)) (all (at_most 64) (map (λ (row : List Expr). length row) (source_rows i.source)))
      (at_most 1024 (length (source_rows i.source))) (all Shallow (gather (λ (row : List Expr). row) (source_rows i.source))));
}
  where
    sorted : (n c r lc lr m d : Bool) → ((n && (c && r)) && (lc && lr) && m && d) ≡ (n && ((lc && c) && (m && (r && (lr && d)))))
    sorted n c r lc lr m d = simp sorting

pub select_within : (s : Select) → Decides (held_within (held_by_select s)) (select_tests s)
unfolding held_within held_by_select list_within item_within condition_within
select_within s = record {
  is =
      simp (all_append, ← all_gather Within item_names, expressions_apart)
      (sorted (all Within (from_names s.from)) (all Within (gather item_names s.items)) (all Within (gather expression_names (if_there s.condition)))
      (at_most 64 (length s.items)) (all Shallow (if_there s.condition)));
}
  where
    sorted : (n i c l d : Bool) → ((n && (i && c)) && (l && true) && true && d) ≡ (n && ((l && i) && (c && d)))
    sorted n i c l d = simp sorting

pub update_within : (u : Update) → Decides (held_within (held_by_update u)) (update_tests u)
unfolding held_within held_by_update list_within condition_within
update_within u = record {
  is =
      simp (all_append, assignments_apart, expressions_apart)
      (sorted (all Within (table_names u.table)) (all Within (gather assignment_names u.assignments)) (all Within (gather expression_names (if_there u.condition)))
      (at_most 64 (length u.assignments)) (all Shallow (map (λ (a : Assignment). a.value) u.assignments)) (all Shallow (if_there u.condition)));
}
  where
    sorted : (n a c l d e : Bool) → ((n && (a && c)) && (l && true) && true && (d && e)) ≡ (n && ((l && (a && d)) && (c && e)))
    sorted n a c l d e = simp sorting

pub delete_within : (d : Delete) → Decides (held_within (held_by_delete d)) (delete_tests d)
unfolding held_within held_by_delete condition_within
delete_within d = record { is = simp (all_append, expressions_apart, and-true, and_assoc) }

pub nothing_within : held_within nothing ≡ true
unfolding held_within
nothing_within = refl

pub statement_within_lem : (size : ℕ) (s : Statement) → Decides (statement_within size s) (at_most 65536 size ∷ held_within (held_by s.kind) ∷ [])
unfolding statement_within
statement_within_lem size s = record { is = refl }
