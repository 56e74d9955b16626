-- "Top sizes, allowed / refused with 7: statement or catalogue image 65,536 / 65,537 bytes; name 128 / 129 bytes; columns of a table or
-- entries of any list (a node run is none) 64 / 65, but rows of an INSERT 1,024 / 1,025 and tables 256 / 257; expression depth 64 / 65
-- (a leaf is 1, parentheses count)." And number 8, which looks at the statement's names too.
-- Assumes nothing: these are definitions.
use Rattle.std.specs.Prelude.{Bool, ◌&&◌, List, [], ◌∷◌, ◌++◌, map, ℕ, leb, length}
use Rattle.std.proofs.Math.Option.{Option, none, some}
use Rattle.tree.specs.Tree.{leaf, un, bin, depth}
use Rattle.rules.specs.Lists.{Text, any, all}
use Rattle.rules.specs.Tables.{ColumnSchema, TableSchema, Catalogue}
use Rattle.rules.specs.Statements.{Name, ObjectName, plain, qualified, Leaf, Expr, ColumnDefinition, Constraint, primary_key, other_constraint, CreateTable, SourceBody, values, not_values, Source, Insert, Relation, direct, indirect, TableWithJoins, Item, star, column, other_item, From, one, not_one, Select, QueryBody, plain_select, not_plain, Target, target, tuple, Assignment, Update, DeleteFrom, from, no_keyword, Delete, Kind, create_table, insert, query, update, delete, begin, commit, rollback, show_tables, other_kind, Statement}
use Rattle.rules.specs.Names.{beyond_ascii}

-- ---- what a statement holds: its names, its expressions, and how long its lists are

pub record Held : Type 0 where
  pub names : List Name
  pub expressions : List Expr
  pub lists : List ℕ
  pub rows : ℕ

abbrev pub nothing : Held
nothing = record { names = []; expressions = []; lists = []; rows = 0 }

module _ {A B : Type 0} where
  -- what each of a list holds, one after the other
  abbrev pub gather : (A → List B) → List A → List B
  gather f [] = []
  gather f (x ∷ l) = f x ++ gather f l

abbrev pub if_there : {A : Type 0} → Option A → List A
if_there none = []
if_there (some a) = a ∷ []

abbrev pub leaf_names : Leaf → List Name
leaf_names (Leaf.name n) = n ∷ []
leaf_names (Leaf.number s) = []
leaf_names (Leaf.string s) = []
leaf_names (Leaf.boolean b) = []
leaf_names Leaf.null = []
leaf_names Leaf.other_literal = []
leaf_names Leaf.other_expression = []

unfoldable pub expression_names : Expr → List Name
expression_names (leaf l) = leaf_names l
expression_names (un o a) = expression_names a
expression_names (bin o a b) = expression_names a ++ expression_names b

abbrev pub object_names : ObjectName → List Name
object_names (plain n) = n ∷ []
object_names qualified = []

abbrev pub constraint_names : Constraint → List Name
constraint_names (primary_key marked names) = names
constraint_names other_constraint = []

abbrev pub key_lists : Constraint → List ℕ
key_lists (primary_key marked names) = length names ∷ []
key_lists other_constraint = []

unfoldable pub held_by_create_table : CreateTable → Held
held_by_create_table c = record {
  names = object_names c.name ++ (map (λ (d : ColumnDefinition). d.name) c.columns ++ gather constraint_names c.constraints);
  expressions = [];
  lists =
      length c.columns ∷ length c.constraints
      ∷ (map (λ (d : ColumnDefinition). length d.options) c.columns ++ gather key_lists c.constraints);
  rows = 0;
}

abbrev pub body_rows : SourceBody → List (List Expr)
body_rows (values explicitRow rows) = rows
body_rows not_values = []

abbrev pub source_rows : Option Source → List (List Expr)
source_rows none = []
source_rows (some q) = body_rows q.body

unfoldable pub held_by_insert : Insert → Held
held_by_insert i = record {
  names = object_names i.name ++ (i.columns ++ gather (gather expression_names) (source_rows i.source));
  expressions = gather (λ (row : List Expr). row) (source_rows i.source);
  lists = length i.columns ∷ map (λ (row : List Expr). length row) (source_rows i.source);
  rows = length (source_rows i.source);
}

abbrev pub relation_names : Relation → List Name
relation_names (direct marked name) = object_names name
relation_names indirect = []

abbrev pub table_names : TableWithJoins → List Name
table_names t = relation_names t.relation

abbrev pub from_names : From → List Name
from_names (one t) = table_names t
from_names not_one = []

abbrev pub item_names : Item → List Name
item_names star = []
item_names (column n) = n ∷ []
item_names other_item = []

unfoldable pub held_by_select : Select → Held
held_by_select s = record {
  names = from_names s.from ++ (gather item_names s.items ++ gather expression_names (if_there s.condition));
  expressions = if_there s.condition;
  lists = length s.items ∷ [];
  rows = 0;
}

abbrev pub held_by_body : QueryBody → Held
held_by_body (plain_select s) = held_by_select s
held_by_body not_plain = nothing

abbrev pub target_names : Target → List Name
target_names (target n) = object_names n
target_names tuple = []

abbrev pub assignment_names : Assignment → List Name
assignment_names a = target_names a.target ++ expression_names a.value

unfoldable pub held_by_update : Update → Held
held_by_update u = record {
  names = table_names u.table ++ (gather assignment_names u.assignments ++ gather expression_names (if_there u.condition));
  expressions = map (λ (a : Assignment). a.value) u.assignments ++ if_there u.condition;
  lists = length u.assignments ∷ [];
  rows = 0;
}

abbrev pub delete_names : DeleteFrom → List Name
delete_names (from f) = from_names f
delete_names no_keyword = []

unfoldable pub held_by_delete : Delete → Held
held_by_delete d = record {
  names = delete_names d.from ++ gather expression_names (if_there d.condition);
  expressions = if_there d.condition;
  lists = [];
  rows = 0;
}

unfoldable pub held_by : Kind → Held
held_by (create_table c) = held_by_create_table c
held_by (insert i) = held_by_insert i
held_by (query q) = held_by_body q.body
held_by (update u) = held_by_update u
held_by (delete d) = held_by_delete d
held_by (begin marked) = nothing
held_by (commit chain) = nothing
held_by (rollback chain savepoint) = nothing
held_by (show_tables marked) = nothing
held_by other_kind = nothing

-- ---- the limits

abbrev pub at_most : ℕ → ℕ → Bool
at_most limit n = leb n limit

abbrev pub name_within : Text → Bool
name_within s = at_most 128 (length s)

unfoldable pub held_within : Held → Bool
held_within h =
    all (λ (n : Name). name_within n.text) h.names
    && all (at_most 64) h.lists
    && at_most 1024 h.rows
    && all (λ (e : Expr). at_most 64 (depth e)) h.expressions

unfoldable pub table_within : TableSchema → Bool
table_within t =
    name_within t.name
    && at_most 64 (length t.columns)
    && all (λ (c : ColumnSchema). name_within c.name) t.columns
    && at_most 64 (length t.key)

-- an image's size is the number of its bytes
unfoldable pub statement_within : ℕ → Statement → Bool
statement_within size s = at_most 65536 size && held_within (held_by s.kind)

unfoldable pub catalogue_within : ℕ → Catalogue → Bool
catalogue_within size c = at_most 65536 size && at_most 256 (length c) && all table_within c

-- ---- number 8

unfoldable pub names_beyond_ascii : Statement → Bool
names_beyond_ascii s = any beyond_ascii (held_by s.kind).names
