-- "Statement by statement": each test at its place, in the Rust's order; the first that fails is the answer.
-- Assumes nothing: these are definitions.
use Rattle.std.specs.Prelude.{Bool, true, false, cond, not, ◌&&◌, List, [], ◌∷◌, ◌++◌, map, ◌+◌, eqb, length, ℤ}
use Rattle.std.proofs.Math.Option.{Option, none, some}
use Rattle.tree.specs.Tree.{leaf, un, bin}
use Rattle.rules.specs.declared.Class.TheVariants.{SchemaMismatch, ConstraintViolation, UnsupportedSql, InvalidArgument}
use Rattle.rules.specs.declared.ColumnId.{ColumnId}
use Rattle.rules.specs.declared.DataType.{DataType}
use Rattle.rules.specs.declared.DataType.TheVariants as data-type
use Rattle.rules.specs.Lists.{Text, same, is_some, is_empty, any, find}
use Rattle.rules.specs.Answers.{Answer, given, refuse, refuse_if, found, each, ◌>>=◌, ◌>>◌, Verdict, fine, flaw, judged}
use Rattle.rules.specs.Tables.{ColumnSchema, TableSchema, Catalogue, same_id, column_named, table_by_name}
use Rattle.rules.specs.Statements.{Leaf, Expr, ColumnType, known, other_type, OptionKind, option_null, option_not_null, option_key, option_key_with_characteristics, other_option, ColumnOption, ColumnDefinition, Constraint, primary_key, other_constraint, CreateTable, SourceBody, values, not_values, Insert, Relation, direct, indirect, TableWithJoins, Item, star, column, other_item, From, one, not_one, Select, QueryBody, plain_select, not_plain, Query, Target, target, tuple, Assignment, Update, DeleteFrom, from, no_keyword, Delete, Kind, create_table, insert, query, update, delete, begin, commit, rollback, show_tables, other_kind, Statement}
use Rattle.rules.specs.Bound.{Value, BoundColumnRef, BoundExpr, mark_of, BoundAssignment, BoundStatement, bound_create_table, bound_insert, bound_select, bound_update, bound_delete, bound_begin, bound_commit, bound_rollback, bound_show_tables, bound_show_transactions}
use Rattle.rules.specs.Names.{canonical, simple_name}
use Rattle.rules.specs.Trimmed.{is_show_transactions}
use Rattle.rules.specs.Numbers.{integer_literal}
use Rattle.rules.specs.Lookup.{bound_table, bound_columns, column_by_name, in_key}
use Rattle.rules.specs.Marking.{signed_number, bind_expression}
use Rattle.rules.specs.Fits.{bind_boolean_filter, fit}

-- ---- CREATE TABLE
-- "marks 3; name; exists 2; no columns 2. Each column: collation 3; repeated name 2; each option in order: named 3, nullability given
-- again 2 (even if it agrees), key with characteristics 3, other 3; then inline key with NULL 2; second key 2; type 3. [..] Constraints in
-- order: key marks 3, empty key 2, second key 2, other 3. Then no key 2; each key name: unknown 1, repeated 2. Ids run 1, 2, 3 ..; key
-- columns become not nullable; others are nullable unless NOT NULL."

-- what a column's options have said so far: NULL (yes) or NOT NULL (no) if one of them did, and whether there was a key
pub record OptionState : Type 0 where
  pub nullability : Option Bool
  pub key : Bool

abbrev pub no_options : OptionState
no_options = record { nullability = none; key = false }

unfoldable pub set_nullability : OptionState → Bool → Answer OptionState
set_nullability s n = refuse_if (is_some s.nullability) ConstraintViolation >> given (record { nullability = some n; key = s.key })

unfoldable pub option_of : OptionState → OptionKind → Answer OptionState
option_of s option_null = set_nullability s true
option_of s option_not_null = set_nullability s false
option_of s option_key = given (record { nullability = s.nullability; key = true })
option_of s option_key_with_characteristics = refuse UnsupportedSql
option_of s other_option = refuse UnsupportedSql

unfoldable pub options : OptionState → List ColumnOption → Answer OptionState
options s [] = given s
options s (o ∷ os) = do
  refuse_if o.named UnsupportedSql
  r ← option_of s o.kind
  options r os

abbrev pub said_null : Option Bool → Bool
said_null none = false
said_null (some n) = n

abbrev pub said_not_null : Option Bool → Bool
said_not_null none = false
said_not_null (some n) = not n

-- the columns so far, and the key if one was given: by its names
pub record Definition : Type 0 where
  pub columns : List ColumnSchema
  pub key : Option (List Text)

unfoldable pub register_key : Option (List Text) → List Text → Answer (Option (List Text))
register_key key names = refuse_if (is_some key) ConstraintViolation >> given (some names)

abbrev pub register_inline : Bool → Option (List Text) → Text → Answer (Option (List Text))
register_inline true key name = register_key key (name ∷ [])
register_inline false key name = given key

unfoldable pub data_type : ColumnType → Answer DataType
data_type (known t) = given t
data_type other_type = refuse UnsupportedSql

abbrev pub column_of : Definition → Text → OptionState → DataType → ColumnSchema
column_of d name o t = record {
  id = record { 0 = length d.columns + 1 };
  name = name;
  ty = t;
  nullable = not o.key && not (said_not_null o.nullability);
}

unfoldable pub define_column : Definition → ColumnDefinition → Text → Answer Definition
define_column d c name = do
  refuse_if c.collation UnsupportedSql
  refuse_if (any (column_named name) d.columns) ConstraintViolation
  o ← options no_options c.options
  refuse_if (o.key && said_null o.nullability) ConstraintViolation
  key ← register_inline o.key d.key name
  t ← data_type c.ty
  given (record { columns = d.columns ++ (column_of d name o t ∷ []); key = key })

unfoldable pub define_columns : Definition → List ColumnDefinition → Answer Definition
define_columns d [] = given d
define_columns d (c ∷ cs) = do
  e ← define_column d c (canonical c.name)
  define_columns e cs

unfoldable pub constraint : Option (List Text) → Constraint → Answer (Option (List Text))
constraint key (primary_key marked names) = do
  refuse_if marked UnsupportedSql
  refuse_if (is_empty names) ConstraintViolation
  register_key key (map canonical names)
constraint key other_constraint = refuse UnsupportedSql

unfoldable pub constraints : Option (List Text) → List Constraint → Answer (Option (List Text))
constraints key [] = given key
constraints key (c ∷ cs) = do
  k ← constraint key c
  constraints k cs

-- the ids of the key's columns; `before` are those of the names before
unfoldable pub key_ids : List ColumnSchema → List ColumnId → List Text → Answer (List ColumnId)
key_ids cs before [] = given before
key_ids cs before (name ∷ names) = do
  c ← found (find (column_named name) cs) SchemaMismatch
  refuse_if (any (same_id c.id) before) ConstraintViolation
  key_ids cs (before ++ (c.id ∷ [])) names

abbrev pub outside_null : List ColumnId → ColumnSchema → ColumnSchema
outside_null key c = record { id = c.id; name = c.name; ty = c.ty; nullable = c.nullable && not (any (same_id c.id) key) }

unfoldable pub analyze_create_table : Catalogue → CreateTable → Answer BoundStatement
analyze_create_table cat c = do
  refuse_if c.if_not_exists UnsupportedSql
  refuse_if c.as_query UnsupportedSql
  refuse_if c.other_feature UnsupportedSql
  name ← simple_name c.name
  refuse_if (is_some (table_by_name cat name)) ConstraintViolation
  refuse_if (is_empty c.columns) ConstraintViolation
  d ← define_columns (record { columns = []; key = none }) c.columns
  key ← constraints d.key c.constraints
  names ← found key ConstraintViolation
  ids ← key_ids d.columns [] names
  given (bound_create_table (record { table_name = name; columns = map (outside_null ids) d.columns; key = ids }))

-- ---- INSERT
-- "marks 3; name; table 1; no column list 3; each column: repeated 2, unknown 1; missing key column 2; missing column not nullable 2; no
-- source, query marks, not VALUES, ROW form 3; no rows 4; each row: count 2; each value: a literal or a sign directly on a number, else 3;
-- then NULL not allowed 2, type 1."

unfoldable pub insert_columns : TableSchema → List Text → List Text → Answer (List BoundColumnRef)
insert_columns t before [] = given []
insert_columns t before (name ∷ names) = do
  refuse_if (any (same name) before) ConstraintViolation
  c ← found (column_by_name t name) SchemaMismatch
  cs ← insert_columns t (name ∷ before) names
  given (c ∷ cs)

abbrev pub missing : List Text → ColumnSchema → Bool
missing names c = not (any (same c.name) names)

abbrev pub integer : Option ℤ → Answer Value
integer none = refuse SchemaMismatch
integer (some z) = given (Value.int z)

unfoldable pub insert_leaf : Leaf → Answer Value
insert_leaf (Leaf.name n) = refuse UnsupportedSql
insert_leaf (Leaf.number s) = integer (integer_literal false s)
insert_leaf (Leaf.string s) = given (Value.text s)
insert_leaf (Leaf.boolean b) = given (Value.bool b)
insert_leaf Leaf.null = given Value.null
insert_leaf Leaf.other_literal = refuse UnsupportedSql
insert_leaf Leaf.other_expression = refuse UnsupportedSql

abbrev pub insert_signed : Option (Bool × Text) → Answer Value
insert_signed none = refuse UnsupportedSql
insert_signed (some p) = integer (integer_literal p.0 p.1)

unfoldable pub insert_literal : Expr → Answer Value
insert_literal (leaf l) = insert_leaf l
insert_literal (un o a) = insert_signed (signed_number o a)
insert_literal (bin o a b) = refuse UnsupportedSql

abbrev pub typed_fit : Bool → Verdict Unit
typed_fit true = fine tt
typed_fit false = flaw SchemaMismatch

abbrev pub same_type : DataType → DataType → Bool
same_type data-type.Int data-type.Int = true
same_type data-type.Int data-type.Text = false
same_type data-type.Int data-type.Bool = false
same_type data-type.Text data-type.Int = false
same_type data-type.Text data-type.Text = true
same_type data-type.Text data-type.Bool = false
same_type data-type.Bool data-type.Int = false
same_type data-type.Bool data-type.Text = false
same_type data-type.Bool data-type.Bool = true

-- "NULL not allowed 2, type 1": `validate_value_for_bound_column`
unfoldable pub value_fit : Value → BoundColumnRef → Verdict Unit
value_fit (Value.int z) c = typed_fit (same_type c.ty data-type.Int)
value_fit (Value.text s) c = typed_fit (same_type c.ty data-type.Text)
value_fit (Value.bool b) c = typed_fit (same_type c.ty data-type.Bool)
value_fit Value.null c = cond c.nullable (fine tt) (flaw ConstraintViolation)

-- one value after the other, each with its column
unfoldable pub insert_values : List BoundColumnRef → List Expr → Answer (List Value)
insert_values [] [] = given []
insert_values [] (e ∷ es) = given []
insert_values (c ∷ cs) [] = given []
insert_values (c ∷ cs) (e ∷ es) = do
  v ← insert_literal e
  judged (value_fit v c)
  vs ← insert_values cs es
  given (v ∷ vs)

unfoldable pub insert_row : List BoundColumnRef → List Expr → Answer (List Value)
insert_row cs es = refuse_if (not (eqb (length es) (length cs))) ConstraintViolation >> insert_values cs es

unfoldable pub insert_body : List BoundColumnRef → SourceBody → Answer (List (List Value))
insert_body cs not_values = refuse UnsupportedSql
insert_body cs (values explicitRow rows) = do
  refuse_if explicitRow UnsupportedSql
  refuse_if (is_empty rows) InvalidArgument
  each (insert_row cs) rows

unfoldable pub analyze_insert : Catalogue → Insert → Answer BoundStatement
analyze_insert cat i = do
  refuse_if i.modified UnsupportedSql
  name ← simple_name i.name
  t ← found (table_by_name cat name) SchemaMismatch
  refuse_if (is_empty i.columns) UnsupportedSql
  cs ← insert_columns t [] (map canonical i.columns)
  refuse_if (any (λ (c : ColumnSchema). in_key t c.id && missing (map canonical i.columns) c) t.columns) ConstraintViolation
  refuse_if (any (λ (c : ColumnSchema). not c.nullable && missing (map canonical i.columns) c) t.columns) ConstraintViolation
  source ← found i.source UnsupportedSql
  refuse_if source.clauses UnsupportedSql
  rows ← insert_body cs source.body
  given (bound_insert (record { table = bound_table t; target_columns = cs; rows = rows }))

-- ---- one table: "joins and marks 3, name, unknown 1"

unfoldable pub relation_name : Relation → Answer Text
relation_name (direct marked name) = refuse_if marked UnsupportedSql >> simple_name name
relation_name indirect = refuse UnsupportedSql

unfoldable pub resolve_direct_table : Catalogue → TableWithJoins → Answer TableSchema
resolve_direct_table cat t = do
  refuse_if t.joins UnsupportedSql
  name ← relation_name t.relation
  found (table_by_name cat name) SchemaMismatch

abbrev pub one_table : From → Answer TableWithJoins
one_table (one t) = given t
one_table not_one = refuse UnsupportedSql

-- ---- SELECT
-- "marks, not plain, marks, not one table 3; table [..]; each item: plain `*` gives all columns in order, a name (unknown 1), other 3;
-- WHERE if there."

unfoldable pub item : TableSchema → Item → Answer (List BoundColumnRef)
item t star = given (bound_columns t)
item t (column n) = found (column_by_name t (canonical n)) SchemaMismatch >>= (λ c. given (c ∷ []))
item t other_item = refuse UnsupportedSql

unfoldable pub projection : TableSchema → List Item → Answer (List BoundColumnRef)
projection t [] = given []
projection t (i ∷ is) = do
  cs ← item t i
  ds ← projection t is
  given (cs ++ ds)

abbrev pub filter_if_there : TableSchema → Option Expr → Answer (Option BoundExpr)
filter_if_there t none = given none
filter_if_there t (some e) = bind_boolean_filter t e >>= (λ x. given (some x))

abbrev pub plain_body : QueryBody → Answer Select
plain_body (plain_select s) = given s
plain_body not_plain = refuse UnsupportedSql

unfoldable pub analyze_select : Catalogue → Query → Answer BoundStatement
analyze_select cat q = do
  refuse_if q.clauses UnsupportedSql
  s ← plain_body q.body
  refuse_if s.features UnsupportedSql
  w ← one_table s.from
  t ← resolve_direct_table cat w
  cs ← projection t s.items
  x ← filter_if_there t s.condition
  given (bound_select (record { table = bound_table t; projection = cs; filter = x }))

-- ---- UPDATE
-- "marks 3; no assignments 4; table as above; no WHERE 3; each assignment: tuple or qualified 3, unknown 1, repeated 2, key column 2, the
-- value, its fit; then WHERE."

unfoldable pub target_name : Target → Answer Text
target_name (target n) = simple_name n
target_name tuple = refuse UnsupportedSql

unfoldable pub assignment : TableSchema → List ColumnId → Assignment → Answer BoundAssignment
assignment t before a = do
  name ← target_name a.target
  c ← found (column_by_name t name) SchemaMismatch
  refuse_if (any (same_id c.column_id) before) ConstraintViolation
  refuse_if (in_key t c.column_id) ConstraintViolation
  x ← bind_expression t a.value
  judged (fit (mark_of x) c)
  given (record { column = c; value = x })

-- repeats are told by the column and not by the spelling
unfoldable pub assignments : TableSchema → List ColumnId → List Assignment → Answer (List BoundAssignment)
assignments t before [] = given []
assignments t before (a ∷ rest) = do
  b ← assignment t before a
  bs ← assignments t (b.column.column_id ∷ before) rest
  given (b ∷ bs)

unfoldable pub analyze_update : Catalogue → Update → Answer BoundStatement
analyze_update cat u = do
  refuse_if u.from UnsupportedSql
  refuse_if u.returning UnsupportedSql
  refuse_if u.conflict UnsupportedSql
  refuse_if (is_empty u.assignments) InvalidArgument
  t ← resolve_direct_table cat u.table
  e ← found u.condition UnsupportedSql
  bs ← assignments t [] u.assignments
  x ← bind_boolean_filter t e
  given (bound_update (record { table = bound_table t; assignments = bs; filter = x }))

-- ---- DELETE: "marks, not one table 3; table; no WHERE 3; WHERE."

abbrev pub delete_from : DeleteFrom → Answer TableWithJoins
delete_from (from f) = one_table f
delete_from no_keyword = refuse UnsupportedSql

unfoldable pub analyze_delete : Catalogue → Delete → Answer BoundStatement
analyze_delete cat d = do
  refuse_if d.tables UnsupportedSql
  refuse_if d.using_clause UnsupportedSql
  refuse_if d.returning UnsupportedSql
  refuse_if d.order_by UnsupportedSql
  refuse_if d.limit UnsupportedSql
  w ← delete_from d.from
  t ← resolve_direct_table cat w
  e ← found d.condition UnsupportedSql
  x ← bind_boolean_filter t e
  given (bound_delete (record { table = bound_table t; filter = x }))

-- ---- "BEGIN, COMMIT, ROLLBACK, SHOW TABLES: marks 3. Other kinds 3."

unfoldable pub analyze_kind : Catalogue → Kind → Answer BoundStatement
analyze_kind cat (create_table c) = analyze_create_table cat c
analyze_kind cat (insert i) = analyze_insert cat i
analyze_kind cat (query q) = analyze_select cat q
analyze_kind cat (update u) = analyze_update cat u
analyze_kind cat (delete d) = analyze_delete cat d
analyze_kind cat (begin marked) = refuse_if marked UnsupportedSql >> given bound_begin
analyze_kind cat (commit chain) = refuse_if chain UnsupportedSql >> given bound_commit
analyze_kind cat (rollback chain savepoint) = do
  refuse_if chain UnsupportedSql
  refuse_if savepoint UnsupportedSql
  given bound_rollback
analyze_kind cat (show_tables marked) = refuse_if marked UnsupportedSql >> given bound_show_tables
analyze_kind cat other_kind = refuse UnsupportedSql

-- SHOW TRANSACTIONS by the raw text, before the kind is looked at
unfoldable pub analyze : Catalogue → Statement → Answer BoundStatement
analyze cat s = cond (is_show_transactions s.raw) (given bound_show_transactions) (analyze_kind cat s.kind)
