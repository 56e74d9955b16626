-- The columns of a CREATE TABLE one by one: what is judged of a column by itself, and the column that is made of it.
-- Assumes nothing.
use Rattle.std.specs.Prelude.{◌≡◌, refl, Bool, true, false, not, cond, ◌&&◌, List, [], ◌∷◌, ◌++◌, map, ℕ, ◌+◌, ◌*◌, length}
use Rattle.std.proofs.Common.{ap, ◌∙◌, arith, length-append}
use Rattle.std.proofs.Math.Option.{Option, none, some}
use Rattle.rules.specs.declared.Class.TheVariants.{SchemaMismatch, ConstraintViolation, UnsupportedSql}
use Rattle.rules.specs.declared.ColumnId.{ColumnId}
use Rattle.rules.specs.declared.DataType.{DataType}
use Rattle.rules.specs.declared.DataType.TheVariants as data-type
use Rattle.rules.specs.Lists.{Text, is_some, is_empty, any, find}
use Rattle.rules.specs.Answers.{Answer, given, refused, refuse_if, found, ◌>>=◌, ◌>>◌}
use Rattle.rules.specs.Tables.{ColumnSchema, Catalogue, same_id, column_named}
use Rattle.rules.specs.Statements.{ColumnType, known, other_type, ColumnOption, ColumnDefinition, CreateTable}
use Rattle.rules.specs.Names.{canonical}
use Rattle.rules.proofs.Theorems.Answered.{never_given, bind_given}
use Rattle.rules.specs.Bound.{BoundStatement, bound_create_table}
use Rattle.rules.specs.Analyze.{
  OptionState,
  no_options,
  option_of,
  options,
  said_null,
  said_not_null,
  Definition,
  register_key,
  register_inline,
  data_type,
  column_of,
  define_column,
  define_columns,
  constraints,
  key_ids,
  outside_null,
  analyze_create_table,
}
use Rattle.bind_table.specs.Steps.{steps_joined}
use Rattle.bind_table.specs.Tables.{new_name, new_joined, canonical_length}
use Rattle.bytes_format.proofs.Formats.{list_of}
use Rattle.image_value.specs.Parts.{column_schema}
use Rattle.image_bound.specs.Layout.{bound_statement}
use Rattle.image_bound.specs.Spelt.{column_length, ids_length}
use Rattle.image_bound.specs.Sizes.{no_parts_length, more_parts_length, create_table_length}

-- ---- one option

abbrev pub one_option : OptionState → ColumnOption → Answer OptionState
one_option s o = refuse_if o.named UnsupportedSql >> option_of s o.kind

pub options_next : (s : OptionState) (o : ColumnOption) (os : List ColumnOption) → options s (o ∷ os) ≡ (one_option s o >>= (λ r. options r os))
unfolding options
options_next s o os = go o.named
  where
    go : (b : Bool) → (refuse_if b UnsupportedSql >> (option_of s o.kind >>= (λ r. options r os))) ≡ ((refuse_if b UnsupportedSql >> option_of s o.kind) >>= (λ r. options r os))
    go true = refl
    go false = refl

pub options_done : (s : OptionState) → options s [] ≡ given s
unfolding options
options_done s = refl

-- ---- one column by itself

-- behind its options; `keyed`: there is a key already. The answer: whether the column is the key
abbrev pub finish_column : Bool → OptionState → ColumnDefinition → Answer Bool
finish_column keyed o c = do
  refuse_if (o.key && said_null o.nullability) ConstraintViolation
  refuse_if (o.key && keyed) ConstraintViolation
  t ← data_type c.ty
  given o.key

-- `repeated`: its name was there already
abbrev pub judge_column : Bool → Bool → ColumnDefinition → Answer Bool
judge_column repeated keyed c = do
  refuse_if c.collation UnsupportedSql
  refuse_if repeated ConstraintViolation
  o ← options no_options c.options
  finish_column keyed o c

-- ---- the columns that are made

abbrev pub stated : Answer OptionState → OptionState
stated (given o) = o
stated (refused r) = no_options

abbrev pub typed : ColumnType → DataType
typed (known t) = t
typed other_type = data-type.Int

abbrev pub may_be_null : OptionState → Bool
may_be_null o = not o.key && not (said_not_null o.nullability)

-- column i, counted from 0, where nothing of it is refused
unfoldable pub schema : ℕ → ColumnDefinition → ColumnSchema
schema i c = record {
  id = record { 0 = i + 1 };
  name = canonical c.name;
  ty = typed c.ty;
  nullable = may_be_null (stated (options no_options c.options));
}

unfoldable pub schemas : ℕ → List ColumnDefinition → List ColumnSchema
schemas i [] = []
schemas i (c ∷ cs) = schema i c ∷ schemas (i + 1) cs

abbrev pub definition : List ColumnSchema → Option (List Text) → Definition
definition cs key = record { columns = cs; key = key }

-- one column more; `k`: it is the key
abbrev pub grown : Definition → ColumnDefinition → Bool → Definition
grown d c k = definition (d.columns ++ (schema (length d.columns) c ∷ [])) (cond k (some (canonical c.name ∷ [])) d.key)

-- a column is judged by itself and by what was there before
pub define_judged : (d : Definition) (c : ColumnDefinition)
    → define_column d c (canonical c.name)
    ≡ (judge_column (any (column_named (canonical c.name)) d.columns) (is_some d.key) c >>= (λ k. given (grown d c k)))
unfolding define_column schema register_key data_type
define_judged d c = go c.collation (any (column_named (canonical c.name)) d.columns) (options no_options c.options)
  where
    last : (k : Bool) (n : Option Bool) (key : Option (List Text)) (t : ColumnType)
        → (refuse_if (k && said_null n) ConstraintViolation >> (register_inline k key (canonical c.name) >>= (λ m. data_type t >>= (λ y. given (definition (d.columns ++ (column_of d (canonical c.name) (record { nullability = n; key = k }) y ∷ [])) m)))))
        ≡ ((refuse_if (k && said_null n) ConstraintViolation >> (refuse_if (k && is_some key) ConstraintViolation >> (data_type t >>= (λ y. given k))))
        >>= (λ b. given (definition (d.columns ++ (column_of d (canonical c.name) (record { nullability = n; key = k }) (typed t) ∷ [])) (cond b (some (canonical c.name ∷ [])) key))))
    last true (some true) key t = refl
    last true none none (known t) = refl
    last true none none other_type = refl
    last true none (some m) t = refl
    last true (some false) none (known t) = refl
    last true (some false) none other_type = refl
    last true (some false) (some m) t = refl
    last false n key (known t) = refl
    last false n key other_type = refl

    go : (b r : Bool) (a : Answer OptionState)
        → (refuse_if b UnsupportedSql >> (refuse_if r ConstraintViolation >> (a >>= (λ o.
        refuse_if (o.key && said_null o.nullability) ConstraintViolation >> (register_inline o.key d.key (canonical c.name) >>= (λ m. data_type c.ty >>= (λ t.
        given (definition (d.columns ++ (column_of d (canonical c.name) o t ∷ [])) m))))))))
        ≡ ((refuse_if b UnsupportedSql >> (refuse_if r ConstraintViolation >> (a >>= (λ o. finish_column (is_some d.key) o c))))
        >>= (λ k. given (definition (d.columns ++ (column_of d (canonical c.name) (stated a) (typed c.ty) ∷ [])) (cond k (some (canonical c.name ∷ [])) d.key))))
    go true r a = refl
    go false true a = refl
    go false false (refused q) = refl
    go false false (given o) = last o.key o.nullability d.key c.ty

pub columns_next : (d : Definition) (c : ColumnDefinition) (cs : List ColumnDefinition)
    → define_columns d (c ∷ cs) ≡ (define_column d c (canonical c.name) >>= (λ e. define_columns e cs))
unfolding define_columns
columns_next d c cs = refl

pub columns_done : (d : Definition) → define_columns d [] ≡ given d
unfolding define_columns
columns_done d = refl

-- ---- a list of columns that are made

pub schemas_last : (i : ℕ) (cs : List ColumnDefinition) (c : ColumnDefinition) → schemas i (cs ++ (c ∷ [])) ≡ schemas i cs ++ (schema (i + length cs) c ∷ [])
unfolding schemas
schemas_last i [] c = let e : i ≡ i + 0 = omega arith in ap (λ (k : ℕ). schema k c ∷ []) e
schemas_last i (b ∷ cs) c =
    let e : i + 1 + length cs ≡ i + length (b ∷ cs) = omega arith in
    ap (λ (l : List ColumnSchema). schema i b ∷ l) (schemas_last (i + 1) cs c ∙ ap (λ (k : ℕ). schemas (i + 1) cs ++ (schema k c ∷ [])) e)

pub schemas_length : (i : ℕ) (cs : List ColumnDefinition) → length (schemas i cs) ≡ length cs
unfolding schemas
schemas_length i [] = refl
schemas_length i (c ∷ cs) = omega (arith, schemas_length (i + 1) cs)

-- ---- what is done once the columns are read

-- the ids of the key's columns, where a key was given
abbrev pub key_of : List ColumnSchema → Option (List Text) → Answer (List ColumnId)
key_of cs key = found key ConstraintViolation >>= (λ names. key_ids cs [] names)

abbrev pub created : Text → List ColumnSchema → List ColumnId → BoundStatement
created name cs ids = bound_create_table (record { table_name = name; columns = map (outside_null ids) cs; key = ids })

abbrev pub key_table : Text → List ColumnSchema → Option (List Text) → Answer BoundStatement
key_table name cs key = do
  names ← found key ConstraintViolation
  ids ← key_ids cs [] names
  given (created name cs ids)

pub key_joined : (name : Text) (cs : List ColumnSchema) (key : Option (List Text)) → key_table name cs key ≡ (key_of cs key >>= (λ ids. given (created name cs ids)))
key_joined name cs key = steps_joined (found key ConstraintViolation) (key_ids cs []) (λ ids. given (created name cs ids))

-- behind the name
abbrev pub define_table : CreateTable → Text → Answer BoundStatement
define_table c name = do
  refuse_if (is_empty c.columns) ConstraintViolation
  d ← define_columns (definition [] none) c.columns
  key ← constraints d.key c.constraints
  key_table name d.columns key

pub create_steps : (cat : Catalogue) (c : CreateTable)
    → analyze_create_table cat c
    ≡ (refuse_if c.if_not_exists UnsupportedSql >> (refuse_if c.as_query UnsupportedSql >> (refuse_if c.other_feature UnsupportedSql
    >> (new_name cat c.name >>= define_table c))))
unfolding analyze_create_table
create_steps cat c =
    ap (λ (a : Answer BoundStatement). refuse_if c.if_not_exists UnsupportedSql >> (refuse_if c.as_query UnsupportedSql >> (refuse_if c.other_feature UnsupportedSql >> a)))
    (new_joined cat c.name (define_table c))

-- a key's ids are as many as its names
pub keys_length : (cs : List ColumnSchema) (before : List ColumnId) (ns : List Text) {ids : List ColumnId} → key_ids cs before ns ≡ given ids → length ids ≡ length before + length ns
unfolding key_ids
keys_length cs before [] {ids} e = let z : before ≡ ids = cc in omega (arith, ap length z)
keys_length cs before (n ∷ ns) {ids} e =
    let a = bind_given (found (find (column_named n) cs) SchemaMismatch) (λ c. refuse_if (any (same_id c.id) before) ConstraintViolation >> key_ids cs (before ++ (c.id ∷ [])) ns) ids e in
    go a.0 (any (same_id a.0.id) before) (λ h. keys_length cs (before ++ (a.0.id ∷ [])) ns h) a.2
  where
    go : (c : ColumnSchema) (b : Bool) → (key_ids cs (before ++ (c.id ∷ [])) ns ≡ given ids → length ids ≡ length (before ++ (c.id ∷ [])) + length ns)
        → (refuse_if b ConstraintViolation >> key_ids cs (before ++ (c.id ∷ [])) ns) ≡ given ids → length ids ≡ length before + length (n ∷ ns)
    go c true f e = absurd (never_given e)
    go c false f e = omega (arith, f e, length-append before (c.id ∷ []))

-- ---- how long the list of the columns is

name_length : (i : ℕ) (c : ColumnDefinition) → length (schema i c).name ≡ length c.name.text
unfolding schema
name_length i c = canonical_length c.name

unfoldable pub room_for : List ColumnDefinition → ℕ
room_for [] = 4
room_for (c ∷ cs) = 26 + length c.name.text + room_for cs

pub room_is : (ids : List ColumnId) (i : ℕ) (cs : List ColumnDefinition) → length ((list_of 4 (column_schema 4)).write (map (outside_null ids) (schemas i cs))) ≡ room_for cs
unfolding room_for schemas
room_is ids i [] = no_parts_length (column_schema 4)
room_is ids i (c ∷ cs) =
    more_parts_length (column_schema 4) (outside_null ids (schema i c)) (map (outside_null ids) (schemas (i + 1) cs))
    ∙ omega (arith, column_length (outside_null ids (schema i c)), name_length i c, room_is ids (i + 1) cs)

-- ---- how long the whole is

pub created_size : (t : Text) (cs : List ColumnDefinition) (ids : List ColumnId)
    → length (bound_statement.write (created t (schemas 0 cs) ids)) ≡ 17 + length t + room_for cs + (4 + 12 * length ids)
created_size t cs ids =
    create_table_length (record { table_name = t; columns = map (outside_null ids) (schemas 0 cs); key = ids })
    ∙ omega (arith, room_is ids 0 cs, ids_length ids)
