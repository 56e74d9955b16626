-- "Errors a translator is drawn to": the paper's examples, each answered as it says.
-- Assumes nothing.
use Rattle.std.specs.Prelude.{◌≡◌, refl, true, false, List, [], ◌∷◌, map}
use Rattle.std.proofs.Math.Option.{none, some}
use Prim.Native.String.{String}
use Rattle.tree.specs.Tree.{leaf, bin, depth}
use Rattle.rules.specs.declared.DataType.TheVariants as data-type
use Rattle.rules.specs.declared.ExpressionType.TheVariants as type
use Rattle.rules.specs.declared.BoundBinaryOperator.TheVariants as op
use Rattle.rules.specs.Lists.{ascii}
use Rattle.rules.specs.Answers.{given, each}
use Rattle.rules.proofs.Theorems.Answered.{mapped}
use Rattle.rules.specs.Tables.{table_by_name}
use Rattle.rules.specs.Statements.{Name, ObjectName, Leaf, Expr, binary, other_binary, ColumnType, known, other_type, OptionKind, option_null, option_key, other_option, ColumnDefinition, Constraint, primary_key, direct, target, Assignment, Kind, create_table, insert, update, other_kind, Statement}
use Rattle.rules.specs.Bound.{BoundStatement, bound_create_table}
use Rattle.rules.specs.Names.{canonical, simple_name, beyond_ascii}
use Rattle.rules.specs.Trimmed.{within, white1, white2, white3, width, off, without_semicolon, dispatched, is_show_transactions}
use Rattle.rules.specs.Numbers.{digits, unsigned_text, number_text, integer_literal}
use Rattle.rules.specs.Lookup.{mark, bound_table, bound_column, bound_columns_from, bound_columns, column_by_name, in_key}
use Rattle.rules.specs.Marking.{
  leaf_rule,
  sign,
  leaf_number,
  number_in,
  signed_number,
  unary_rule,
  operator_rule,
  binary_rule,
  bound_unary,
  bound_binary,
  bind_expression,
  root_mark,
  marking,
}
use Rattle.rules.specs.Fits.{bind_boolean_filter, fit}
use Rattle.rules.specs.Analyze.{
  set_nullability,
  option_of,
  options,
  register_key,
  data_type,
  define_column,
  define_columns,
  constraint,
  constraints,
  key_ids,
  analyze_create_table,
  insert_columns,
  analyze_insert,
  relation_name,
  resolve_direct_table,
  target_name,
  assignment,
  assignments,
  analyze_update,
  analyze_kind,
  analyze,
}
use Rattle.rules.specs.Limits.{expression_names, held_by_create_table, held_by_insert, held_by_update, held_by, held_within, table_within, statement_within, catalogue_within, names_beyond_ascii}
use Rattle.rules.specs.Heard.{judged_statement}
use Rattle.rules.proofs.Theorems.Runs.{runs, unquoted, name, number, ◌⟨◌⟩◌, Answered, binds, is, read, bound}

-- ---- how the statements are written here

abbrev pub saying : Kind → Statement
saying k = record { raw = ascii "a statement"; kind = k }

abbrev pub column_with : String → ColumnType → List OptionKind → ColumnDefinition
column_with s t ks = record {
  collation = false;
  name = unquoted s;
  options = map (λ (k : OptionKind). record { named = false; kind = k }) ks;
  ty = t;
}

abbrev pub key_of : String → Constraint
key_of s = primary_key false (unquoted s ∷ [])

-- CREATE TABLE t (..)
abbrev pub creating : List ColumnDefinition → List Constraint → Statement
creating cs ks =
    saying
    (create_table
    (record { if_not_exists = false; as_query = false; other_feature = false; name = ObjectName.plain (unquoted "t"); columns = cs; constraints = ks }))

-- UPDATE runs SET .. WHERE ok
abbrev pub set_to : Name → Expr → Assignment
set_to n e = record { target = target (ObjectName.plain n); value = e }

abbrev pub updating : List Assignment → Expr → Statement
updating changes w =
    saying
    (update
    (record {
      from = false;
      returning = false;
      conflict = false;
      table = record { joins = false; relation = direct false (ObjectName.plain (unquoted "runs")) };
      assignments = changes;
      condition = some w;
    }))

-- INSERT INTO runs (..), with no source
abbrev pub inserting : List String → Statement
inserting cs = saying (insert (record { modified = false; name = ObjectName.plain (unquoted "runs"); columns = map unquoted cs; source = none }))

abbrev pub int : ColumnType
int = known data-type.Int

abbrev pub quoted : String → Name
quoted s = record { quoted = true; text = ascii s }

-- ---- the cases

pub record Judged : Type 0 where
  pub statement : Statement
  pub answered : Answered

infix 70 ◌answers◌
abbrev pub ◌answers◌ : Statement → Answered → Judged
s answers a = record { statement = s; answered = a }

abbrev pub cases : List Judged
cases =
    -- a INT NULL, PRIMARY KEY (a); a INT NULL PRIMARY KEY; a INT PRIMARY KEY PRIMARY KEY; a INT NULL PRIMARY KEY UNIQUE
    creating (column_with "a" int (option_null ∷ []) ∷ []) (key_of "a" ∷ []) answers binds
    ∷ creating (column_with "a" int (option_null ∷ option_key ∷ []) ∷ []) [] answers is 2
    ∷ creating (column_with "a" int (option_key ∷ option_key ∷ []) ∷ []) [] answers binds
    ∷ creating (column_with "a" int (option_null ∷ option_key ∷ other_option ∷ []) ∷ []) [] answers is 3
    -- the second key before the type: a INT PRIMARY KEY, b UUID PRIMARY KEY
    ∷ creating (column_with "a" int (option_key ∷ []) ∷ column_with "b" other_type (option_key ∷ []) ∷ []) [] answers is 2
    -- operands before the operator: minutes = nosuch || 1, and minutes = 1 || 1
    ∷ updating (set_to (unquoted "minutes") (bin other_binary (name "nosuch") (number "1")) ∷ []) (name "ok") answers is 1
    ∷ updating (set_to (unquoted "minutes") (bin other_binary (number "1") (number "1")) ∷ []) (name "ok") answers is 3
    -- FALSE AND temp > 1 may be null
    ∷ updating (set_to (unquoted "ok") (leaf (Leaf.boolean false) ⟨ op.And ⟩ bin (binary op.GreaterThan) (name "temp") (number "1")) ∷ []) (name "ok")
    answers is 2
    -- repeats go by the column: Temp and temp are one, "Temp" is another name
    ∷ updating (set_to (unquoted "Temp") (number "1") ∷ set_to (unquoted "temp") (number "2") ∷ []) (name "ok") answers is 2
    ∷ updating (set_to (quoted "Temp") (number "1") ∷ []) (name "ok") answers is 1
    -- a repeat is reported in its turn
    ∷ inserting ("nosuch" ∷ "temp" ∷ "temp" ∷ []) answers is 1
    ∷ inserting ("temp" ∷ "temp" ∷ "nosuch" ∷ []) answers is 2
    -- show transactions ; is it, whatever the kind; with ;; or two inner spaces it isn't
    ∷ record { raw = ascii " Show Transactions ; "; kind = other_kind } answers binds
    ∷ record { raw = ascii "SHOW TRANSACTIONS;;"; kind = other_kind } answers is 3
    ∷ record { raw = ascii "SHOW  TRANSACTIONS"; kind = other_kind } answers is 3
    ∷ []

pub drawn : map (λ (c : Judged). bound (judged_statement (read c.statement) (read (runs ∷ [])))) cases ≡ map (λ (c : Judged). c.answered) cases
unfolding judged_statement statement_within catalogue_within held_within table_within held_by held_by_create_table held_by_insert held_by_update expression_names
    names_beyond_ascii beyond_ascii depth analyze analyze_kind analyze_create_table define_columns define_column options option_of set_nullability register_key
    data_type constraints constraint key_ids analyze_insert insert_columns analyze_update resolve_direct_table relation_name assignments assignment target_name
    simple_name canonical is_show_transactions dispatched without_semicolon off width white1 white2 white3 within table_by_name column_by_name bound_columns
    bound_columns_from bound_column bound_table in_key bind_expression leaf_rule signed_number sign leaf_number number_in unary_rule operator_rule binary_rule
    bound_unary bound_binary integer_literal number_text unsigned_text digits bind_boolean_filter fit each
drawn = refl

-- `a INT NULL, PRIMARY KEY (a)` binds "with a not nullable"
abbrev pub created_a : BoundStatement
created_a =
    bound_create_table
    (record {
      table_name = ascii "t";
      columns = record { id = record { 0 = 1 }; name = ascii "a"; ty = data-type.Int; nullable = false } ∷ [];
      key = record { 0 = 1 } ∷ [];
    })

pub key_is_not_nullable : analyze [] (creating (column_with "a" int (option_null ∷ []) ∷ []) (key_of "a" ∷ [])) ≡ given created_a
unfolding analyze analyze_kind analyze_create_table define_columns define_column options option_of set_nullability register_key data_type constraints constraint
    key_ids simple_name canonical is_show_transactions dispatched without_semicolon off width white1 white2 white3 within table_by_name
key_is_not_nullable = refl

-- `FALSE AND temp > 1` is a BOOL that may be null
pub may_be_null_lem : mapped root_mark (marking runs (leaf (Leaf.boolean false) ⟨ op.And ⟩ bin (binary op.GreaterThan) (name "temp") (number "1")))
    ≡ given (mark type.Bool true)
unfolding marking leaf_rule column_by_name bound_columns bound_columns_from bound_column canonical operator_rule binary_rule integer_literal number_text unsigned_text digits
may_be_null_lem = refl
