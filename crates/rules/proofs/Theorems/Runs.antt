-- "Runs table: proved cases": the fourteen rows of paper 01 as one list, and the one statement that each is answered as the paper says.
-- Assumes nothing.
use Rattle.std.specs.Prelude.{◌≡◌, refl, true, false, List, [], ◌∷◌, map, ℕ, ◌^◌, ◌-◌, pos, negsuc}
use Rattle.std.proofs.Math.Option.{Option, some}
use Prim.Native.String.{String}
use Rattle.tree.specs.Tree.{leaf, un, bin, depth}
use Rattle.rules.specs.declared.DataType.TheVariants as data-type
use Rattle.rules.specs.declared.BoundUnaryOperator.TheVariants.{Negative}
use Rattle.rules.specs.declared.BoundBinaryOperator.{BoundBinaryOperator}
use Rattle.rules.specs.declared.BoundBinaryOperator.TheVariants as op
use Rattle.rules.specs.Lists.{ascii}
use Rattle.rules.specs.Answers.{each}
use Rattle.rules.specs.Tables.{TableSchema, table_by_name}
use Rattle.rules.specs.Statements.{Name, ObjectName, Leaf, Expr, parentheses, null_test, unary, binary, direct, target, Statement, update}
use Rattle.rules.specs.Bound.{Value, int, text, bool, null, BoundStatement}
use Rattle.rules.specs.Names.{canonical, simple_name, beyond_ascii}
use Rattle.rules.specs.Trimmed.{within, white1, white2, white3, width, off, without_semicolon, dispatched, is_show_transactions}
use Rattle.rules.specs.Numbers.{digits, unsigned_text, number_text, integer_literal}
use Rattle.rules.specs.Lookup.{bound_table, bound_column, bound_columns_from, bound_columns, column_by_name, in_key}
use Rattle.rules.specs.Marking.{leaf_rule, sign, leaf_number, number_in, signed_number, unary_rule, operator_rule, binary_rule, bound_unary, bound_binary, bind_expression}
use Rattle.rules.specs.Fits.{bind_boolean_filter, fit}
use Rattle.rules.specs.Analyze.{relation_name, resolve_direct_table, target_name, assignment, assignments, analyze_update, analyze_kind, analyze}
use Rattle.rules.specs.Rows.{Row, value_obeys, columns_obeyed, row_obeys}
use Rattle.rules.specs.Evaluate.{
  arithmetic,
  text_before,
  equal,
  less,
  operate,
  binary_value,
  unary_value,
  leaf_value,
  evaluate,
  target_column,
  assigned,
  update_row,
  at,
}
use Rattle.rules.specs.Limits.{expression_names, held_by_update, held_by, held_within, table_within, statement_within, catalogue_within, names_beyond_ascii}
use Rattle.rules.specs.Heard.{Outcome, refuses, answers, Read, judged_statement, runnable, ran_statement}

-- "Table `runs`, id 7, version 3: `serial` TEXT (id 4, key), `minutes` INT NOT NULL (id 9), `temp` INT nullable (id 2), `ok` BOOL NOT NULL
-- (id 5)."
abbrev pub runs : TableSchema
runs = record {
  id = record { 0 = 7 };
  name = ascii "runs";
  columns =
      record { id = record { 0 = 4 }; name = ascii "serial"; ty = data-type.Text; nullable = false }
      ∷ record { id = record { 0 = 9 }; name = ascii "minutes"; ty = data-type.Int; nullable = false }
      ∷ record { id = record { 0 = 2 }; name = ascii "temp"; ty = data-type.Int; nullable = true }
      ∷ record { id = record { 0 = 5 }; name = ascii "ok"; ty = data-type.Bool; nullable = false }
      ∷ [];
  key = record { 0 = 4 } ∷ [];
  version = 3;
  tablets = 1;
}

-- ---- how the trees are written here

abbrev pub unquoted : String → Name
unquoted s = record { quoted = false; text = ascii s }

abbrev pub name : String → Expr
name s = leaf (Leaf.name (unquoted s))

abbrev pub number : String → Expr
number s = leaf (Leaf.number (ascii s))

abbrev pub string : String → Expr
string s = leaf (Leaf.string (ascii s))

abbrev pub literal_null : Expr
literal_null = leaf Leaf.null

abbrev pub literal_true : Expr
literal_true = leaf (Leaf.boolean true)

infixl 80 ◌⟨◌⟩◌
abbrev pub ◌⟨◌⟩◌ : Expr → BoundBinaryOperator → Expr → Expr
a ⟨ o ⟩ b = bin (binary o) a b

-- `UPDATE runs SET column = value WHERE condition`; the raw text is not that of SHOW TRANSACTIONS
abbrev pub setting : String → Expr → Expr → Statement
setting c v w = record {
  raw = ascii "UPDATE";
  kind =
      update
      (record {
        from = false;
        returning = false;
        conflict = false;
        table = record { joins = false; relation = direct false (ObjectName.plain (unquoted "runs")) };
        assignments = record { target = target (ObjectName.plain (unquoted c)); value = v } ∷ [];
        condition = some w;
      });
}

-- ---- what is asked, and what the paper answers

pub data Answered : Type 0 where
  binds : Answered
  is : ℕ → Answered
  temp : Value → Answered

pub data Asked : Type 0 where
  bind : Statement → Asked
  run : Statement → (temp : Value) → Asked

abbrev pub read : {A : Type 0} → A → Option (Read A)
read a = some (record { value = a; size = 0 })

abbrev pub bound : Outcome BoundStatement → Answered
bound (refuses k) = is k
bound (answers b) = binds

-- the new row's `temp`, at position 2
abbrev pub ran : Outcome Row → Answered
ran (refuses k) = is k
ran (answers row) = temp (at row (record { 0 = 2 }))

abbrev pub answer : Asked → Answered
answer (bind s) = bound (judged_statement (read s) (read (runs ∷ [])))
answer (run s v) = ran (ran_statement (read s) (read (runs ∷ [])) (some (text (ascii "A-1") ∷ int (pos 1) ∷ v ∷ bool true ∷ [])))

pub record Case : Type 0 where
  pub asked : Asked
  pub answered : Answered

infix 70 ◌gives◌
abbrev pub ◌gives◌ : Asked → Answered → Case
q gives a = record { asked = q; answered = a }

abbrev pub binding : String → Expr → Expr → Asked
binding c v w = bind (setting c v w)

abbrev pub least_int : Value
least_int = int (negsuc (2 ^ 63 - 1))

abbrev pub minus : Expr → Expr
minus e = un (unary Negative) e

-- the rows of the table; the last two ask twice
abbrev pub cases : List (List Case)
cases =
    (binding "minutes" (name "minutes" ⟨ op.Add ⟩ number "1") (name "ok") gives binds ∷ [])
    ∷ (binding "minutes" (name "temp" ⟨ op.Add ⟩ number "1") (name "ok") gives is 2 ∷ [])
    ∷ (binding "temp" literal_null (un (null_test true) (name "temp")) gives binds ∷ [])
    ∷ (binding "minutes" literal_null (name "ok") gives is 2 ∷ [])
    ∷ (binding "temp" (string "a") (name "ok") gives is 1 ∷ [])
    ∷ (binding "temp" (number "1") (name "temp" ⟨ op.Equal ⟩ literal_null) gives is 3 ∷ [])
    ∷ (binding "temp" (number "1") literal_null gives is 1 ∷ [])
    ∷ (binding "temp" (number "1") (name "ok" ⟨ op.LessThan ⟩ literal_true) gives is 1 ∷ [])
    ∷ (binding "temp" (number "1") (literal_null ⟨ op.Equal ⟩ name "nosuch") gives is 1 ∷ [])
    ∷ (binding "temp" (minus (number "9223372036854775808")) (name "ok") gives binds ∷ [])
    ∷ (binding "temp" (minus (un parentheses (number "9223372036854775808"))) (name "ok") gives is 1 ∷ [])
    ∷ (binding "serial" (string "x") (name "ok") gives is 2 ∷ [])
    ∷ (run (setting "temp" (name "temp" ⟨ op.Modulo ⟩ number "0") (name "ok")) null gives temp null
    ∷ run (setting "temp" (name "temp" ⟨ op.Modulo ⟩ number "0") (name "ok")) (int (pos 5)) gives is 11
    ∷ [])
    ∷ (run (setting "temp" (name "temp" ⟨ op.Modulo ⟩ minus (number "1")) (name "ok")) least_int gives temp (int (pos 0))
    ∷ run (setting "temp" (name "temp" ⟨ op.Divide ⟩ minus (number "1")) (name "ok")) least_int gives is 11
    ∷ [])
    ∷ []

-- each row is answered as the paper says
pub runs_table : map (map (λ (c : Case). answer c.asked)) cases ≡ map (map (λ (c : Case). c.answered)) cases
unfolding judged_statement ran_statement runnable statement_within catalogue_within held_within table_within held_by held_by_update expression_names
    names_beyond_ascii beyond_ascii depth analyze analyze_kind analyze_update resolve_direct_table relation_name assignments assignment target_name simple_name
    canonical is_show_transactions dispatched without_semicolon off width white1 white2 white3 within table_by_name column_by_name bound_columns
    bound_columns_from bound_column bound_table in_key bind_expression leaf_rule signed_number sign leaf_number number_in unary_rule operator_rule binary_rule
    bound_unary bound_binary integer_literal number_text unsigned_text digits bind_boolean_filter fit row_obeys columns_obeyed value_obeys update_row evaluate
    leaf_value unary_value binary_value operate arithmetic equal less text_before assigned target_column each
runs_table = refl
