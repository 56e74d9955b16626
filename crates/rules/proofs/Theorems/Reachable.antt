-- Each number of the table is heard: twelve small inputs, the one at place k refused with k. So no number is promised in vain.
-- Assumes nothing.
use Rattle.std.specs.Prelude.{◌≡◌, refl, true, false, List, [], ◌∷◌, map, ℕ, pos, take, replicate}
use Rattle.std.proofs.Math.Option.{Option, none, some}
use Rattle.tree.specs.Tree.{leaf, depth}
use Rattle.rules.specs.declared.BoundBinaryOperator.TheVariants as op
use Rattle.rules.specs.Lists.{Text, ascii}
use Rattle.rules.specs.Tables.{Catalogue, table_by_name}
use Rattle.rules.specs.Statements.{ObjectName, Leaf, Expr, direct, Statement, update, begin}
use Rattle.rules.specs.Bound.{int, text, bool, BoundStatement}
use Rattle.rules.specs.Names.{canonical, simple_name, beyond_ascii}
use Rattle.rules.specs.Trimmed.{within, white1, white2, white3, width, off, without_semicolon, dispatched, is_show_transactions}
use Rattle.rules.specs.Numbers.{digits, unsigned_text, number_text, integer_literal}
use Rattle.rules.specs.Lookup.{bound_column, bound_columns_from, bound_columns, column_by_name, in_key}
use Rattle.rules.specs.Marking.{leaf_rule, operator_rule, binary_rule, bound_binary, bind_expression}
use Rattle.rules.specs.Fits.{bind_boolean_filter, fit}
use Rattle.rules.specs.Analyze.{relation_name, resolve_direct_table, target_name, assignment, assignments, analyze_update, analyze_kind, analyze}
use Rattle.rules.specs.Rows.{Row, value_obeys, columns_obeyed, row_obeys}
use Rattle.rules.specs.Evaluate.{arithmetic, operate, binary_value, leaf_value, evaluate, target_column, assigned, update_row}
use Rattle.rules.specs.Limits.{expression_names, held_by_update, held_by, held_within, table_within, statement_within, catalogue_within, names_beyond_ascii}
use Rattle.rules.specs.Heard.{Outcome, refuses, Read, judged_statement, bind_outcome, runnable, ran_statement, run_outcome}
use Rattle.rules.proofs.Theorems.Runs.{runs, unquoted, name, number, literal_null, ◌⟨◌⟩◌, setting, read}

pub record Input : Type 0 where
  pub statement : Option (Read Statement)
  pub catalogue : Option (Read Catalogue)
  pub row : Option Row
  pub room : ℕ

-- the catalogue that holds the table `runs`, a row of it, and room for the answer
abbrev known : Option (Read Catalogue)
known = read (runs ∷ [])

abbrev a_row : Option Row
a_row = some (text (ascii "A-1") ∷ int (pos 1) ∷ int (pos 5) ∷ bool true ∷ [])

abbrev asking : Option (Read Statement) → Input
asking s = record { statement = s; catalogue = known; row = a_row; room = 1 }

-- UPDATE runs SET temp = 1 WHERE ok
abbrev good : Statement
good = setting "temp" (number "1") (name "ok")

-- UPDATE runs SET WHERE ok
abbrev assigning_nothing : Statement
assigning_nothing = record {
  raw = ascii "UPDATE";
  kind =
      update
      (record {
        from = false;
        returning = false;
        conflict = false;
        table = record { joins = false; relation = direct false (ObjectName.plain (unquoted "runs")) };
        assignments = [];
        condition = some (name "ok");
      });
}

abbrev unquoted_of : Text → Expr
unquoted_of t = leaf (Leaf.name (record { quoted = false; text = t }))

abbrev beginning : Statement
beginning = record { raw = ascii "BEGIN"; kind = begin false }

abbrev pub inputs : List Input
inputs =
    -- 1: SET temp = 'a' WHERE ok
    asking (read (setting "temp" (leaf (Leaf.string (ascii "a"))) (name "ok")))
    -- 2: SET minutes = NULL WHERE ok
    ∷ asking (read (setting "minutes" literal_null (name "ok")))
    -- 3: SET temp = 1 WHERE temp = NULL
    ∷ asking (read (setting "temp" (number "1") (◌⟨◌⟩◌ (name "temp") op.Equal literal_null)))
    -- 4: no assignment
    ∷ asking (read assigning_nothing)
    -- 5: no statement image
    ∷ asking none
    -- 6: no catalogue image
    ∷ record { statement = read good; catalogue = none; row = a_row; room = 1 }
    -- 7: a name of 129 letters
    ∷ asking (read (setting "temp" (number "1") (unquoted_of (replicate 129 0x61))))
    -- 8: the unquoted name U+00E9
    ∷ asking (read (setting "temp" (number "1") (unquoted_of (0xC3 ∷ 0xA9 ∷ []))))
    -- 9: no room
    ∷ record { statement = read good; catalogue = known; row = a_row; room = 0 }
    -- 10: no row image
    ∷ record { statement = read good; catalogue = known; row = none; room = 1 }
    -- 11: SET temp = temp % 0 WHERE ok
    ∷ asking (read (setting "temp" (◌⟨◌⟩◌ (name "temp") op.Modulo (number "0")) (name "ok")))
    -- 12: BEGIN
    ∷ asking (read beginning)
    ∷ []

-- what is heard of each. An answer's image is taken to be of one byte
abbrev pub binding_of : Input → Outcome BoundStatement
binding_of i = bind_outcome (λ b. 1) i.room i.statement i.catalogue

abbrev pub running_of : Input → Outcome Row
running_of i = run_outcome (λ row. 1) i.room i.statement i.catalogue i.row

-- 1 to 9 are reached in binding, and all twelve in running
pub each_reached : (map binding_of (take 9 inputs) ≡ map refuses (1 ∷ 2 ∷ 3 ∷ 4 ∷ 5 ∷ 6 ∷ 7 ∷ 8 ∷ 9 ∷ []))
    × (map running_of inputs ≡ map refuses (1 ∷ 2 ∷ 3 ∷ 4 ∷ 5 ∷ 6 ∷ 7 ∷ 8 ∷ 9 ∷ 10 ∷ 11 ∷ 12 ∷ []))
unfolding bind_outcome judged_statement run_outcome ran_statement runnable statement_within catalogue_within held_within table_within held_by held_by_update
    expression_names names_beyond_ascii beyond_ascii depth analyze analyze_kind analyze_update resolve_direct_table relation_name assignments assignment
    target_name simple_name canonical is_show_transactions dispatched without_semicolon off width white1 white2 white3 within table_by_name column_by_name
    bound_columns bound_columns_from bound_column in_key bind_expression leaf_rule operator_rule binary_rule bound_binary integer_literal number_text
    unsigned_text digits bind_boolean_filter fit row_obeys columns_obeyed value_obeys update_row evaluate leaf_value binary_value operate arithmetic assigned
    target_column
each_reached = (refl, refl)
