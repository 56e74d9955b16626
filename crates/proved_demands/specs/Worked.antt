-- The worked examples of docs/IMAGES.md, by the definitions: the bytes are read, judged and written as that page shows.
-- Assumes nothing.
use Rattle.std.specs.Prelude.{◌≡◌, refl, true, List, [], ◌∷◌, ℕ, pos}
use Rattle.std.proofs.Math.Option.{some}
use Rattle.rules.specs.Lists.{ascii}
use Rattle.rules.specs.Bound.{int, text, bool, null}
use Rattle.rules.specs.Heard.{refuses, answers}
use Rattle.rules.proofs.Theorems.Runs.{runs}
use Rattle.tree.specs.Tree as tree-tree
use Rattle.bytes_utf8.specs.Decide as utf8-decide
use Rattle.rules.specs.Analyze as rules-analyze
use Rattle.rules.specs.Answers as rules-answers
use Rattle.rules.specs.Evaluate as rules-evaluate
use Rattle.rules.specs.Fits as rules-fits
use Rattle.rules.specs.Heard as rules-heard
use Rattle.rules.specs.Limits as rules-limits
use Rattle.rules.specs.Lookup as rules-lookup
use Rattle.rules.specs.Marking as rules-marking
use Rattle.rules.specs.Names as rules-names
use Rattle.rules.specs.Numbers as rules-numbers
use Rattle.rules.specs.Rows as rules-rows
use Rattle.rules.specs.Tables as rules-tables
use Rattle.rules.specs.Trimmed as rules-trimmed
use Rattle.image_value.specs.Parts as value-parts
use Rattle.image_catalogue.specs.Layout as catalogue-layout
use Rattle.image_row.specs.Layout as row-layout
use Rattle.image_expression.specs.Expression as expression-expression
use Rattle.image_parts.specs.Layout as statement-layout
use Rattle.image_bound.specs.Columns as bound-columns
use Rattle.image_bound.specs.Expression as bound-expression
use Rattle.image_bound.specs.Layout as bound-layout
use Rattle.op_received.specs.Entry.{bind_bytes, run_bytes, read_statement, read_catalogue}
use Rattle.proved_demands.specs.Hex.{hex}

abbrev pub catalogue_bytes : List ℕ
catalogue_bytes = hex "01008b000400140004005d000c00070000000000000003000000000000000100000072756e730400160017001400120002000a0006000400000000000000010073657269616c02000a000700090000000000000000006d696e7574657302000a0004000200000000000000000174656d7002000a000200050000000000000002006f6b010008000400000000000000"

abbrev pub statement_bytes : List ℕ
statement_bytes = hex "02002e004d005550444154452072756e7320534554206d696e75746573203d206d696e75746573202b2031205748455245206f6b030400030009002d000900000000000100010072756e730100290002000a0019000101006d696e7574657303000001000700020100080010030008006d696e7574657331010000010002006f6b"

abbrev pub bound_bytes : List ℕ
bound_bytes = hex "030300000014000000840000002b0000000700000000000000030000000000000072756e73010000007c00000002000000210000004f00000007000000000000000900000000000000010000000000000000006d696e75746573030000000000000100000021000000010000010000002a000000070000030000002a00000007000000000000000900000000000000010000000000000000006d696e7574657300010000000000000001000000000200010000001c00000007000000000000000500000000000000030000000000000002006f6b"

abbrev pub row_before : List ℕ
row_before = hex "040000000600000009000000010000000200000001412d313030002900000000000000030201"

abbrev pub row_after : List ℕ
row_after = hex "040000000600000009000000010000000200000001412d313030002a00000000000000030201"

-- The catalogue and the row are read; the UPDATE is bound, with room for exactly so many bytes, and refused with 9 where there is one less; and it
-- is run on the row.
pub worked :
    (catalogue-layout.decode catalogue_bytes ≡ some (runs ∷ []))
    × (row-layout.decode row_before ≡ some (text (ascii "A-100") ∷ int (pos 41) ∷ null ∷ bool true ∷ []))
    × (bind_bytes statement_bytes catalogue_bytes 212 ≡ answers bound_bytes)
    × (bind_bytes statement_bytes catalogue_bytes 211 ≡ refuses 9)
    × (run_bytes statement_bytes catalogue_bytes row_before 38 ≡ answers row_after)
unfolding bind_bytes run_bytes read_statement read_catalogue tree-tree.size tree-tree.depth utf8-decide.is_utf8 rules-analyze.set_nullability
    rules-analyze.option_of rules-analyze.options rules-analyze.register_key rules-analyze.data_type rules-analyze.define_column rules-analyze.define_columns
    rules-analyze.constraint rules-analyze.constraints rules-analyze.key_ids rules-analyze.analyze_create_table rules-analyze.insert_columns
    rules-analyze.insert_leaf rules-analyze.insert_literal rules-analyze.value_fit rules-analyze.insert_values rules-analyze.insert_row
    rules-analyze.insert_body rules-analyze.analyze_insert rules-analyze.relation_name rules-analyze.resolve_direct_table rules-analyze.item
    rules-analyze.projection rules-analyze.analyze_select rules-analyze.target_name rules-analyze.assignment rules-analyze.assignments
    rules-analyze.analyze_update rules-analyze.analyze_delete rules-analyze.analyze_kind rules-analyze.analyze rules-answers.each rules-evaluate.arithmetic
    rules-evaluate.text_before rules-evaluate.equal rules-evaluate.less rules-evaluate.operate rules-evaluate.binary_value rules-evaluate.unary_value
    rules-evaluate.leaf_value rules-evaluate.evaluate rules-evaluate.target_column rules-evaluate.assigned rules-evaluate.update_row
    rules-fits.bind_boolean_filter rules-fits.fit rules-heard.judged_statement rules-heard.bind_outcome rules-heard.runnable rules-heard.ran_statement
    rules-heard.run_outcome rules-limits.expression_names rules-limits.held_by_create_table rules-limits.held_by_insert rules-limits.held_by_select
    rules-limits.held_by_update rules-limits.held_by_delete rules-limits.held_by rules-limits.held_within rules-limits.table_within
    rules-limits.statement_within rules-limits.catalogue_within rules-limits.names_beyond_ascii rules-lookup.bound_table rules-lookup.bound_column
    rules-lookup.bound_columns_from rules-lookup.bound_columns rules-lookup.column_by_name rules-lookup.in_key rules-marking.leaf_rule rules-marking.sign
    rules-marking.leaf_number rules-marking.number_in rules-marking.signed_number rules-marking.unary_rule rules-marking.operator_rule
    rules-marking.operator_table rules-marking.binary_rule rules-marking.marking rules-marking.bound_unary rules-marking.bound_binary
    rules-marking.bind_expression rules-names.canonical rules-names.simple_name rules-names.beyond_ascii rules-numbers.digits rules-numbers.unsigned_text
    rules-numbers.number_text rules-numbers.integer_literal rules-rows.value_obeys rules-rows.columns_obeyed rules-rows.row_obeys rules-tables.table_by_name
    rules-tables.sound_table rules-tables.sound rules-trimmed.within rules-trimmed.white1 rules-trimmed.white2 rules-trimmed.white3 rules-trimmed.width
    rules-trimmed.off rules-trimmed.without_semicolon rules-trimmed.dispatched rules-trimmed.is_show_transactions value-parts.value
    value-parts.column_schema catalogue-layout.table catalogue-layout.catalogue catalogue-layout.encode catalogue-layout.decode row-layout.row
    row-layout.encode row-layout.decode expression-expression.expression statement-layout.name statement-layout.object_name statement-layout.option
    statement-layout.column_definition statement-layout.constraint statement-layout.create statement-layout.source_body statement-layout.source
    statement-layout.insertion statement-layout.relation statement-layout.table_with_joins statement-layout.item statement-layout.select_from
    statement-layout.select statement-layout.query_body statement-layout.selection statement-layout.assignment_target statement-layout.assignment
    statement-layout.updating statement-layout.delete_from statement-layout.deletion statement-layout.kind statement-layout.statement
    statement-layout.encode statement-layout.decode bound-columns.bound_table_ref bound-columns.bound_column_ref bound-expression.bound_expression
    bound-layout.create_table bound-layout.insert bound-layout.select bound-layout.assignment bound-layout.update bound-layout.delete
    bound-layout.bound_statement bound-layout.encode bound-layout.decode
worked = (refl, refl, refl, refl, refl)
