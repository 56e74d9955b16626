-- `catalogue_limits::is_table_within` meets its contract. Behind each test, those that are left decide.
use Prim.Native.Nat.{ℕ}
use Rattle.bytes_bundle.specs.Decides.{Decides, stop, on, last, failed, passed}
use Rattle.bytes_bundle.specs.Held.{Holds, Is, is_held, held, list_bundle}
use Rattle.image_catalogue.specs.Layout.{table}
use Rattle.catalogue_limits.specs.Within.{column_within, count_within, table_within_tests, table_within_decided}
use Rattle.bytes_format.proofs.Formats.{alone, list_of}
use Rattle.rules.specs.Limits.{at_most, name_within, table_within}
use Rattle.rules.specs.Lists.{all}
use Rattle.rules.specs.Tables.{TableSchema}
use Rattle.image_value.specs.Parts.{column_id, column_schema}
use native.Mathlib.Omega.{arith}
use borrow.Author.Rules.{rules}
use borrow.Author.Tests.{le-leb, lt-leb}
use lib.ListN.{length, drop}
use mathlib.Core.Path.{◌≡◌, sym, ap, ◌∙◌}
use Rattle.catalogue_limits.proofs.is_table_within.Goals.{After-columns-list}
use Rattle.catalogue_limits.proofs.is_table_within.Goals.{After-key}
use Rattle.catalogue_limits.proofs.is_table_within.Goals.{After-table_name-name}
use Rattle.catalogue_limits.proofs.is_table_within.Goals.{After-parts}
use Rattle.catalogue_limits.proofs.is_table_within.Goals.{After-are_columns_within}
use Rattle.catalogue_limits.proofs.is_table_within.Goals.{Else-name-gt128}
use Rattle.catalogue_limits.proofs.is_table_within.Goals.{Else-not-are_columns_within}
use Rattle.std.proofs.Common.{not}
use Rattle.catalogue_limits.proofs.is_table_within.Goals as goal

-- the tests but the first k
abbrev Left : ℕ → TableSchema → Type 0
Left k v = Decides (table_within v) (drop k (table_within_tests v))

list : (c : After-columns-list) → Is (list_of 2 (column_schema 2)) c.columns-list.result.now
list c = held c.requires (λ v h. is_held {f = list_of 2 (column_schema 2)} (c.columns-list.ensures v h))

ids : (c : After-key) → Is (list_of 2 (alone column_id)) c.key.result.now
ids c = held c.requires (λ v h. is_held {f = list_of 2 (alone column_id)} (c.key.ensures v h))

name_is : (c : After-table_name-name) (v : TableSchema) → Holds table c.args.t.now v → name_within v.name ≡ name_within c.table_name-name.result.now
name_is c v h = sym (ap name_within (c.table_name-name.ensures v h))

many : (c : After-parts) (v : TableSchema) → Holds table c.args.t.now v → at_most 64 (length v.columns) ≡ at_most 64 c.parts.result
many c v h = count_within (column_schema 2) 64 c.columns-list.result.now (c.columns-list.ensures v h) ∙ ap (at_most 64) (sym c.parts.ensures)

named : (c : After-are_columns_within) (v : TableSchema) → Holds table c.args.t.now v → c.are_columns_within.result ≡ all column_within v.columns
named c v h = c.are_columns_within.ensures v.columns (c.columns-list.ensures v h)

left-1 : (c : Else-name-gt128) (v : TableSchema) → Holds table c.args.t.now v → Left 1 v
left-1 c v h = on (table_within_decided v) (name_is (goal.at.Else-name-gt128 c).After-table_name-name v h ∙ le-leb _ _ c.if-name-gt128.false)

left-2 : (c : After-are_columns_within) (v : TableSchema) → Holds table c.args.t.now v → Left 2 v
left-2 c v h = on (left-1 (goal.at.After-are_columns_within c).Else-name-gt128 v h) (many (goal.at.After-are_columns_within c).After-parts v h ∙ le-leb c.parts.result 64 (omega arith))

left-3 : (c : Else-not-are_columns_within) (v : TableSchema) → Holds table c.args.t.now v → Left 3 v
left-3 c v h = on (left-2 (goal.at.Else-not-are_columns_within c).After-are_columns_within v h) (passed (named (goal.at.Else-not-are_columns_within c).After-are_columns_within v h) (ap not c.if-not-are_columns_within.false))

pub returns-then-name-gt128 : goal.returns-then-name-gt128
returns-then-name-gt128 c = λ v h. stop (table_within_decided v) (name_is (goal.at.returns-then-name-gt128 c).After-table_name-name v h ∙ lt-leb _ _ c.if-name-gt128.true)

pub parts-requires : goal.parts-requires
parts-requires c = let r = list_bundle (column_schema 2) (list (goal.at.parts-requires c).After-columns-list) in search rules

pub returns-then-parts-gt64 : goal.returns-then-parts-gt64
returns-then-parts-gt64 c = λ v h. stop (left-1 (goal.at.returns-then-parts-gt64 c).Else-name-gt128 v h) (many (goal.at.returns-then-parts-gt64 c).After-parts v h ∙ lt-leb _ _ c.if-parts-gt64.true)

pub are_columns_within-requires : goal.are_columns_within-requires
are_columns_within-requires c = list (goal.at.are_columns_within-requires c).After-columns-list

pub returns-then-not-are_columns_within : goal.returns-then-not-are_columns_within
returns-then-not-are_columns_within c = λ v h. stop (left-2 (goal.at.returns-then-not-are_columns_within c).After-are_columns_within v h) (failed (named (goal.at.returns-then-not-are_columns_within c).After-are_columns_within v h) (ap not c.if-not-are_columns_within.true))

pub parts-requires-2 : goal.parts-requires-2
parts-requires-2 c = let r = list_bundle (alone column_id) (ids (goal.at.parts-requires-2 c).After-key) in search rules

pub returns : goal.returns
returns c = λ v h. last (left-3 (goal.at.returns c).Else-not-are_columns_within v h) (ap (at_most 64) c.parts-2.ensures ∙ sym (count_within (alone column_id) 64 c.key.result.now (c.key.ensures v h)))
