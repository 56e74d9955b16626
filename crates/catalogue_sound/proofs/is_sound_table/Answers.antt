-- `catalogue_sound::is_sound_table` meets its contract. Behind each test, those that are left decide.
use Prim.Native.Nat.{ℕ}
use Rattle.bytes_bundle.specs.Decides.{Decides, stop, on, last, failed, passed}
use Rattle.bytes_bundle.specs.Held.{Holds, Is, is_held, held, list_bundle}
use Rattle.image_catalogue.specs.Layout.{table}
use Rattle.catalogue_sound.specs.Sound.{has_id, same_column_name, same_column_id, column_names, column_ids_lem, key_ids_lem, key_empty, columns_named, columns_told, ids_told, sound_table_tests, sound_table_decided}
use Rattle.bytes_format.proofs.Formats.{alone, list_of}
use Rattle.rules.specs.Lists.{is_empty, all, distinct}
use Rattle.rules.specs.Tables.{TableSchema, same_id, sound_table}
use Rattle.image_value.specs.Parts.{column_id, column_schema}
use borrow.Author.Rules.{rules}
use borrow.Author.Tests.{eq-eqb, ne_eqb}
use lib.Dec.{eqb}
use lib.ListN.{drop}
use mathlib.Core.Bool.{not}
use mathlib.Core.Path.{◌≡◌, sym, ap, ◌∙◌}
use Rattle.catalogue_sound.proofs.is_sound_table.Goals.{After-columns-list}
use Rattle.catalogue_sound.proofs.is_sound_table.Goals.{After-key-ids}
use Rattle.catalogue_sound.proofs.is_sound_table.Goals.{After-are_distinct}
use Rattle.catalogue_sound.proofs.is_sound_table.Goals.{After-are_distinct-2}
use Rattle.catalogue_sound.proofs.is_sound_table.Goals.{After-are_numbered}
use Rattle.catalogue_sound.proofs.is_sound_table.Goals.{After-parts}
use Rattle.catalogue_sound.proofs.is_sound_table.Goals.{After-are_distinct-3}
use Rattle.catalogue_sound.proofs.is_sound_table.Goals.{Else-not-are_distinct}
use Rattle.catalogue_sound.proofs.is_sound_table.Goals.{Else-not-are_distinct-2}
use Rattle.catalogue_sound.proofs.is_sound_table.Goals.{Else-not-are_numbered}
use Rattle.catalogue_sound.proofs.is_sound_table.Goals.{Else-parts-eq0}
use Rattle.catalogue_sound.proofs.is_sound_table.Goals.{Else-not-are_distinct-3}
use Rattle.catalogue_sound.proofs.is_sound_table.Goals as goal

-- the tests but the first k
abbrev Left : ℕ → TableSchema → Type 0
Left k v = Decides (sound_table v) (drop k (sound_table_tests v))

list : (c : After-columns-list) → Is (list_of 2 (column_schema 2)) c.columns-list.result.now
list c = held c.requires (λ v h. is_held {f = list_of 2 (column_schema 2)} (c.columns-list.ensures v h))

ids : (c : After-key-ids) → Is (list_of 2 (alone column_id)) c.key-ids.result.now
ids c = held c.requires (λ v h. is_held {f = list_of 2 (alone column_id)} (c.key-ids.ensures v h))

names-are : (c : After-are_distinct) (v : TableSchema) → Holds table c.args.t.now v → c.are_distinct.result ≡ distinct same_column_name v.columns
names-are c v h = c.are_distinct.ensures ∙ column_names c.columns-list.result.now (c.columns-list.ensures v h)

ids-are : (c : After-are_distinct-2) (v : TableSchema) → Holds table c.args.t.now v → c.are_distinct-2.result ≡ distinct same_column_id v.columns
ids-are c v h = c.are_distinct-2.ensures ∙ column_ids_lem c.columns-list.result.now (c.columns-list.ensures v h)

numbered-are : (c : After-are_numbered) (v : TableSchema) → Holds table c.args.t.now v → c.are_numbered.result ≡ all has_id v.columns
numbered-are c v h = c.are_numbered.ensures v.columns (c.columns-list.ensures v h)

empty-are : (c : After-parts) (v : TableSchema) → Holds table c.args.t.now v → is_empty v.key ≡ eqb c.parts.result 0
empty-are c v h = key_empty c.key-ids.result.now (c.key-ids.ensures v h) ∙ ap (λ (n : ℕ). eqb n 0) (sym c.parts.ensures)

key-are : (c : After-are_distinct-3) (v : TableSchema) → Holds table c.args.t.now v → c.are_distinct-3.result ≡ distinct same_id v.key
key-are c v h = c.are_distinct-3.ensures ∙ key_ids_lem c.key-ids.result.now (c.key-ids.ensures v h)

left-1 : (c : Else-not-are_distinct) (v : TableSchema) → Holds table c.args.t.now v → Left 1 v
left-1 c v h = on (sound_table_decided v) (passed (names-are (goal.at.Else-not-are_distinct c).After-are_distinct v h) (ap not c.if-not-are_distinct.false))

left-2 : (c : Else-not-are_distinct-2) (v : TableSchema) → Holds table c.args.t.now v → Left 2 v
left-2 c v h = on (left-1 (goal.at.Else-not-are_distinct-2 c).Else-not-are_distinct v h) (passed (ids-are (goal.at.Else-not-are_distinct-2 c).After-are_distinct-2 v h) (ap not c.if-not-are_distinct-2.false))

left-3 : (c : Else-not-are_numbered) (v : TableSchema) → Holds table c.args.t.now v → Left 3 v
left-3 c v h = on (left-2 (goal.at.Else-not-are_numbered c).Else-not-are_distinct-2 v h) (passed (numbered-are (goal.at.Else-not-are_numbered c).After-are_numbered v h) (ap not c.if-not-are_numbered.false))

left-4 : (c : Else-parts-eq0) (v : TableSchema) → Holds table c.args.t.now v → Left 4 v
left-4 c v h = on (left-3 (goal.at.Else-parts-eq0 c).Else-not-are_numbered v h) (ap not (empty-are (goal.at.Else-parts-eq0 c).After-parts v h ∙ ne_eqb _ _ c.if-parts-eq0.false))

left-5 : (c : Else-not-are_distinct-3) (v : TableSchema) → Holds table c.args.t.now v → Left 5 v
left-5 c v h = on (left-4 (goal.at.Else-not-are_distinct-3 c).Else-parts-eq0 v h) (passed (key-are (goal.at.Else-not-are_distinct-3 c).After-are_distinct-3 v h) (ap not c.if-not-are_distinct-3.false))

pub are_distinct-requires : goal.are_distinct-requires
are_distinct-requires c = (list_bundle (column_schema 2) (list (goal.at.are_distinct-requires c).After-columns-list), columns_named c.columns-list.result.now (list (goal.at.are_distinct-requires c).After-columns-list))

pub returns-then-not-are_distinct : goal.returns-then-not-are_distinct
returns-then-not-are_distinct c = λ v h. stop (sound_table_decided v) (failed (names-are (goal.at.returns-then-not-are_distinct c).After-are_distinct v h) (ap not c.if-not-are_distinct.true))

pub are_distinct-requires-2 : goal.are_distinct-requires-2
are_distinct-requires-2 c = (list_bundle (column_schema 2) (list (goal.at.are_distinct-requires-2 c).After-columns-list), columns_told c.columns-list.result.now (list (goal.at.are_distinct-requires-2 c).After-columns-list))

pub returns-then-not-are_distinct-2 : goal.returns-then-not-are_distinct-2
returns-then-not-are_distinct-2 c = λ v h. stop (left-1 (goal.at.returns-then-not-are_distinct-2 c).Else-not-are_distinct v h) (failed (ids-are (goal.at.returns-then-not-are_distinct-2 c).After-are_distinct-2 v h) (ap not c.if-not-are_distinct-2.true))

pub are_numbered-requires : goal.are_numbered-requires
are_numbered-requires c = list (goal.at.are_numbered-requires c).After-columns-list

pub returns-then-not-are_numbered : goal.returns-then-not-are_numbered
returns-then-not-are_numbered c = λ v h. stop (left-2 (goal.at.returns-then-not-are_numbered c).Else-not-are_distinct-2 v h) (failed (numbered-are (goal.at.returns-then-not-are_numbered c).After-are_numbered v h) (ap not c.if-not-are_numbered.true))

pub parts-requires : goal.parts-requires
parts-requires c = let r = list_bundle (alone column_id) (ids (goal.at.parts-requires c).After-key-ids) in search rules

pub returns-then-parts-eq0 : goal.returns-then-parts-eq0
returns-then-parts-eq0 c = λ v h. stop (left-3 (goal.at.returns-then-parts-eq0 c).Else-not-are_numbered v h) (ap not (empty-are (goal.at.returns-then-parts-eq0 c).After-parts v h ∙ eq-eqb _ _ c.if-parts-eq0.true))

pub are_distinct-requires-3 : goal.are_distinct-requires-3
are_distinct-requires-3 c = (list_bundle (alone column_id) (ids (goal.at.are_distinct-requires-3 c).After-key-ids), ids_told c.key-ids.result.now (ids (goal.at.are_distinct-requires-3 c).After-key-ids))

pub returns-then-not-are_distinct-3 : goal.returns-then-not-are_distinct-3
returns-then-not-are_distinct-3 c = λ v h. stop (left-4 (goal.at.returns-then-not-are_distinct-3 c).Else-parts-eq0 v h) (failed (key-are (goal.at.returns-then-not-are_distinct-3 c).After-are_distinct-3 v h) (ap not c.if-not-are_distinct-3.true))

pub are_key_ids-requires : goal.are_key_ids-requires
are_key_ids-requires c = (ids (goal.at.are_key_ids-requires c).After-key-ids, list (goal.at.are_key_ids-requires c).After-columns-list)

pub returns : goal.returns
returns c = λ v h. last (left-5 (goal.at.returns c).Else-not-are_distinct-3 v h) (c.are_key_ids.ensures v.key (c.key-ids.ensures v h) v.columns (c.columns-list.ensures v h))
