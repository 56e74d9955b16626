-- `catalogue_sound::is_sound` meets its contract.
use Rattle.bytes_bundle.specs.Decides.{stop, on, last, failed, passed}
use Rattle.bytes_bundle.specs.Held.{list_bundle}
use Rattle.image_catalogue.specs.Layout.{table}
use Rattle.catalogue_sound.specs.Sound.{table_names_lem, table_ids, tables_named, tables_told, sound_decided}
use mathlib.Core.Path.{◌∙◌}
use Rattle.std.proofs.Common.{ap}
use Rattle.std.proofs.Common.{not}
use Rattle.catalogue_sound.proofs.is_sound.Goals as goal

pub are_distinct-requires : goal.are_distinct-requires
are_distinct-requires c = (list_bundle table c.requires, tables_named c.args.c.now c.requires)

pub returns-then-not-are_distinct : goal.returns-then-not-are_distinct
returns-then-not-are_distinct c = λ ts h. stop (sound_decided ts) (failed (c.are_distinct.ensures ∙ table_names_lem c.args.c.now h) (ap not c.if-not-are_distinct.true))

pub are_distinct-requires-2 : goal.are_distinct-requires-2
are_distinct-requires-2 c = (list_bundle table c.requires, tables_told c.args.c.now c.requires)

pub returns-then-not-are_distinct-2 : goal.returns-then-not-are_distinct-2
returns-then-not-are_distinct-2 c = λ ts h.
    let s = c.args.c.now in
    stop (on (sound_decided ts) (passed (c.are_distinct.ensures ∙ table_names_lem (s) h) (ap not c.if-not-are_distinct.false))) (failed (c.are_distinct-2.ensures ∙ table_ids s h) (ap not c.if-not-are_distinct-2.true))

pub returns : goal.returns
returns c = λ ts h.
    let s = c.args.c.now in
    last (on (on (sound_decided ts) (passed (c.are_distinct.ensures ∙ table_names_lem (s) h) (ap not c.if-not-are_distinct.false))) (passed (c.are_distinct-2.ensures ∙ table_ids s h) (ap not c.if-not-are_distinct-2.false))) (c.are_sound_tables.ensures ts h)
