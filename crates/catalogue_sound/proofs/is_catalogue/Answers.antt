-- `catalogue_sound::is_catalogue` meets its contract.
use Rattle.bytes_bundle.specs.Decides.{failed, passed}
use Rattle.bytes_bundle.specs.Fields.{checked_not, checked_on}
use Rattle.bytes_bundle.specs.Held.{Is, held}
use Rattle.image_catalogue.specs.Layout.{table, catalogue}
use Rattle.bytes_format.proofs.Formats.{list_of}
use Rattle.rules.specs.Tables.{sound}
use mathlib.Core.Path.{sym, ◌∙◌}
use Rattle.catalogue_sound.proofs.is_catalogue.Goals.{Else-not-are_tables}
use Rattle.std.proofs.Common.{ap}
use Rattle.std.proofs.Common.{not}
use Rattle.catalogue_sound.proofs.is_catalogue.Goals as goal

pub returns-then-not-are_tables : goal.returns-then-not-are_tables
unfolding catalogue
returns-then-not-are_tables c = sym (checked_not (list_of 2 table) sound c.args.s.now (failed c.are_tables.ensures (ap not c.if-not-are_tables.true)))

-- behind the first test
tables : (c : Else-not-are_tables) → Is (list_of 2 table) c.args.s.now
tables c = record { there = passed c.are_tables.ensures (ap not c.if-not-are_tables.false) }

pub is_sound-requires : goal.is_sound-requires
is_sound-requires c = tables (goal.at.is_sound-requires c).Else-not-are_tables

pub returns : goal.returns
unfolding catalogue
returns c = held (tables (goal.at.returns c).Else-not-are_tables) (λ ts h. c.is_sound.ensures ts h ∙ sym (checked_on (list_of 2 table) sound c.args.s.now h))
