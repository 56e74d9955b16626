-- `op_received::read_catalogue` meets its contract.
use mathlib.Core.Path.{sym, ◌∙◌}
use Rattle.bytes_bundle.specs.Decides.{failed, passed}
use Rattle.bytes_bundle.specs.Held.{Is, held}
use Rattle.image_catalogue.specs.Layout.{catalogue}
use Rattle.op_received.specs.Told.{no_catalogue_lem, judged_catalogue}
use Rattle.op_received.proofs.read_catalogue.Goals.{Else-not-is_catalogue}
use Rattle.std.proofs.Common.{ap}
use Rattle.std.proofs.Common.{not}
use Rattle.op_received.proofs.read_catalogue.Goals as goal

pub returns-then-not-is_catalogue : goal.returns-then-not-is_catalogue
returns-then-not-is_catalogue c = no_catalogue_lem c.args.c.now (failed c.is_catalogue.ensures (ap not c.if-not-is_catalogue.true))

-- behind the first test
taken : (c : Else-not-is_catalogue) → Is catalogue c.args.c.now
taken c = record { there = passed c.is_catalogue.ensures (ap not c.if-not-is_catalogue.false) }

pub catalogue_within-requires : goal.catalogue_within-requires
catalogue_within-requires c = taken (goal.at.catalogue_within-requires c).Else-not-is_catalogue

pub returns-then-not-catalogue_within : goal.returns-then-not-catalogue_within
returns-then-not-catalogue_within c =
    held (taken (goal.at.returns-then-not-catalogue_within c).Else-not-is_catalogue) (λ v h.
    judged_catalogue c.args.c.now h (sym (c.if-not-catalogue_within.true) ∙ c.catalogue_within.ensures v h))

pub returns : goal.returns
returns c =
    held (taken (goal.at.returns c).Else-not-is_catalogue) (λ v h.
    judged_catalogue c.args.c.now h (sym (c.if-not-catalogue_within.false) ∙ c.catalogue_within.ensures v h))
