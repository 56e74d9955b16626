-- `sirklemet::sirklemet_obeys` meets its contract.
use mathlib.Core.Path.{◌∙◌}
use Prim.Native.Nat.{◌<◌}
use borrow.Author.Rules.{rules}
use native.Mathlib.Omega.{arith}
use lib.ListN.{length}
use Rattle.bytes_bundle.specs.Bundle.{parts_of, IsBundle}
use Rattle.bytes_bundle.specs.Decides.{failed, passed}
use Rattle.bytes_bundle.specs.Held.{Is, held, is_held, same, list_bundle}
use Rattle.image_catalogue.specs.Layout.{table, catalogue}
use Rattle.image_catalogue.specs.Values.{catalogue_list}
use Rattle.sirklemet.specs.Told.{none_obeys, no_table, the_table}
use Rattle.sirklemet.proofs.sirklemet_obeys.Goals.{Else-not-is_catalogue}
use Rattle.sirklemet.proofs.sirklemet_obeys.Goals.{Else-parts-number}
use Rattle.std.proofs.Common.{ap}
use Rattle.std.proofs.Common.{not}
use Rattle.sirklemet.proofs.sirklemet_obeys.Goals as goal

pub returns-then-not-is_catalogue : goal.returns-then-not-is_catalogue
returns-then-not-is_catalogue c =
    let a = c.args in
    none_obeys a.bytes.now a.tables.now a.number (failed c.is_catalogue.ensures (ap not c.if-not-is_catalogue.true))

-- behind the first test
taken : (c : Else-not-is_catalogue) → Is catalogue c.args.tables.now
taken c = record { there = passed c.is_catalogue.ensures (ap not c.if-not-is_catalogue.false) }

contents : (c : Else-not-is_catalogue) → IsBundle 2 c.args.tables.now
contents c = list_bundle table (catalogue_list (taken c))

pub parts-requires : goal.parts-requires
parts-requires c = let i = contents (goal.at.parts-requires c).Else-not-is_catalogue in search rules

pub returns-then-parts-number : goal.returns-then-parts-number
returns-then-parts-number c =
    let a = c.args in
    held (taken (goal.at.returns-then-parts-number c).Else-not-is_catalogue) (λ v h. no_table a.bytes.now a.tables.now a.number h (omega (arith, c.if-parts-number.true, c.parts.ensures)))

-- behind the second
there : (c : Else-parts-number) → c.args.number < length (parts_of 2 c.args.tables.now)
there c = omega (arith, c.if-parts-number.false, c.parts.ensures)

pub part-requires : goal.part-requires
part-requires c = let i = contents (goal.at.part-requires c).Else-not-is_catalogue in let l = there (goal.at.part-requires c).Else-parts-number in search rules

pub obeys-requires : goal.obeys-requires
obeys-requires c =
    let a = c.args in
    held (taken (goal.at.obeys-requires c).Else-not-is_catalogue) (λ v h.
    is_held (same table c.part.ensures (the_table a.bytes.now a.tables.now a.number h (there (goal.at.obeys-requires c).Else-parts-number)).1))

pub returns : goal.returns
returns c =
    let a = c.args in
    held (taken (goal.at.returns c).Else-not-is_catalogue) (λ v h.
    let t = the_table a.bytes.now a.tables.now a.number h (there (goal.at.returns c).Else-parts-number) in
    c.obeys.ensures t.0 (same table c.part.ensures t.1) ∙ t.2)
