-- `catalogue_limits::catalogue_within` meets its contract.
use Rattle.bytes_bundle.specs.Decides.{Decides, stop, on, last}
use Rattle.bytes_bundle.specs.Held.{Holds, list_bundle}
use Rattle.image_catalogue.specs.Layout.{table, catalogue}
use Rattle.catalogue_limits.specs.Within.{count_within, within_decided}
use Rattle.image_catalogue.specs.Values.{catalogue_tables, catalogue_list}
use Rattle.rules.specs.Limits.{at_most, table_within, catalogue_within}
use Rattle.rules.specs.Lists.{all}
use Rattle.rules.specs.Tables.{Catalogue}
use native.Mathlib.Omega.{arith}
use borrow.Author.Rules.{rules}
use borrow.Author.Tests.{le-leb, lt-leb}
use lib.ListN.{length}
use mathlib.Core.List.{[], ◌∷◌}
use mathlib.Core.Path.{◌≡◌, sym, ap, ◌∙◌}
use Rattle.catalogue_limits.proofs.catalogue_within.Goals.{After-parts}
use Rattle.catalogue_limits.proofs.catalogue_within.Goals.{Else-s-gt65536}
use Rattle.catalogue_limits.proofs.catalogue_within.Goals as goal

pub returns-then-s-gt65536 : goal.returns-then-s-gt65536
returns-then-s-gt65536 c = λ v h. stop (within_decided (length c.args.s.now) v) (lt-leb _ _ c.if-s-gt65536.true)

pub parts-requires : goal.parts-requires
parts-requires c = let r = list_bundle table (catalogue_list c.requires) in search rules

-- how many tables there are
many : (c : After-parts) (v : Catalogue) → Holds catalogue c.args.s.now v → at_most 256 (length v) ≡ at_most 256 c.parts.result
many c v h = count_within table 256 c.args.s.now (catalogue_tables c.args.s.now h) ∙ ap (at_most 256) (sym c.parts.ensures)

left-1 : (c : Else-s-gt65536) (v : Catalogue) → Decides (catalogue_within (length c.args.s.now) v) (at_most 256 (length v) ∷ all table_within v ∷ [])
left-1 c v = on (within_decided (length c.args.s.now) v) (le-leb _ _ c.if-s-gt65536.false)

pub returns-then-parts-gt256 : goal.returns-then-parts-gt256
returns-then-parts-gt256 c = λ v h. stop (left-1 (goal.at.returns-then-parts-gt256 c).Else-s-gt65536 v) (many (goal.at.returns-then-parts-gt256 c).After-parts v h ∙ lt-leb _ _ c.if-parts-gt256.true)

pub are_tables_within-requires : goal.are_tables_within-requires
are_tables_within-requires c = catalogue_list c.requires

pub returns : goal.returns
returns c = λ v h.
    last (on (left-1 (goal.at.returns c).Else-s-gt65536 v) (many (goal.at.returns c).After-parts v h ∙ le-leb c.parts.result 256 (omega arith))) (c.are_tables_within.ensures v (catalogue_tables c.args.s.now h))
