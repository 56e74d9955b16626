-- `text_trim::is_white` meets its contract: the table is the rules' own.
use Rattle.std.proofs.Common.{rules, refl, ◌∙◌, ◌&&◌, map, ℕ, Bool}
use Rattle.std.proofs.lemmas.Iterator.{YieldsList-from_slice}
use Rattle.std.proofs.lemmas.Iterator.Search.{any_from_yields_List}
use borrow.Author.Tests.{tests}
use lib.Dec.{leb}
use Rattle.rules.specs.Trimmed
use Rattle.rules.specs.Trimmed.{white_space, within}
use Rattle.text_trim.specs.declared.Range.{Range}
use Rattle.text_trim.proofs.is_white.Goals as goal

abbrev had : Trimmed.Range → Range
had r = record { 0 = r.first; 1 = r.last }

abbrev lies : ℕ → Range → Bool
lies c r = leb r.0 c && leb c r.1

pub returns : goal.returns
unfolding within
returns c =
    any_from_yields_List (lies c.args.c) c.any.new.self _ _ c.any.ensures.ran (YieldsList-from_slice (map had white_space) cc)
    (λ x b q k. search (rules, tests))
    ∙ refl
