-- `image_parts::heads::are_marks` meets its contract.
use Rattle.std.proofs.Common.{rules, tests}
use Rattle.std.proofs.lemmas.Iterator.{YieldsList-from_slice}
use Rattle.std.proofs.lemmas.Iterator.Search.{all_from_yields_List}
use Rattle.bytes_bundle.specs.Heads.{is_mark, marks_told}
use Rattle.image_parts.proofs.heads.are_marks.Goals as goal

pub returns-then-s-n : goal.returns-then-s-n
returns-then-s-n c =
    marks_told _ _ c.if-s-n.true
    (all_from_yields_List is_mark _ _ _ c.all.ensures.ran (YieldsList-from_slice c.args.s.now cc) (λ x b q k. search (rules, tests)))
