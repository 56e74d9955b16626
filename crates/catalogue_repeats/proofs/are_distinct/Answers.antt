-- `catalogue_repeats::are_distinct` meets its contract.
use mathlib.Core.Bool.{not, not-not}
use mathlib.Core.Path.{sym, ap, ◌∙◌}
use Rattle.bytes_bundle.specs.Bundle.{parts_of}
use Rattle.std.specs.Prelude.{is_none}
use Rattle.catalogue_repeats.specs.Repeats.{alike_by, nowhere_is}
use Rattle.catalogue_repeats.proofs.are_distinct.Goals as goal

pub returns : goal.returns
returns c =
    let a = c.args in
    sym (ap not c.is_none.ensures ∙ not-not _) ∙ ap is_none c.first_repeat.ensures ∙ nowhere_is (alike_by a.by) 0 (parts_of 2 a.s.now)
