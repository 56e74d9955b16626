-- `write_create::folded` meets its contract.
use mathlib.Core.Path.{sym, ap, ap₂, ◌∙◌}
use mathlib.Core.Bool.{Bool}
use lib.ListN.{length, take}
use Rattle.text_names.specs.Compared.{named}
use Rattle.rules.specs.Lists.{Text}
use Rattle.rules.specs.Names.{canonical}
use Rattle.bind_repeats.specs.Short.{short_length}
use Rattle.write_create.proofs.folded.Goals as goal

pub compared-requires : goal.compared-requires
compared-requires c = short_length c.requires c.name_text.ensures

pub returns : goal.returns
returns c = λ w h.
    let e = c.name_text.ensures w h in
    ap (λ (x : Text). take (length x) c.compared.result) (sym e) ∙ c.compared.ensures ∙ ap₂ (λ (q : Bool) (t : Text). canonical (named q t)) (c.name_is_quoted.ensures w h) e
