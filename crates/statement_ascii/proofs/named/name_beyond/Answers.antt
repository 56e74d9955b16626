-- `statement_ascii::named::name_beyond` meets its contract.
use Rattle.text_names.specs.Compared.{named}
use Rattle.rules.specs.Lists.{Text}
use Rattle.rules.specs.Names.{beyond_ascii}
use mathlib.Core.Bool.{Bool}
use mathlib.Core.Path.{ap₂, ◌∙◌}
use Rattle.statement_ascii.proofs.named.name_beyond.Goals as goal

pub returns : goal.returns
returns c = λ v h. c.beyond_ascii.ensures ∙ ap₂ (λ (q : Bool) (t : Text). beyond_ascii (named q t)) (c.name_is_quoted.ensures v h) (c.name_text.ensures v h)
