-- `bind_insert_columns::calls` meets its contract.
use mathlib.Core.Path.{ap, ap₂, ◌∙◌}
use Rattle.text_names.specs.Compared.{named}
use Rattle.rules.specs.Lists.{same}
use Rattle.rules.specs.Names.{canonical}
use Rattle.rules.specs.Statements.{Name}
use Rattle.bind_insert_columns.specs.Columns.{same_sym, text_within}
use Rattle.bind_insert_columns.proofs.calls.Goals as goal

pub is_called-requires : goal.is_called-requires
is_called-requires c = text_within c.requires c.name_text.ensures

pub returns : goal.returns
returns c =
    λ v h.
    let o = c.args.other.now in
    c.is_called.ensures ∙ ap (λ (m : Name). same (canonical m) o) (ap₂ named (c.name_is_quoted.ensures v h) (c.name_text.ensures v h)) ∙ same_sym (canonical v) o
