-- `bind_insert_columns::find_target` meets its contract.
use mathlib.Core.Path.{ap₂, subst}
use Rattle.catalogue_lookup.specs.Finds.{FindsColumn}
use Rattle.text_names.specs.Compared.{named}
use Rattle.rules.specs.Names.{canonical}
use Rattle.rules.specs.Statements.{Name}
use Rattle.bind_insert_columns.specs.Columns.{text_within}
use Rattle.bind_insert_columns.proofs.find_target.Goals as goal

pub find_column-requires : goal.find_column-requires
find_column-requires c = (c.requires.0, text_within c.requires.1 c.name_text.ensures)

pub returns : goal.returns
returns c =
    λ v h. subst (λ (m : Name). FindsColumn c.args.t.now (canonical m) c.find_column.result)
    (ap₂ named (c.name_is_quoted.ensures v h) (c.name_text.ensures v h)) c.find_column.ensures
