-- `image_row::obeys` meets its contract.
use mathlib.Core.Path.{◌∙◌}
use Rattle.bytes_format.proofs.Formats.{list_of}
use Rattle.bytes_bundle.specs.Held.{is_held, held}
use Rattle.image_value.specs.Parts.{column_schema}
use Rattle.image_row.specs.Layout.{row}
use Rattle.image_row.specs.Obeyed.{columns_obeyed_lem}
use Rattle.image_row.proofs.obeys.Goals as goal

pub values_obey-requires : goal.values_obey-requires
values_obey-requires c = held c.requires (λ v h. is_held {f = list_of 2 (column_schema 2)} (c.columns.ensures v h))

pub returns : goal.returns
returns c = λ v h.
    c.values_obey.ensures v.columns (c.columns.ensures v h)
    ∙ columns_obeyed_lem v (row.read c.args.r.now)
