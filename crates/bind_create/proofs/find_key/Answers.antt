-- `bind_create::find_key` meets its contract.
use mathlib.Core.Path.{sym, subst}
use Rattle.bytes_bundle.specs.Held.{held, is_held}
use Rattle.bytes_format.proofs.Formats.{list_of}
use Rattle.image_parts.specs.Layout.{column_definition, constraint}
use Rattle.bind_table.specs.Steps.{handed_on}
use Rattle.bind_create.specs.Keys.{ReadsColumns, ReadsKey}
use Rattle.bind_create.proofs.Whole.{read_both, read_columns_off, place_of}
use Rattle.bind_create.proofs.find_key.Goals as goal

pub define_columns-requires : goal.define_columns-requires
define_columns-requires c = (held c.requires.0 (λ v h. is_held {f = list_of 2 column_definition} (c.columns.ensures v h)), place_of c.columns.result.now c.requires.0 c.requires.1 c.columns.ensures)

pub register_all-requires : goal.register_all-requires
register_all-requires c = held c.requires.0 (λ v h. is_held {f = list_of 2 constraint} (c.constraints.ensures v h))

pub returns : goal.returns
returns c = λ v h.
    read_both v c.register_all.result
    (subst (ReadsColumns v.columns) c.in_ok-key.was (c.define_columns.ensures v.columns (c.columns.ensures v h)))
    (λ names k. c.register_all.ensures v.columns v.constraints names (c.constraints.ensures v h) k)

pub returns-in_err-key : goal.returns-in_err-key
returns-in_err-key c = λ v h.
    subst (ReadsKey v) (sym (handed_on c.from_residual.ensures.1))
    (read_columns_off v (subst (ReadsColumns v.columns) c.in_err-key.was (c.define_columns.ensures v.columns (c.columns.ensures v h))))
