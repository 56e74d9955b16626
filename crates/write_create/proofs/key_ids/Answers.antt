-- `write_create::key_ids` meets its contract.
use mathlib.Core.Path.{subst}
use native.Mathlib.Omega.{arith}
use Rattle.bytes_format.proofs.Formats.{list_of}
use Rattle.bytes_bundle.specs.Held.{held, list_bundle, is_held}
use Rattle.image_parts.specs.Layout.{column_definition, constraint}
use Rattle.bind_create.specs.declared.Key.{Key}
use Rattle.bind_create.specs.Defined.{schemas}
use Rattle.bind_create.specs.Keys.{NamedAt}
use Rattle.bind_create.specs.Within.{few_columns, few_names}
use Rattle.bind_create.specs.Places.{part_at, part_holds, column_in, column_short, constraint_in, part_shows}
use Rattle.write_create.proofs.Ids.{no_key, key_names}
use Rattle.write_create.proofs.key_ids.Goals as goal

pub part-requires : goal.part-requires
part-requires c = (
  omega arith,
  list_bundle column_definition (few_columns c.requires.0 c.columns-columns.ensures).short.is,
  (column_in c.requires.0.is c.requires.1 c.in-Column.is c.columns-columns.ensures).part.few,
)

pub column_name-requires : goal.column_name-requires
column_name-requires c = let k = column_in c.requires.0.is c.requires.1 c.in-Column.is c.columns-columns.ensures in is_held {f = column_definition} (part_holds c.part.ensures k.part)

pub one_id-requires : goal.one_id-requires
one_id-requires c =
    let k = column_in c.requires.0.is c.requires.1 c.in-Column.is c.columns-columns.ensures in
    let f = few_columns c.requires.0 c.columns-columns.ensures in
    (f, column_short f k c.columns-columns.ensures (c.column_name.ensures k.column (part_holds c.part.ensures k.part)))

pub part-c-requires : goal.part-c-requires
part-c-requires c = (
  omega arith,
  list_bundle constraint (held c.requires.0.is (λ v h. is_held {f = list_of 2 constraint} (c.constraints.ensures v h))),
  (constraint_in c.requires.0.is c.requires.1 c.in-Constrained.is c.constraints.ensures).part.few,
)

pub key_names-requires : goal.key_names-requires
key_names-requires c = let k = constraint_in c.requires.0.is c.requires.1 c.in-Constrained.is c.constraints.ensures in part_shows (part_holds c.part-c.ensures k.part)

pub name_ids-requires : goal.name_ids-requires
name_ids-requires c =
    let k = constraint_in c.requires.0.is c.requires.1 c.in-Constrained.is c.constraints.ensures in (
      few_columns c.requires.0 c.columns-columns.ensures,
      few_names c.in-Constrained.j c.requires.0 k.whole k.here (c.key_names.ensures k.marked k.list (part_holds c.part-c.ensures k.part)),
    )

pub returns-in-Nowhere : goal.returns-in-Nowhere
returns-in-Nowhere c = λ v names l h k e. absurd (no_key (schemas 0 v.columns) (subst (λ (x : Key). NamedAt v.columns v.constraints x names) c.in-Nowhere.is k.named) e)

pub returns-in-Column : goal.returns-in-Column
returns-in-Column c = λ v names l h k e.
    let n = subst (λ (x : Key). NamedAt v.columns v.constraints x names) c.in-Column.is k.named in
    let g = c.columns-columns.ensures v h in
    let p = part_at column_definition c.columns-columns.result.now _ g n.here in
    c.one_id.ensures v.columns n.column.name l g (c.column_name.ensures n.column (part_holds c.part.ensures p)) (key_names (schemas 0 v.columns) n.is e)

pub returns-in-Constrained : goal.returns-in-Constrained
returns-in-Constrained c = λ v names l h k e.
    let n = subst (λ (x : Key). NamedAt v.columns v.constraints x names) c.in-Constrained.is k.named in
    let p = part_at constraint c.constraints.result.now _ (c.constraints.ensures v h) n.here in
    c.name_ids.ensures v.columns n.list l (c.columns-columns.ensures v h) (c.key_names.ensures n.marked n.list (part_holds c.part-c.ensures p)) (key_names (schemas 0 v.columns) n.is e)
