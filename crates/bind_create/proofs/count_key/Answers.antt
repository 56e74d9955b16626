-- `bind_create::count_key` meets its contract.
use mathlib.Core.Path.{sym, ◌∙◌, subst}
use native.Mathlib.Omega.{arith}
use Rattle.bytes_bundle.specs.Held.{held, list_bundle, is_held}
use Rattle.bytes_format.proofs.Formats.{list_of}
use Rattle.image_parts.specs.Layout.{constraint}
use Rattle.bind_create.specs.declared.Key.{Key}
use Rattle.bind_create.specs.Keys.{NamedAt}
use Rattle.bind_create.specs.Within.{few_columns, few_names}
use Rattle.bind_create.specs.Places.{part_at, part_holds, constraint_in, part_shows}
use Rattle.bind_create.proofs.Whole.{count_none, count_column, count_list}
use Rattle.bind_create.proofs.count_key.Goals as goal

pub part-c-requires : goal.part-c-requires
part-c-requires c = (
  omega arith,
  list_bundle constraint (held c.requires.0.is (λ v h. is_held {f = list_of 2 constraint} (c.constraints.ensures v h))),
  (constraint_in c.requires.0.is c.requires.1 c.in-Constrained.is c.constraints.ensures).part.few,
)

pub key_names-requires : goal.key_names-requires
key_names-requires c =
    let k = constraint_in c.requires.0.is c.requires.1 c.in-Constrained.is c.constraints.ensures in
    part_shows (part_holds c.part-c.ensures k.part)

pub count_names-requires : goal.count_names-requires
count_names-requires c =
    let k = constraint_in c.requires.0.is c.requires.1 c.in-Constrained.is c.constraints.ensures in
    (few_columns c.requires.0 c.columns.ensures, few_names c.in-Constrained.j c.requires.0 k.whole k.here (c.key_names.ensures k.marked k.list (part_holds c.part-c.ensures k.part)))

pub returns-in-Nowhere : goal.returns-in-Nowhere
returns-in-Nowhere c = λ v names h k.
    let e = subst (λ (x : Key). NamedAt v.columns v.constraints x names) c.in-Nowhere.is k.named in
    sym (count_none v.columns e)

pub returns-in-Column : goal.returns-in-Column
returns-in-Column c = λ v names h k.
    let e = subst (λ (x : Key). NamedAt v.columns v.constraints x names) c.in-Column.is k.named in
    sym (count_column v.columns e)

pub returns-in-Constrained : goal.returns-in-Constrained
returns-in-Constrained c = λ v names h k.
    let e = subst (λ (x : Key). NamedAt v.columns v.constraints x names) c.in-Constrained.is k.named in
    let p = part_at constraint c.constraints.result.now _ (c.constraints.ensures v h) e.here in
    c.count_names.ensures v.columns e.list (c.columns.ensures v h) (c.key_names.ensures e.marked e.list (part_holds c.part-c.ensures p))
    ∙ sym (count_list v.columns e.is)
