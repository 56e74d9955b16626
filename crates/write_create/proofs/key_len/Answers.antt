-- `write_create::key_len` meets its contract.
use mathlib.Core.Path.{sym, ◌∙◌, subst}
use native.Mathlib.Omega.{arith}
use lib.ListN.{length-map}
use Rattle.bytes_format.proofs.Formats.{list_of}
use Rattle.bytes_bundle.specs.Held.{held, list_bundle, list_count, is_held}
use Rattle.image_parts.specs.Layout.{name, constraint}
use Rattle.rules.specs.Names.{canonical}
use Rattle.bind_create.specs.declared.Key.{Key}
use Rattle.bind_create.specs.Defined.{schemas}
use Rattle.bind_create.specs.Keys.{NamedAt}
use Rattle.bind_create.specs.Within.{few_names}
use Rattle.bind_create.specs.Places.{part_at, part_holds, constraint_in, part_shows}
use Rattle.write_create.proofs.Ids.{no_key, key_count}
use Rattle.write_create.proofs.key_len.Goals as goal

pub part-c-requires : goal.part-c-requires
part-c-requires c = (
  omega arith,
  list_bundle constraint (held c.requires.0.is (λ v h. is_held {f = list_of 2 constraint} (c.constraints.ensures v h))),
  (constraint_in c.requires.0.is c.requires.1 c.in-Constrained.is c.constraints.ensures).part.few,
)

pub key_names-requires : goal.key_names-requires
key_names-requires c =
    let k = constraint_in c.requires.0.is c.requires.1 c.in-Constrained.is c.constraints.ensures in
    part_shows (part_holds c.part-c.ensures k.part)

pub parts-requires : goal.parts-requires
parts-requires c = (
  omega arith,
  let k = constraint_in c.requires.0.is c.requires.1 c.in-Constrained.is c.constraints.ensures in
      list_bundle name (is_held {f = list_of 2 name} (c.key_names.ensures k.marked k.list (part_holds c.part-c.ensures k.part))),
)

pub returns-in-Nowhere : goal.returns-in-Nowhere
returns-in-Nowhere c = (
  omega arith,
  λ v names l h k e.
      absurd (no_key (schemas 0 v.columns) (subst (λ (x : Key). NamedAt v.columns v.constraints x names) c.in-Nowhere.is k.named) e),
)

pub returns-in-Column : goal.returns-in-Column
returns-in-Column c = (
  omega arith,
  λ v names l h k e.
      let n = subst (λ (x : Key). NamedAt v.columns v.constraints x names) c.in-Column.is k.named in
      sym (key_count (schemas 0 v.columns) n.is e),
)

pub returns-in-Constrained : goal.returns-in-Constrained
returns-in-Constrained c =
    let w = c.requires in
    let i = constraint_in w.0.is w.1 c.in-Constrained.is c.constraints.ensures in
    let f = few_names {p = c.key_names.result.now} c.in-Constrained.j w.0 i.whole i.here (c.key_names.ensures i.marked i.list (part_holds c.part-c.ensures i.part)) in (
      omega (arith, c.parts.ensures, f.few),
      λ v names l h k e.
          let n = subst (λ (x : Key). NamedAt v.columns v.constraints x names) c.in-Constrained.is k.named in
          let p = part_at constraint c.constraints.result.now _ (c.constraints.ensures v h) n.here in
          let g = c.key_names.ensures n.marked n.list (part_holds c.part-c.ensures p) in
          c.parts.ensures ∙ sym (list_count name c.key_names.result.now g) ∙ sym (length-map n.list canonical) ∙ sym (key_count (schemas 0 v.columns) n.is e),
    )
