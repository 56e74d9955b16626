-- `catalogue_repeats::alike` meets its contract.
use Prim.Native.Nat.{ℕ}
use Rattle.catalogue_repeats.specs.Repeats.{Told, alike_by}
use Rattle.catalogue_repeats.specs.declared.By.{By}
use Rattle.bytes_bundle.specs.Held.{Holds, Is, held}
use Rattle.image_catalogue.specs.Values.{id_of, id_held}
use Rattle.bytes_format.proofs.Formats.{alone}
use Rattle.rules.specs.Lists.{same}
use Rattle.rules.specs.Tables.{same_id}
use Rattle.rules.specs.declared.ColumnId.{ColumnId}
use Rattle.image_value.specs.Parts.{column_id}
use lib.Dec.{eqb}
use mathlib.Core.List.{List}
use mathlib.Core.Path.{◌≡◌, sym, ap, ap₂, ◌∙◌, subst}
use Rattle.catalogue_repeats.proofs.alike.Goals as goal

pub entry_name-requires : goal.entry_name-requires
entry_name-requires c = subst (λ (x : By). Told x c.args.a.now) c.in-Name.is c.requires.0

pub entry_name-requires-in-Name : goal.entry_name-requires-in-Name
entry_name-requires-in-Name c = subst (λ (x : By). Told x c.args.b.now) c.in-Name.is c.requires.1

pub entry_id-requires : goal.entry_id-requires
entry_id-requires c = subst (λ (x : By). Told x c.args.a.now) c.in-Id.is c.requires.0

pub entry_id-requires-in-Id : goal.entry_id-requires-in-Id
entry_id-requires-in-Id c = subst (λ (x : By). Told x c.args.b.now) c.in-Id.is c.requires.1

pub key_id-requires : goal.key_id-requires
key_id-requires c = subst (λ (x : By). Told x c.args.a.now) c.in-Whole.is c.requires.0

pub key_id-requires-in-Whole : goal.key_id-requires-in-Whole
key_id-requires-in-Whole c = subst (λ (x : By). Told x c.args.b.now) c.in-Whole.is c.requires.1

pub returns-in-Name : goal.returns-in-Name
returns-in-Name c = c.same.ensures ∙ ap₂ same c.entry_name.ensures c.entry_name-in-Name.ensures ∙ sym (ap (λ (x : By). alike_by x c.args.a.now c.args.b.now) c.in-Name.is)

pub returns-in-Id : goal.returns-in-Id
returns-in-Id c = ap₂ eqb c.entry_id.ensures c.entry_id-in-Id.ensures ∙ sym (ap (λ (x : By). alike_by x c.args.a.now c.args.b.now) c.in-Id.is)

-- an id that is read is the one that the bytes spell
spelt : {s : List ℕ} {r : ColumnId} → Is (alone column_id) s → ((v : ColumnId) → Holds (alone column_id) s v → r ≡ v) → r ≡ id_of s
spelt {s} i f = held i (λ v h. f v h ∙ (id_held s h).id)

pub returns-in-Whole : goal.returns-in-Whole
returns-in-Whole c =
    let e = c.in-Whole.is in
    let p : Is (alone column_id) c.args.a.now = subst (λ (x : By). Told x c.args.a.now) e c.requires.0 in
    let q : Is (alone column_id) c.args.b.now = subst (λ (x : By). Told x c.args.b.now) e c.requires.1 in
    c.eq.ensures ∙ ap₂ same_id (spelt p c.key_id.ensures) (spelt q c.key_id-in-Whole.ensures) ∙ sym (ap (λ (x : By). alike_by x c.args.a.now c.args.b.now) e)
