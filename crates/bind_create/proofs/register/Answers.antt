-- `bind_create::register` meets its contract.
use mathlib.Core.Path.{sym, ◌∙◌, subst}
use mathlib.Core.List.{List}
use Prim.Native.Nat.{ℕ}
use Rattle.bytes_bundle.specs.Held.{Holds, Shows, held, list_bundle, list_count, is_held}
use Rattle.bytes_format.proofs.Formats.{list_of}
use Rattle.image_create.specs.Held.{is_key}
use Rattle.rules.specs.Statements.{Constraint, primary_key}
use Rattle.image_parts.specs.Layout.{name, constraint}
use Rattle.bind_create.specs.Keys.{has_key}
use Rattle.bind_create.proofs.Constraints.{IsKey, as_key, not_key, empty_is, not_empty, key_marked, key_empty, key_second, key_first}
use borrow.Author.Rules.{rules}
use Rattle.bind_create.proofs.register.Goals.{Else-not-is_primary_key}
use Rattle.bind_create.proofs.register.Goals as goal

-- the constraint is a key
key_of : (c : Else-not-is_primary_key) (v : Constraint) → Holds constraint c.args.c.now v → IsKey v
key_of c v h = as_key v (sym (c.is_primary_key.ensures v h) ∙ c.if-not-is_primary_key.false)

shown : (c : Else-not-is_primary_key) → Shows constraint is_key c.args.c.now
shown c = record { there = c.requires.there; case = λ v h. sym (c.is_primary_key.ensures v h) ∙ c.if-not-is_primary_key.false }

whole : (s : List ℕ) {v : Constraint} (k : IsKey v) → Holds constraint s v → Holds constraint s (primary_key k.marked k.names)
whole s k h = subst (Holds constraint s) k.is h

pub returns-then-not-is_primary_key : goal.returns-then-not-is_primary_key
returns-then-not-is_primary_key c = λ v h. sym (not_key c.args.j (has_key c.args.key) v (sym (c.is_primary_key.ensures v h) ∙ c.if-not-is_primary_key.true))

pub key_marked-requires : goal.key_marked-requires
key_marked-requires c = shown (goal.at.key_marked-requires c).Else-not-is_primary_key

pub returns-then-key_marked : goal.returns-then-key_marked
returns-then-key_marked c = λ v h.
    let k = key_of (goal.at.returns-then-key_marked c).Else-not-is_primary_key v h in
    sym (key_marked c.args.j (has_key c.args.key) k (sym (c.key_marked.ensures k.marked k.names (whole c.args.c.now k h)) ∙ c.if-key_marked.true))

pub key_names-requires : goal.key_names-requires
key_names-requires c = shown (goal.at.key_names-requires c).Else-not-is_primary_key

pub parts-requires : goal.parts-requires
parts-requires c =
    let s = shown (goal.at.parts-requires c).Else-not-is_primary_key in
    held {f = constraint} (record { there = s.there }) (λ v h.
    let k = key_of (goal.at.parts-requires c).Else-not-is_primary_key v h in
    (search rules, list_bundle name (is_held {f = list_of 2 name} (c.key_names.ensures k.marked k.names (whole c.args.c.now k h)))))

pub returns-then-parts-eq0 : goal.returns-then-parts-eq0
returns-then-parts-eq0 c = λ v h.
    let k = key_of (goal.at.returns-then-parts-eq0 c).Else-not-is_primary_key v h in
    let e = list_count name _ (c.key_names.ensures k.marked k.names (whole c.args.c.now k h)) in
    sym (key_empty c.args.j (has_key c.args.key) k (sym (c.key_marked.ensures k.marked k.names (whole c.args.c.now k h)) ∙ c.if-key_marked.false) (empty_is k.names (e ∙ sym c.parts.ensures ∙ c.if-parts-eq0.true)))

pub returns-then-is_second : goal.returns-then-is_second
returns-then-is_second c = λ v h.
    let k = key_of (goal.at.returns-then-is_second c).Else-not-is_primary_key v h in
    let e = list_count name _ (c.key_names.ensures k.marked k.names (whole c.args.c.now k h)) in
    sym (key_second c.args.j (has_key c.args.key) k (sym (c.key_marked.ensures k.marked k.names (whole c.args.c.now k h)) ∙ c.if-key_marked.false)
    (not_empty k.names (λ z. c.if-parts-eq0.false (c.parts.ensures ∙ sym e ∙ z))) (sym c.is_second.ensures ∙ c.if-is_second.true))

pub returns : goal.returns
returns c = λ v h.
    let k = key_of (goal.at.returns c).Else-not-is_primary_key v h in
    let e = list_count name _ (c.key_names.ensures k.marked k.names (whole c.args.c.now k h)) in
    sym (key_first c.args.j (has_key c.args.key) k (sym (c.key_marked.ensures k.marked k.names (whole c.args.c.now k h)) ∙ c.if-key_marked.false)
    (not_empty k.names (λ z. c.if-parts-eq0.false (c.parts.ensures ∙ sym e ∙ z))) (sym c.is_second.ensures ∙ c.if-is_second.false))
