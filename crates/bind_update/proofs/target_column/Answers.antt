-- `bind_update::target_column` meets its contract.
use mathlib.Core.Path.{◌≡◌, sym, ap, ap₂, ◌∙◌, subst}
use mathlib.Core.Bool.{Bool}
use mathlib.Core.List.{List}
use Prim.Native.Nat.{ℕ, ◌≤◌}
use lib.ListN.{length}
use native.Mathlib.Omega.{arith}
use Rattle.bytes_bundle.specs.Held.{is_held, held_once}
use Rattle.catalogue_lookup.specs.Finds.{ColumnIs}
use Rattle.image_parts.specs.Layout.{object_name, assignment_target}
use Rattle.bind_expression.specs.Small.{name_length}
use Rattle.text_names.specs.Compared.{named}
use Rattle.bind_table.specs.Tables.{Only, only, only_is, only_short, only_value}
use Rattle.rules.specs.Lookup.{column_by_name}
use Rattle.rules.specs.Names.{canonical}
use Rattle.bind_update.specs.Targets.{target_column, TargetedAs, looked_up, TargetNamed, target_named, column_tuple, column_qualified, column_unknown, column_is}
use Rattle.bind_update.specs.Within.{target_short}
use Rattle.bind_update.proofs.target_column.Goals.{After-target_name-o}
use Rattle.bind_update.proofs.target_column.Goals.{After-only_name-n}
use Rattle.bind_update.proofs.target_column.Goals.{After-name_text}
use Rattle.bind_update.proofs.target_column.Goals as goal

-- past the first test there is a name, and past the second it has one part
object : (c : After-target_name-o) → TargetNamed c.args.g.now c.target_name-o.result.now
object c = target_named c.requires.1.is c.target_code.ensures c.if-target_code-eq0.false c.target_name-o.ensures

one : (c : After-only_name-n) → Only c.target_name-o.result.now c.only_name-n.result.now
one c = only (is_held {f = object_name} (object (goal.at.After-only_name-n c).After-target_name-o).part) c.object_name_code.ensures c.if-object_name_code-eq0.false c.only_name-n.ensures

short : (c : After-only_name-n) → length (one c).value.text ≤ 128
short c =
    let o = object (goal.at.After-only_name-n c).After-target_name-o in
    (only_short (one c) (target_short c.requires.1 o.whole o.part)).short (one c).value (one c).part

-- the name as it is compared
compared : (c : After-name_text) → canonical (named c.name_is_quoted.result c.name_text.result.now) ≡ canonical (one (goal.at.After-name_text c).After-only_name-n).value
compared c =
    let w = one (goal.at.After-name_text c).After-only_name-n in
    ap₂ (λ (q : Bool) (s : List ℕ). canonical (named q s)) (c.name_is_quoted.ensures w.value w.part) (c.name_text.ensures w.value w.part)

pub returns-then-target_code-eq0 : goal.returns-then-target_code-eq0
returns-then-target_code-eq0 c = λ v x hv hx. column_tuple v x (sym (c.target_code.ensures x hx) ∙ c.if-target_code-eq0.true)

pub object_name_code-requires : goal.object_name_code-requires
object_name_code-requires c = is_held {f = object_name} (object (goal.at.object_name_code-requires c).After-target_name-o).part

pub returns-then-object_name_code-eq0 : goal.returns-then-object_name_code-eq0
returns-then-object_name_code-eq0 c = λ v x hv hx.
    let o = object (goal.at.returns-then-object_name_code-eq0 c).After-target_name-o in
    column_qualified v x (held_once assignment_target hx o.whole) (sym (c.object_name_code.ensures o.value o.part) ∙ c.if-object_name_code-eq0.true)

pub only_name-n-requires : goal.only_name-n-requires
only_name-n-requires c = is_held {f = object_name} (object (goal.at.only_name-n-requires c).After-target_name-o).part

pub name_is_quoted-requires : goal.name_is_quoted-requires
name_is_quoted-requires c = only_is (one (goal.at.name_is_quoted-requires c).After-only_name-n)

pub name_text-requires : goal.name_text-requires
name_text-requires c = only_is (one (goal.at.name_text-requires c).After-only_name-n)

pub find_column-requires : goal.find_column-requires
find_column-requires c =
    let w = one (goal.at.find_column-requires c).After-only_name-n in (
      c.requires.0,
      subst (λ (s : List ℕ). length s ≤ 128) (sym (c.name_text.ensures w.value w.part)) (short (goal.at.find_column-requires c).After-only_name-n),
    )

pub returns : goal.returns
returns c = λ v x hv hx.
    let w = one (goal.at.returns c).After-only_name-n in
    let o = object (goal.at.returns c).After-target_name-o in
    let same_name = sym (ap (column_by_name v) (compared (goal.at.returns c).After-name_text)) in
    let whole = held_once assignment_target hx o.whole in
    let found = column_by_name v (canonical (named c.name_is_quoted.result c.name_text.result.now)) in
    subst (TargetedAs (target_column v x)) (sym c.ok_or.ensures.value)
    (looked_up (target_column v x) c.find_column.result
    (λ r q.
    let f = subst (ColumnIs found) q (c.find_column.ensures v hv) in
    let e = same_name ∙ f.1 in
    record {
      column = record { value = f.0; is = f.2; short = omega (arith, ap length f.2.name, name_length v w.value e, short (goal.at.returns c).After-only_name-n) };
      gives = column_is v x whole (only_value w o.value o.part) e;
    })
    (λ q. column_unknown v x whole (only_value w o.value o.part) (same_name ∙ subst (ColumnIs found) q (c.find_column.ensures v hv))))
