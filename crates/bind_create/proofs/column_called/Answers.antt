-- `bind_create::column_called` meets its contract. The invariant: the name finds among the columns that are left what it finds among all of them.
use borrow.Author.Rules.{rules}
use Prim.Native.Nat.{◌+◌}
use mathlib.Core.Path.{◌≡◌, sym, ap, ◌∙◌}
use mathlib.Core.Option.{some}
use lib.ListN.{drop}
use mathlib.Core.Logic.{inl}
use native.Mathlib.Omega.{arith}
use lib.ListN.{length}
use Rattle.std.specs.Iterator.Adapters.{enumerate_count, enumerate_source}
use Rattle.bytes_bundle.specs.declared.parts_iter.Parts.{Parts}
use Rattle.bytes_bundle.specs.Left.{parts_left}
use Rattle.bytes_bundle.specs.Held.{held_once, list_bundle}
use Rattle.bytes_bundle.specs.Ahead.{ahead, ahead_stop, ahead_on, ahead_end}
use Rattle.bytes_bundle.specs.Numbered.{left_count, reached, reached_part, reached_on, valued, valued_is}
use Rattle.rules.specs.Names.{canonical}
use Rattle.rules.specs.Statements.{ColumnDefinition}
use Rattle.image_parts.specs.Layout.{column_definition}
use Rattle.bind_repeats.specs.Short.{short_inside, in_column}
use Rattle.bind_create.specs.Defined.{schema}
use Rattle.bind_create.specs.Keys.{ColumnFound}
use Rattle.bind_create.specs.Within.{short_at}
use Rattle.bind_create.proofs.Names.{schemas_hit, schemas_miss, schemas_over}
use Rattle.bind_create.proofs.column_called.Goals as goal

pub iter-requires : goal.iter-requires
iter-requires c = let r = list_bundle column_definition c.requires.0.short.is in search rules

pub loop-i-init : goal.loop-i-init
loop-i-init c =
    let n : enumerate_count c.into_iter-i-iterator.result ≡ 0 = cc in
    rw n (reached (cc), λ w h. ahead (cc))

pub loop-i-init-derived : goal.loop-i-init-derived
loop-i-init-derived c =
    let n : enumerate_count c.into_iter-i-iterator.result ≡ 0 = cc in
    let e : enumerate_source c.into_iter-i-iterator.result ≡ c.iter.result = cc in
    let k = ap (λ (p : Parts). length (parts_left p)) e ∙ left_count c.iter.result in
    ((tt, tt, inl (omega (arith, k, c.iter.type_inv))), tt)

pub column_name-requires : goal.column_name-requires
column_name-requires c = valued_is column_definition (reached_part c.loop-i.invariant.0 c.in-Some.ensures.steps.0) c.requires.0.short.is

pub are_alike_names-requires : goal.are_alike_names-requires
are_alike_names-requires c =
    (c.requires.1, short_inside (short_at c.requires.0.short (reached_part c.loop-i.invariant.0 c.in-Some.ensures.steps.0)) (in_column c.column_name.ensures))

pub returns-then-are_alike_names : goal.returns-then-are_alike_names
returns-then-are_alike_names c = λ cs w h k.
    let l = c.loop-i in
    let d = c.in-Some.ensures.steps in
    let i = enumerate_count l.i-iterator in
    let t = valued column_definition (reached_part l.invariant.0 d.0) h in
    let f : ColumnFound cs (canonical w) i = record {
      column = t.value;
      rest = drop (i + 1) cs;
      here = t.rest;
      is =
          ahead_stop (l.invariant.1 w k) d.0 (λ v m q.
          schemas_hit (canonical w) i v m (sym (c.are_alike_names.ensures w v.name k (c.column_name.ensures v q)) ∙ c.if-are_alike_names.true)
          ∙ ap (λ (v : ColumnDefinition). some (schema i v)) (held_once column_definition q t.holds)) cs h;
    } in
    rw d.1 f

pub loop-i-preserved : goal.loop-i-preserved
loop-i-preserved c =
    let l = c.loop-i in
    let d = c.in-Some.ensures.steps in
    rw d.2 (
      reached_on l.invariant.0 d.0,
      λ w k. ahead_on (l.invariant.1 w k) d.0 (λ v m q.
          schemas_miss (canonical w) (enumerate_count l.i-iterator) v m (sym (c.are_alike_names.ensures w v.name k (c.column_name.ensures v q)) ∙ c.if-are_alike_names.false)),
    )

pub returns : goal.returns
returns c = λ cs w h k.
    let l = c.loop-i in
    ahead_end (l.invariant.1 w k) c.in-None.ensures.steps.0.0 cs h ∙ schemas_over (canonical w) (enumerate_count l.i-iterator)
