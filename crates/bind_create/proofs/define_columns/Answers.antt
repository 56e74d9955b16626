-- `bind_create::define_columns` meets its contract. The invariant: with the columns and the key so far, the columns that are left make what all of them make.
use borrow.Author.Rules.{rules}
use mathlib.Core.Path.{◌≡◌, sym, ap, ◌∙◌, subst}
use Prim.Native.Nat.{ℕ}
use mathlib.Core.Logic.{inl}
use native.Mathlib.Omega.{arith}
use lib.ListN.{length}
use Rattle.std.specs.Iterator.Adapters.{enumerate_count, enumerate_source}
use Rattle.bytes_bundle.specs.declared.parts_iter.Parts.{Parts}
use Rattle.bytes_bundle.specs.Left.{parts_left}
use Rattle.bytes_bundle.specs.Held.{list_bundle, list_count}
use Rattle.bytes_bundle.specs.Numbered.{left_count, reached, reached_part, reached_on, reached_end, valued, valued_is}
use Rattle.image_parts.specs.Layout.{column_definition}
use Rattle.bind_repeats.specs.Repeats.{is_at}
use Rattle.bind_table.specs.Steps.{handed_on}
use Rattle.bind_create.specs.Keys.{ReadsColumns}
use Rattle.bind_create.specs.Columns.{columns_none, columns_stop, columns_on, columns_end}
use Rattle.bind_create.proofs.Columns.{judged_at, inlined_here, inlined_off, inlined_on}
use Rattle.bind_create.proofs.define_columns.Goals as goal

pub iter-requires : goal.iter-requires
iter-requires c = let r = list_bundle column_definition c.requires.0 in search rules

pub loop-i-init : goal.loop-i-init
loop-i-init c =
    let n : enumerate_count c.into_iter-i-iterator.result ≡ 0 = cc in
    rw n (reached (cc), λ cs h. columns_none cs)

pub loop-i-init-derived : goal.loop-i-init-derived
loop-i-init-derived c =
    let n : enumerate_count c.into_iter-i-iterator.result ≡ 0 = cc in
    let e : enumerate_source c.into_iter-i-iterator.result ≡ c.iter.result = cc in
    let k = ap (λ (p : Parts). length (parts_left p)) e ∙ left_count c.iter.result in
    ((tt, tt, inl (omega (arith, k, c.iter.type_inv))), tt)

pub define_column-requires : goal.define_column-requires
define_column-requires c = valued_is column_definition (reached_part c.loop-i.invariant.0 c.in-Some.ensures.steps.0) c.requires.0

pub returns-in_err-key : goal.returns-in_err-key
returns-in_err-key c = λ cs h.
    let l = c.loop-i in
    let d = c.in-Some.ensures.steps in
    let i = enumerate_count l.i-iterator in
    let t = valued column_definition (reached_part l.invariant.0 d.0) h in
    let p = c.is_at.ensures ∙ ap (λ (i : ℕ). is_at i c.args.place) d.1 ∙ ap (is_at i) (c.requires.1 cs h) in
    let e = inlined_here l.key _ t.value d.1 (c.define_column.ensures t.value t.holds) in
    subst (ReadsColumns cs) (sym (handed_on c.from_residual.ensures.1))
    (columns_stop (l.invariant.1 cs h) t.rest (inlined_off i l.key _ (judged_at i l.key t.value e p) c.in_err-key.was))

pub loop-i-preserved : goal.loop-i-preserved
loop-i-preserved c =
    let l = c.loop-i in
    let d = c.in-Some.ensures.steps in
    let i = enumerate_count l.i-iterator in
    rw d.2 (
      reached_on l.invariant.0 d.0,
      λ cs h.
          let t = valued column_definition (reached_part l.invariant.0 d.0) h in
          let p = c.is_at.ensures ∙ ap (λ (i : ℕ). is_at i c.args.place) d.1 ∙ ap (is_at i) (c.requires.1 cs h) in
          let e = inlined_here l.key _ t.value d.1 (c.define_column.ensures t.value t.holds) in
          columns_on (l.invariant.1 cs h) t.rest (inlined_on _ (judged_at i l.key t.value e p) c.in_ok-key.was),
    )

pub returns : goal.returns
returns c = λ cs h.
    let l = c.loop-i in
    columns_end (l.invariant.1 cs h) (omega (arith, list_count column_definition c.args.s.now h, reached_end l.invariant.0 c.in-None.ensures.steps.0.0))
