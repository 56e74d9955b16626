-- `write_create::name_ids` meets its contract. The invariant: with the ids so far, the names that are left make the ids of all.
use borrow.Author.Rules.{rules}
use Prim.Native.Nat.{◌<◌}
use mathlib.Core.Path.{◌≡◌, ap, ◌∙◌}
use mathlib.Core.Logic.{inl}
use native.Mathlib.Omega.{arith}
use lib.ListN.{length, length-set}
use Rattle.std.specs.Iterator.Adapters.{enumerate_count, enumerate_source}
use Rattle.bytes_bundle.specs.declared.parts_iter.Parts.{Parts}
use Rattle.bytes_bundle.specs.Held.{list_bundle, list_count}
use Rattle.bytes_bundle.specs.Left.{parts_left}
use Rattle.bytes_bundle.specs.Numbered.{reached, reached_part, reached_on, reached_end, valued}
use Rattle.bind_repeats.specs.Short.{short_entry}
use Rattle.image_parts.specs.Layout.{name}
use Rattle.bind_create.specs.Defined.{schemas}
use Rattle.write_create.proofs.Ids.{names_more, names_over}
use Rattle.write_create.proofs.name_ids.Goals as goal

pub iter-requires : goal.iter-requires
iter-requires c = let r = list_bundle name c.requires.1.short.is in search rules

pub loop-k-init : goal.loop-k-init
loop-k-init c =
    let n : enumerate_count c.into_iter-k-iterator.result ≡ 0 = cc in
    rw n (reached (cc), omega arith, omega arith, λ cs ns l h k e. e)

pub loop-k-init-derived : goal.loop-k-init-derived
loop-k-init-derived c =
    let n : enumerate_count c.into_iter-k-iterator.result ≡ 0 = cc in
    let e : enumerate_source c.into_iter-k-iterator.result ≡ c.iter.result = cc in
    let k = ap (λ (p : Parts). length (parts_left p)) e ∙ ap length c.iter.ensures in
    ((tt, tt, inl (omega (arith, n, k, c.requires.1.few))), tt)

pub id_of-requires : goal.id_of-requires
id_of-requires c = (c.requires.0, short_entry c.requires.1.short (reached_part c.loop-k.invariant.0 c.in-Some.ensures.steps.0))

pub offset_bounds-ids-k : goal.offset_bounds-ids-k
offset_bounds-ids-k c =
    let h = c.in-Some.ensures.steps in
    omega (arith, h.1, (reached_part c.loop-k.invariant.0 h.0).few, c.requires.1.few)

pub bounds-ids-k : goal.bounds-ids-k
bounds-ids-k c =
    let h = c.in-Some.ensures.steps in
    omega (arith, h.1, (reached_part c.loop-k.invariant.0 h.0).few, c.requires.1.few)

pub loop-k-preserved : goal.loop-k-preserved
loop-k-preserved c =
    let l = c.loop-k in
    let h = c.in-Some.ensures.steps in
    let d = reached_part l.invariant.0 h.0 in
    let few : enumerate_count l.k-iterator < 64 = omega (arith, d.few, c.requires.1.few) in
    rw (h.2, h.1) (
      reached_on l.invariant.0 h.0,
      omega (arith, few),
      length-set l.ids _ _ ∙ l.invariant.2,
      λ cs ns x i k e.
          let t = valued name d k in
          names_more (schemas 0 cs) l.ids (enumerate_count l.k-iterator) ns (l.invariant.3 cs ns x i k e) t.rest (omega (arith, few, l.invariant.2)) (λ y f. c.id_of.ensures cs t.value y i t.holds f),
    )

pub returns : goal.returns
returns c = λ cs ns x h k e.
    let l = c.loop-k in
    let n = list_count name c.args.names.now k in
    names_over (schemas 0 cs) l.ids (enumerate_count l.k-iterator) ns (l.invariant.3 cs ns x h k e)
    (omega (arith, n, reached_end l.invariant.0 c.in-None.ensures.steps.0.0)) (omega (arith, l.invariant.1, l.invariant.2))
