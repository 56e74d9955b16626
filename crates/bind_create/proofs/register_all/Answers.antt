-- `bind_create::register_all` meets its contract. The invariant: with the key so far, the constraints that are left make what all of them make.
use borrow.Author.Rules.{rules}
use mathlib.Core.Path.{◌≡◌, sym, ap, ◌∙◌, subst}
use Prim.Native.Nat.{ℕ}
use mathlib.Core.Logic.{inl}
use native.Mathlib.Omega.{arith}
use lib.ListN.{length}
use Rattle.std.specs.Iterator.Adapters.{enumerate_count, enumerate_source}
use Rattle.bytes_bundle.specs.declared.parts_iter.Parts.{Parts}
use Rattle.bytes_bundle.specs.Left.{parts_left}
use Rattle.bytes_bundle.specs.Held.{list_bundle, list_count}
use Rattle.bytes_bundle.specs.Numbered.{left_count, reached, reached_part, reached_on, reached_end, valued, valued_is}
use Rattle.image_parts.specs.Layout.{constraint}
use Rattle.bind_table.specs.Steps.{handed_on}
use Rattle.bind_create.specs.Keys.{has_key, constrained, ReadsConstraints}
use Rattle.bind_create.proofs.Constraints.{constraints_none, constraints_stop, constraints_on, constraints_end}
use Rattle.bind_create.proofs.register_all.Goals as goal

pub iter-requires : goal.iter-requires
iter-requires c = let r = list_bundle constraint c.requires in search rules

pub loop-j-init : goal.loop-j-init
loop-j-init c =
    let n : enumerate_count c.into_iter-j-iterator.result ≡ 0 = cc in
    rw n (reached (cc), λ cs ds names h k. constraints_none k)

pub loop-j-init-derived : goal.loop-j-init-derived
loop-j-init-derived c =
    let n : enumerate_count c.into_iter-j-iterator.result ≡ 0 = cc in
    let e : enumerate_source c.into_iter-j-iterator.result ≡ c.iter.result = cc in
    let k = ap (λ (p : Parts). length (parts_left p)) e ∙ left_count c.iter.result in
    ((tt, tt, inl (omega (arith, k, c.iter.type_inv))), tt)

pub register-requires : goal.register-requires
register-requires c = valued_is constraint (reached_part c.loop-j.invariant.0 c.in-Some.ensures.steps.0) c.requires

pub returns-in_err-key : goal.returns-in_err-key
returns-in_err-key c = λ cs ds names h k.
    let l = c.loop-j in
    let d = c.in-Some.ensures.steps in
    let t = valued constraint (reached_part l.invariant.0 d.0) h in
    let e = c.register.ensures t.value t.holds ∙ ap (λ (j : ℕ). constrained j (has_key l.key) t.value) d.1 in
    subst (ReadsConstraints cs ds names) (sym (handed_on c.from_residual.ensures.1))
    (constraints_stop (l.invariant.1 cs ds names h k) t.rest e c.in_err-key.was)

pub loop-j-preserved : goal.loop-j-preserved
loop-j-preserved c =
    let l = c.loop-j in
    let d = c.in-Some.ensures.steps in
    rw d.2 (
      reached_on l.invariant.0 d.0,
      λ cs ds names h k.
          let t = valued constraint (reached_part l.invariant.0 d.0) h in
          let e = c.register.ensures t.value t.holds ∙ ap (λ (j : ℕ). constrained j (has_key l.key) t.value) d.1 in
          constraints_on (l.invariant.1 cs ds names h k) t.rest e c.in_ok-key.was,
    )

pub returns : goal.returns
returns c = λ cs ds names h k.
    let l = c.loop-j in
    constraints_end (l.invariant.1 cs ds names h k) (omega (arith, list_count constraint c.args.s.now h, reached_end l.invariant.0 c.in-None.ensures.steps.0.0))
