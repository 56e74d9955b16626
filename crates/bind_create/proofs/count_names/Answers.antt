-- `bind_create::count_names` meets its contract. The invariant: each name before the one at hand stands for a column of its own.
use borrow.Author.Rules.{rules}
use mathlib.Core.Path.{◌≡◌, refl, sym, ap, ◌∙◌, subst}
use mathlib.Core.Logic.{inl}
use native.Mathlib.Omega.{arith}
use lib.ListN.{length}
use Rattle.std.specs.Iterator.Adapters.{enumerate_count, enumerate_source}
use Rattle.bytes_bundle.specs.declared.parts_iter.Parts.{Parts}
use Rattle.bytes_bundle.specs.Left.{parts_left}
use Rattle.bytes_bundle.specs.Held.{list_bundle, list_count}
use Rattle.bytes_bundle.specs.Numbered.{left_count, reached, reached_part, reached_on, reached_end, valued}
use Rattle.bind_repeats.specs.Repeats.{is_at}
use Rattle.std.specs.Prelude.{ℕ, Ok, Err, Option, Some, None}
use Rattle.std.specs.Option.{ok_or}
use Rattle.bind_table.specs.Steps.{classed, handed_on}
use Rattle.rules.specs.declared.Class.{Class}
use Rattle.rules.specs.declared.Class.TheVariants.{SchemaMismatch}
use Rattle.rules.specs.Names.{canonical}
use Rattle.image_parts.specs.Layout.{name}
use Rattle.bind_create.specs.Keys.{counted, FindsColumn}
use Rattle.bind_create.specs.Within.{short_at}
use Rattle.bind_create.proofs.Names.{names_none, names_unknown, names_repeated, names_on, names_end}
use Rattle.bind_create.proofs.count_names.Goals as goal

-- what `ok_or` says of what it is asked
there : (o : Option ℕ) (k : Class) {i : ℕ} → ok_or o k ≡ Ok i → o ≡ Some i
there None k e = let z : ◌≡◌ {A = ℕ} 0 1 = cc in absurd (omega arith)
there (Some j) k e = cc

nowhere : (o : Option ℕ) (k : Class) {l : Class} → ok_or o k ≡ Err l → (o ≡ None) × (k ≡ l)
nowhere None k e = (refl, cc)
nowhere (Some j) k e = let z : ◌≡◌ {A = ℕ} 0 1 = cc in absurd (omega arith)

pub first_repeated-place-requires : goal.first_repeated-place-requires
first_repeated-place-requires c = c.requires.1.short

pub iter-requires : goal.iter-requires
iter-requires c = let r = list_bundle name c.requires.1.short.is in search rules

pub loop-k-init : goal.loop-k-init
loop-k-init c =
    let n : enumerate_count c.into_iter-k-iterator.result ≡ 0 = cc in
    rw n (reached (cc), omega arith, λ cs ns h k. names_none cs ns)

pub loop-k-init-derived : goal.loop-k-init-derived
loop-k-init-derived c =
    let n : enumerate_count c.into_iter-k-iterator.result ≡ 0 = cc in
    let e : enumerate_source c.into_iter-k-iterator.result ≡ c.iter.result = cc in
    let k = ap (λ (p : Parts). length (parts_left p)) e ∙ left_count c.iter.result in
    ((tt, tt, inl (omega (arith, k, c.iter.type_inv))), tt)

pub column_called-requires : goal.column_called-requires
column_called-requires c = (c.requires.0, short_at c.requires.1.short (reached_part c.loop-k.invariant.0 c.in-Some.ensures.steps.0))

pub returns-in_err-ok_or : goal.returns-in_err-ok_or
returns-in_err-ok_or c = λ cs ns h k.
    let t = valued name (reached_part c.loop-k.invariant.0 c.in-Some.ensures.steps.0) k in
    let n = nowhere c.column_called.result SchemaMismatch (sym c.ok_or.ensures.value ∙ c.in_err-ok_or.was) in
    let f = subst (FindsColumn cs (canonical t.value)) n.0 (c.column_called.ensures cs t.value h t.holds) in
    handed_on c.from_residual.ensures.1 ∙ ap (λ (l : Class). Err (classed l)) (sym n.1)
    ∙ sym (ap counted (names_unknown (c.loop-k.invariant.2 cs ns h k) t.rest f))

pub returns-then-is_at : goal.returns-then-is_at
returns-then-is_at c = λ cs ns h k.
    let d = c.in-Some.ensures.steps in
    let t = valued name (reached_part c.loop-k.invariant.0 d.0) k in
    let f = subst (FindsColumn cs (canonical t.value)) (there c.column_called.result SchemaMismatch (sym c.ok_or.ensures.value ∙ c.in_ok-ok_or.was)) (c.column_called.ensures cs t.value h t.holds) in
    let p = ap (λ (i : ℕ). is_at i c.first_repeated-place.result) (sym d.1) ∙ sym c.is_at.ensures ∙ c.if-is_at.true in
    let e = sym (ap (is_at (enumerate_count c.loop-k.k-iterator)) (c.first_repeated-place.ensures ns k)) ∙ p in
    sym (ap counted (names_repeated (c.loop-k.invariant.2 cs ns h k) t.rest f.is e))

pub loop-k-preserved : goal.loop-k-preserved
loop-k-preserved c =
    let d = c.in-Some.ensures.steps in
    let r = reached_part c.loop-k.invariant.0 d.0 in
    rw d.2 (
      reached_on c.loop-k.invariant.0 d.0,
      omega (arith, r.few),
      λ cs ns h k.
          let t = valued name r k in
          let f = subst (FindsColumn cs (canonical t.value)) (there c.column_called.result SchemaMismatch (sym c.ok_or.ensures.value ∙ c.in_ok-ok_or.was)) (c.column_called.ensures cs t.value h t.holds) in
          let p = ap (λ (i : ℕ). is_at i c.first_repeated-place.result) (sym d.1) ∙ sym c.is_at.ensures ∙ c.if-is_at.false in
          let e = sym (ap (is_at (enumerate_count c.loop-k.k-iterator)) (c.first_repeated-place.ensures ns k)) ∙ p in
          names_on (c.loop-k.invariant.2 cs ns h k) t.rest f.is e,
    )

pub parts-requires : goal.parts-requires
parts-requires c = let r = list_bundle name c.requires.1.short.is in search rules

pub returns : goal.returns
returns c = λ cs ns h k.
    let l = c.loop-k in
    let t = l.invariant.2 cs ns h k in
    let few = list_count name c.args.names.now k in
    let z = reached_end l.invariant.0 c.in-None.ensures.steps.0.0 in
    ap Ok (omega (arith, c.parts.ensures, l.invariant.1, z, t.count)) ∙ sym (ap counted (names_end t (omega (arith, few, z))))
