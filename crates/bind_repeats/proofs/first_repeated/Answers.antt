-- `bind_repeats::first_repeated` meets its contract. The invariants: no entry before the one at hand repeats an earlier one; no entry passed by the inner loop is like the one at hand.
use borrow.Author.Rules.{rules}
use mathlib.Core.Path.{refl, ◌∙◌}
use native.Mathlib.Omega.{arith}
use Rattle.bytes_bundle.specs.Held.{along, along_on, list_bundle, part_is}
use Rattle.bind_repeats.specs.Entries.{form}
use Rattle.bind_repeats.specs.Short.{short_part, short_inside}
use Rattle.bind_repeats.proofs.Same.{in_named, names_compared}
use Rattle.bind_repeats.proofs.Search.{searching, like_none, like_none_on, repeat_found, searching_on, no_repeat}
use Rattle.bind_repeats.proofs.first_repeated.Goals as goal

pub parts-n-requires : goal.parts-n-requires
parts-n-requires c = (search rules, list_bundle (form c.args.of) c.requires.is)

pub first-at-requires : goal.first-at-requires
first-at-requires c = (search rules, list_bundle (form c.args.of) c.requires.is)

pub search-init : goal.search-init
search-init c = (along (form c.args.of) c.requires.is c.parts-n.ensures c.first-at.ensures, refl, searching)

pub next-end-requires : goal.next-end-requires
next-end-requires c = let a = c.search.invariant.0 in (search rules, a.bundle, a.here, omega (arith, a.count, c.search-test.true))

pub named-name-requires : goal.named-name-requires
named-name-requires c = part_is c.next-end.ensures c.requires.is

pub first-from-requires : goal.first-from-requires
first-from-requires c = (search rules, c.search.invariant.0.bundle)

pub loop-j-init : goal.loop-j-init
loop-j-init c =
    let o = c.search.invariant in
    (record { bundle = o.0.bundle; count = o.0.count; here = c.first-from.ensures }, search rules, o.1, like_none)

pub next-to-requires : goal.next-to-requires
next-to-requires c = let a = c.loop-j.invariant.0 in (search rules, a.bundle, a.here, omega (arith, a.count, c.loop-j-test.true, c.search-test.true))

pub named-requires : goal.named-requires
named-requires c = part_is c.next-to.ensures c.requires.is

pub are_alike-requires : goal.are_alike-requires
are_alike-requires c =
    let a = c.requires in
    (short_inside (short_part a c.next-end.ensures) (in_named c.named-name.ensures), short_inside (short_part a c.next-to.ensures) (in_named c.named.ensures))

pub loop-j-preserved : goal.loop-j-preserved
loop-j-preserved c =
    let l = c.loop-j.invariant in
    let d = c.next-to.ensures in
    let e = names_compared c.named-name.ensures c.named.ensures c.are_alike.ensures in
    (along_on l.0 d, search rules, l.2, like_none_on d e l.3 c.if-are_alike.false)

pub search-preserved : goal.search-preserved
search-preserved c =
    let l = c.loop-j.invariant in
    let o = c.search.invariant in
    let d = c.next-end.ensures in
    (along_on o.0 d, l.2, searching_on o.2 d l.3 (omega (arith, l.1, c.loop-j-test.false)))

pub returns-after-search : goal.returns-after-search
returns-after-search c =
    let o = c.search.invariant in
    λ vs k. o.1 ∙ no_repeat o.2 o.0 c.search-test.false vs k

pub returns-then-are_alike : goal.returns-then-are_alike
returns-then-are_alike c =
    let e = names_compared c.named-name.ensures c.named.ensures c.are_alike.ensures in
    repeat_found c.next-to.ensures e c.search.invariant.2 c.next-end.ensures refl c.loop-j-test.true c.if-are_alike.true
